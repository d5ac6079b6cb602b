use Rattle.std.proofs.Common.{◌<◌, ◌≤◌, arith}
use Rattle.stage.proofs.Looks.{looking_then}
use Rattle.stage.proofs.Shown.{copy_shown, group_shown}
use Rattle.stage.proofs.array.Array.show_in.Goals as goal

pub returns-in-Some-clause-shows : goal.returns-in-Some-clause-shows
returns-in-Some-clause-shows g c = λ has.
    let x = g.L.Layout.geometry c.args.layout.now in
    let b = g.S.Shelf.meaning c.loop-copy.shelf in
    let d = g.S.Shelf.meaning c.read_place.new.shelf in
    let s = rw c.in-Some.is at c.in_ok-content.ensures.stage in
    let l = looking_then c.loop-copy.invariant.0 s.0 s.1 in
    let lt : c.loop-copy.copy < x.copies = omega arith in (
      l.may,
      l.goes,
      copy_shown x (g.met.L.Layout.lawful c.args.layout.now) c.args.self.now.head.backup c.args.sector c.loop-copy.copy (g.S.Shelf.meaning c.args.shelf.now) b d
          c.place.result c.in-Some.content has c.loop-copy.invariant.0 (record { may = s.0; goes = s.1 }) c.loop-copy.invariant.1 lt c.place.ensures s.2,
    )

pub returns-clause-shows : goal.returns-clause-shows
returns-clause-shows g c = λ has.
    let x = g.L.Layout.geometry c.args.layout.now in
    let end : x.copies ≤ c.loop-copy.copy = omega arith in
    group_shown x c.args.self.now.head.backup c.args.sector c.loop-copy.copy (g.S.Shelf.meaning c.args.shelf.now) (g.S.Shelf.meaning c.loop-copy.shelf)
    (g.S.Shelf.meaning c.rebuild.new.shelf) c.rebuild.result has c.loop-copy.invariant.0 c.loop-copy.invariant.1 end c.rebuild.ensures.shows
