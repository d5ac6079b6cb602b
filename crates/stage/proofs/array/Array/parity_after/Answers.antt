use Rattle.std.proofs.Common.{subst, sym, Ok}
use Rattle.stage.specs.Arrays.{crew_of}
use Rattle.stage.specs.Looks.{ShowsParity, homes_of}
use Rattle.stage.proofs.Shown.{no_parity_at_slot, parity_at_home}
use Rattle.stage.proofs.array.Array.parity_after.Goals as goal

pub returns-in-Some-clause-shows : goal.returns-in-Some-clause-shows
returns-in-Some-clause-shows g c =
    let place = g.L.Layout.geometry in
    let v = c.args.self.now in
    let is = rw c.in-Some.is at c.home_layout.ensures in
    parity_at_home (homes_of place v c.args.sector) (place v.source) (place v.target) (place c.in-Some.layout.now) v.head.backup c.args.sector c.args.datum.now
    (g.S.Shelf.meaning c.args.shelf.now) (g.S.Shelf.meaning c.parity_in.new.shelf) c.parity_in.result is c.parity_in.ensures.shows

pub returns-in-None-clause-shows : goal.returns-in-None-clause-shows
returns-in-None-clause-shows g c = λ has.
    let place = g.L.Layout.geometry in
    let v = c.args.self.now in
    let a = g.S.Shelf.meaning c.args.shelf.now in
    let is = rw c.in-None.is at c.home_layout.ensures in
    subst (λ x. ShowsParity (homes_of place v c.args.sector) (crew_of place v) (place v.source) (place v.target) v.head.backup c.args.sector c.args.datum.now a a (Ok x))
    (sym c.zeros.ensures) (no_parity_at_slot (homes_of place v c.args.sector) (place v.source) (place v.target) v.head.backup c.args.sector c.args.datum.now a is)
