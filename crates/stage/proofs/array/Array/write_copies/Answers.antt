use Rattle.std.proofs.Common.{◌<◌, arith}
use Rattle.stage.specs.Arrays.{crew_of}
use Rattle.model.specs.Ends.{Stage}
use Rattle.stage.specs.Endings.{OnMember, only_writes}
use Rattle.stage.specs.Places.{AtCopies, CopiesHold}
use Rattle.stage.proofs.Chains.{handed_on}
use Rattle.stage.proofs.Endings.{going_then, met_after, met_ends}
use Rattle.model.proofs.Mays.{may_wider}
use Rattle.stage.proofs.Written.{copies_more, copy_at}
use Rattle.stage.proofs.array.Array.write_copies.Goals as goal

pub returns-in_err-write_place : goal.returns-in_err-write_place
returns-in_err-write_place g c =
    let w = crew_of g.L.Layout.geometry c.args.self.now in
    let x = g.L.Layout.geometry c.args.layout.now in
    let backup = c.args.self.now.head.backup in
    let P = AtCopies x backup c.args.sector c.args.datum.now in
    let a = g.S.Shelf.meaning c.args.shelf.now in
    let b = g.S.Shelf.meaning c.loop-copy.shelf in
    let d = g.S.Shelf.meaning c.write_place.new.shelf in
    handed_on (λ r. Stage w P (OnMember only_writes a) a d (λ u. CopiesHold x backup c.args.sector x.copies c.args.datum.now d) r)
    c.from_residual.result _ c.from_residual.ensures.1
    (met_after {P = P} d c.loop-copy.invariant.0 _ (met_ends w _ P _ _ b d
    (copy_at x backup c.args.sector c.loop-copy.copy c.place.result c.args.datum.now c.place.ensures (omega arith))
    (λ f n. n) _ c.in_err-write_place.ensures))

pub loop-copy-preserved : goal.loop-copy-preserved
loop-copy-preserved g c =
    let x = g.L.Layout.geometry c.args.layout.now in
    let backup = c.args.self.now.head.backup in
    let lt : c.loop-copy.copy < x.copies = omega arith in
    let s = c.in_ok-write_place.ensures in
    let m = may_wider (copy_at x backup c.args.sector c.loop-copy.copy c.place.result c.args.datum.now c.place.ensures lt) s.0 in (
      going_then {P = AtCopies x backup c.args.sector c.args.datum.now} c.loop-copy.invariant.0 m s.1,
      copies_more x backup c.args.sector c.loop-copy.copy c.place.result c.args.datum.now (g.S.Shelf.meaning c.loop-copy.shelf)
          (g.S.Shelf.meaning c.write_place.new.shelf) c.place.ensures lt m s.2 c.loop-copy.invariant.1,
    )
