use Rattle.std.proofs.Common.{refl}
use Rattle.answer.specs.declared.Operation.TheVariants.{Flush}
use Rattle.model.specs.Ends.{Stage}
use Rattle.model.specs.Faults.{OnCell}
use Rattle.model.specs.May.{nothing}
use Rattle.stage.specs.Arrays.{crew_of}
use Rattle.stage.specs.Endings.{OnMember, only_writes}
use Rattle.stage.specs.Places.{PlacesFlushed}
use Rattle.stage.proofs.Chains.{handed_on, stage_after}
use Rattle.stage.proofs.Endings.{member_same, on_cell}
use Rattle.stage.proofs.Flushed.{flushed_bare, flushed_parity}
use Rattle.stage.proofs.array.Array.flush_places.Goals as goal

pub returns-in_err-flush_copies : goal.returns-in_err-flush_copies
returns-in_err-flush_copies g c =
    let w = crew_of g.L.Layout.geometry c.args.self.now in
    let a = g.S.Shelf.meaning c.args.shelf.now in
    let d = g.S.Shelf.meaning c.flush_copies.new.shelf in
    handed_on (λ r. Stage w nothing (OnMember only_writes a) a d (λ u. PlacesFlushed (g.L.Layout.geometry c.args.layout.now) c.args.sector d) r) c.from_residual.result _
    c.from_residual.ensures.1 c.in_err-flush_copies.ensures

pub returns-in-Some : goal.returns-in-Some
returns-in-Some g c =
    let x = g.L.Layout.geometry c.args.layout.now in
    let law = g.met.L.Layout.lawful c.args.layout.now in
    let a = g.S.Shelf.meaning c.args.shelf.now in
    let b = g.S.Shelf.meaning c.flush_copies.new.shelf in
    let d = g.S.Shelf.meaning c.flush_at.new.shelf in
    let s = c.in_ok-flush_copies.ensures in
    let m = c.parity.result.0 in
    stage_after nothing nothing (OnCell Flush b m 0) (OnMember only_writes a) _ _ s.0 s.1 (λ k n z p. p) (λ f n. member_same s.0 f (on_cell Flush refl b m 0 f n))
    (λ u later last. flushed_parity x law c.args.sector c.in-Some.group c.parity.result b d (rw c.in-Some.is at c.group.ensures) c.parity.ensures s.2 later last)
    c.flush_at.result c.flush_at.ensures.stage

pub returns-in-None : goal.returns-in-None
returns-in-None g c =
    let s = c.in_ok-flush_copies.ensures in
    (s.0, s.1, flushed_bare (g.L.Layout.geometry c.args.layout.now) c.args.sector (g.S.Shelf.meaning c.flush_copies.new.shelf) (rw c.in-None.is at c.group.ensures) s.2)
