use Rattle.std.proofs.Common.{◌<◌, arith, refl}
use Rattle.answer.specs.declared.Operation.TheVariants.{Flush}
use Rattle.model.specs.Ends.{Stage}
use Rattle.model.specs.May.{nothing}
use Rattle.stage.specs.Arrays.{crew_of}
use Rattle.stage.specs.Endings.{OnMember, only_writes}
use Rattle.stage.specs.Places.{CopiesFlushed}
use Rattle.stage.proofs.Chains.{handed_on}
use Rattle.stage.proofs.Endings.{going_then, met_after, met_ends, on_cell}
use Rattle.stage.proofs.Flushed.{flushed_more}
use Rattle.stage.proofs.array.Array.flush_copies.Goals as goal

pub returns-in_err-flush_at : goal.returns-in_err-flush_at
returns-in_err-flush_at g c =
    let w = crew_of g.L.Layout.geometry c.args.self.now in
    let x = g.L.Layout.geometry c.args.layout.now in
    let a = g.S.Shelf.meaning c.args.shelf.now in
    let b = g.S.Shelf.meaning c.loop-copy.shelf in
    let d = g.S.Shelf.meaning c.flush_at.new.shelf in
    handed_on (λ r. Stage w nothing (OnMember only_writes a) a d (λ u. CopiesFlushed x c.args.sector x.copies d) r)
    c.from_residual.result _ c.from_residual.ensures.1
    (met_after d c.loop-copy.invariant.0 _ (met_ends w only_writes nothing nothing _ b d (λ k s z p. p) (on_cell Flush refl b c.place.result.0 0) _ c.in_err-flush_at.ensures.stage))

pub loop-copy-preserved : goal.loop-copy-preserved
loop-copy-preserved g c =
    let x = g.L.Layout.geometry c.args.layout.now in
    let lt : c.loop-copy.copy < x.copies = omega arith in
    let s = c.in_ok-flush_at.ensures.stage in (
      going_then c.loop-copy.invariant.0 s.0 s.1,
      flushed_more x c.args.sector c.loop-copy.copy c.place.result (g.S.Shelf.meaning c.loop-copy.shelf) (g.S.Shelf.meaning c.flush_at.new.shelf) c.place.ensures
          lt s.0 s.2 c.loop-copy.invariant.1,
    )
