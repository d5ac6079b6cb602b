use Rattle.std.proofs.Common.{refl, inr}
use Rattle.stage.specs.Checkpoint.{Checkpointed}
use Rattle.stage.specs.Arrays.{crew_of}
use Rattle.stage.proofs.Chains.{handed_on}
use Rattle.stage.proofs.array.Array.checkpoint.Goals as goal

pub returns-in_err-spread-clause-stage : goal.returns-in_err-spread-clause-stage
returns-in_err-spread-clause-stage g c =
    let met = c.in_err-spread.ensures.stage in
    let next = rw c.in_ok-head.ensures.ok_part at c.next.ensures in
    let h = c.args.self.now.head in
    handed_on (λ r. Checkpointed (crew_of g.L.Layout.geometry c.args.self.now) c.args.source c.args.progress c.args.armed h h (g.S.Shelf.meaning c.args.shelf.now) (g.S.Shelf.meaning c.spread.new.shelf) r)
    c.from_residual-in_err-spread.result _ c.from_residual-in_err-spread.ensures.1 (refl, inr (record { head = c.in_ok-head.head; next = next; fits = c.in_err-spread.ensures.fits; torn = met.0; met = met.1 }))
