use Rattle.std.proofs.Common.{◌≡◌, inr, refl, subst}
use Rattle.model.specs.Ends.{Stage}
use Rattle.model.specs.Faults.{OnHeads}
use Rattle.model.specs.Images.{with_sector}
use Rattle.model.specs.Steps.{Passed}
use Rattle.stage.specs.Arrays.{crew_of}
use Rattle.stage.proofs.Stepping.{carried_after, not_begun, sector_covers, sector_written}
use Rattle.stage.proofs.array.Array.spread.Goals as goal

pub returns-clause-stage : goal.returns-clause-stage
returns-clause-stage g c =
    let w = crew_of g.L.Layout.geometry c.args.self.now in
    let a = g.S.Shelf.meaning c.args.shelf.now in
    let d = g.S.Shelf.meaning c.flush_all.new.shelf in
    let written = c.in_ok-write_all.ensures in
    subst (λ y. Stage w (λ k s x. x ≡ with_sector 0 y a.current k s) (OnHeads a) a d (λ u. Passed w (with_sector 0 y) a d) c.flush_all.result) c.encode.ensures.bytes
    (carried_after d (OnHeads a)
    (sector_written 0 c.encode.result (g.S.Shelf.meaning c.write_all.new.shelf) (not_begun w (with_sector 0 c.encode.result) (λ k s. ⊥) a (λ k s d. d)) (λ k. refl) written.0 written.1 written.2)
    (sector_covers (λ k s. ⊥) 0 c.encode.result a.current a (λ k s. inr refl)) (λ f n. inr n) c.flush_all.result c.flush_all.ensures)
