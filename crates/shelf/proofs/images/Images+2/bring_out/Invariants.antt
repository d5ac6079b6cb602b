use Rattle.std.proofs.Common.{◌≡◌, vec_items}
use Rattle.shelf.specs.Trials.{Brought}
use Rattle.shelf.proofs.images.Images+2.bring_out.Given as goal

abbrev pub invariant-loop-member : goal.invariant-loop-member
invariant-loop-member l =
    let a = l.initial.self in
    (l.self.extent ≡ a.extent) × Brought a.extent.members a.extent.sectors l.controls l.member (vec_items a.bytes) (vec_items l.self.bytes)
