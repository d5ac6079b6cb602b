-- Flat disks.
use Rattle.std.proofs.Common.{◌≡◌, ℕ, List, [], length, get_or, replicate, None, Ok, Err, Result, IfOk, Vec, vec_items, refl, ap, ◌∙◌}
use lib.ListN.{length-replicate, get_or-replicate}
use Rattle.model.specs.declared.phase.Phase.TheVariants.{Before}
use Rattle.model.specs.Disks.{SameDisk, created, disk_of}

pub created_is : (items : List (List ℕ)) (n : ℕ) → items ≡ replicate n (replicate 512 0) → SameDisk (created n) (disk_of items Before 0 0 None)
created_is items n e = record {
  size = ap length e ∙ length-replicate n (replicate 512 0);
  content = λ i lt. ap (λ l. get_or l i []) e ∙ get_or-replicate n i (replicate 512 0) [] lt;
  phase = refl;
  settled = refl;
  kept = refl;
  hand = refl;
}

-- so many clones of a sector of zeros
pub all_blank : {C : List ℕ → Type 0} {A E : Type 0} (r : Result (Vec (List ℕ) A) E) (n : ℕ) (z : List ℕ) → z ≡ replicate 512 0 → ((y : List ℕ) → C y → y ≡ z)
    → IfOk r (λ v. ((y : List ℕ) → C y → y ≡ z) → vec_items v ≡ replicate n z) → IfOk r (λ v. vec_items v ≡ replicate n (replicate 512 0))
all_blank (Ok v) n z e same h = h same ∙ ap (replicate n) e
all_blank (Err u) n z e same h = h
