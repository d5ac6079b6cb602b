-- A sector lies in the first rows just where its own row is one of them.
use Rattle.std.proofs.Common.{◌≡◌, ℕ, ◌*◌, ◌/◌, ◌≤◌, cond, nat_lt, sym, ap₂, ◌∙◌, inl, inr, arith}
use Rattle.std.proofs.lemmas.Bool.{cases_lt, lt-ltb, le-ltb}
use Rattle.std.proofs.lemmas.Nat.{div_below, le-div}
use Rattle.overlap.specs.Homes.{home_of}
use Rattle.overlap.specs.declared.walk.Home.TheVariants.{Source, Target, Backup}

pub row_below : (i c p : ℕ) → 1 ≤ c → nat_lt (i / c) p ≡ nat_lt i (p * c)
row_below i c p h =
    elim (cases_lt i (p * c)) [
      | inl lt ↦ lt-ltb (i / c) p (div_below i c p (omega arith) lt) ∙ sym (lt-ltb i (p * c) lt)
      | inr le ↦ le-ltb (i / c) p (le-div p i c (omega arith) le) ∙ sym (le-ltb i (p * c) le)
    ]

-- a home by rows
pub home_by_rows : (a c p q i : ℕ) → 1 ≤ a → 1 ≤ c → home_of a c p q i ≡ cond (nat_lt (i / c) p) Target (cond (nat_lt (i / a) q) Backup Source)
home_by_rows a c p q i h k =
    sym (ap₂ (λ x y. cond x Target (cond y Backup Source)) (row_below i c p k) (row_below i a q h))
