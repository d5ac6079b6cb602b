-- Turning by some members: sums modulo the number of members.
use Rattle.std.specs.Prelude.{◌≡◌, ℕ, ◌+◌, ◌-◌, ◌%◌, ◌<◌, ◌≤◌, ◌⊎◌}
use Rattle.std.proofs.Common.{sym, ap, ◌∙◌, inl, inr, mod-eq_of_lt, arith}
use Rattle.std.proofs.Math.Nat.{mod-eq-sub-mod, mod-add-mod}
use Rattle.std.proofs.lemmas.Nat.{mod_below}
use Rattle.std.proofs.lemmas.Bool.{cases_lt}

once : (x n : ℕ) → x < n + n → n ≤ x → x % n + n ≡ x
once x n h le = omega (arith, mod-eq-sub-mod le, mod-eq_of_lt {n = x - n} {m = n} (omega arith))

-- at most once round
pub round : (x n : ℕ) → x < n + n → ((x < n) × (x % n ≡ x)) ⊎ ((n ≤ x) × (x % n + n ≡ x))
round x n h = elim (cases_lt x n) [ inl lt ↦ inl (lt, mod-eq_of_lt lt) | inr le ↦ inr (le, once x n h le) ]

-- different turns of less than once round end on different members
apart_below : (u j k n : ℕ) → u < n → j < n → k < n → (u + j) % n ≡ (u + k) % n → j ≡ k
apart_below u j k n a b c e =
    elim (round (u + j) n (omega arith)) [
      | inl x ↦ elim (round (u + k) n (omega arith)) [ inl y ↦ omega arith | inr y ↦ omega arith ]
      | inr x ↦ elim (round (u + k) n (omega arith)) [ inl y ↦ omega arith | inr y ↦ omega arith ]
    ]

pub turns_apart : (a j k n : ℕ) → j < n → k < n → (a + j) % n ≡ (a + k) % n → j ≡ k
turns_apart a j k n b c e =
    apart_below (a % n) j k n (mod_below a n (omega arith)) b c (mod-add-mod a n j ∙ (e ∙ sym (mod-add-mod a n k)))

back_below : (u j n : ℕ) → u < n → j < n → ((u + j) % n + n - j) % n ≡ u
back_below u j n a b =
    elim (round (u + j) n (omega arith)) [
      | inl x ↦ elim (round ((u + j) % n + n - j) n (omega arith)) [ inl y ↦ omega arith | inr y ↦ omega arith ]
      | inr x ↦ elim (round ((u + j) % n + n - j) n (omega arith)) [ inl y ↦ omega arith | inr y ↦ omega arith ]
    ]

-- a turn and the same turn back
pub turn_back : (a j n : ℕ) → j < n → ((a + j) % n + n - j) % n ≡ a % n
turn_back a j n b = ap (λ x. (x + n - j) % n) (sym (mod-add-mod a n j)) ∙ back_below (a % n) j n (mod_below a n (omega arith)) b

-- a turn back and the same turn
pub turn_forth : (m j n : ℕ) → m < n → j < n → ((m + n - j) % n + j) % n ≡ m
turn_forth m j n a b =
    elim (round (m + n - j) n (omega arith)) [
      | inl x ↦ elim (round ((m + n - j) % n + j) n (omega arith)) [ inl y ↦ omega arith | inr y ↦ omega arith ]
      | inr x ↦ elim (round ((m + n - j) % n + j) n (omega arith)) [ inl y ↦ omega arith | inr y ↦ omega arith ]
    ]
