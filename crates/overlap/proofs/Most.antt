-- The greatest of a run of numbers.
use Rattle.std.proofs.Common.{◌≡◌, ℕ, zero, suc, ◌+◌, ◌<◌, ◌≤◌, max, sym, ap, ◌∙◌, inl, inr, add-one, arith}
use Rattle.std.proofs.lemmas.Bool.{cases_lt, cases_order}
use Rattle.overlap.specs.Needs.{most}

pub most_next : (f : ℕ → ℕ) (n : ℕ) → most f (n + 1) ≡ max (most f n) (f n)
most_next f n = ap (most f) (add-one n)

-- each is at most the greatest
pub most_above : (f : ℕ → ℕ) (n k : ℕ) → k < n → f k ≤ most f n
most_above f zero k h = absurd (omega arith)
most_above f (suc n) k h =
    elim (cases_order k n) [
      | inl e ↦ (let same = ap f e in omega (arith, same))
      | inr o ↦ elim o [ inl lt ↦ omega (arith, most_above f n k lt) | inr gt ↦ absurd (omega arith) ]
    ]

-- the greatest is one of them, unless it is 0
pub most_met : (f : ℕ → ℕ) (n s : ℕ) → most f n ≡ s + 1 → (k : ℕ) × (k < n) × (f k ≡ s + 1)
most_met f zero s e = absurd (omega (arith, e))
most_met f (suc n) s e =
    elim (cases_lt (most f n) (f n)) [
      | inl lt ↦ (n, omega arith, omega (arith, e))
      | inr le ↦ (let m = most_met f n s (omega (arith, e)) in (m.0, omega (arith, m.1), m.2))
    ]

-- it never falls
pub most_rises : (f : ℕ → ℕ) (m n : ℕ) → m ≤ n → most f m ≤ most f n
most_rises f m zero h = (let e : m ≡ 0 = omega arith in omega (arith, ap (most f) e))
most_rises f m (suc n) h =
    elim (cases_lt n m) [
      | inl lt ↦ (let e : m ≡ suc n = omega arith in omega (arith, ap (most f) e))
      | inr le ↦ omega (arith, most_rises f m n le)
    ]

-- zeros past m add nothing
pub most_beyond : (f : ℕ → ℕ) (m n : ℕ) → m ≤ n → ((k : ℕ) → m ≤ k → f k ≡ 0) → most f n ≡ most f m
most_beyond f m zero h z = (let e : 0 ≡ m = omega arith in ap (most f) e)
most_beyond f m (suc n) h z =
    elim (cases_lt n m) [
      | inl lt ↦ (let e : suc n ≡ m = omega arith in ap (most f) e)
      | inr le ↦ omega (arith, z n le, most_beyond f m n le z)
    ]

-- a turn of a loop that takes the greatest
pub most_more : (f : ℕ → ℕ) (n m x y : ℕ) → m ≡ most f n → x ≡ f n → y ≡ max m x → y ≡ most f (n + 1)
most_more f n m x y a b c = c ∙ (ap (λ k. max k x) a ∙ (ap (max (most f n)) b ∙ sym (most_next f n)))
