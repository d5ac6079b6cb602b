-- The distance is enough for every keep that a copy waits for.
use Rattle.std.proofs.Common.{◌≡◌, ℕ, ◌+◌, ◌<◌, ◌≤◌, min, ltb, sym, ap, ◌∙◌, inl, inr, mul-le-mul_right, arith}
use Rattle.std.proofs.lemmas.Bool.{cases_lt, cond-false, le-ltb}
use Rattle.std.proofs.lemmas.Nat.{mul-le}
use Rattle.layout.specs.Geometry.{Geometry}
use Rattle.layout.specs.Lawful.{Lawful}
use Rattle.overlap.specs.Homes.{window_of}
use Rattle.overlap.specs.Needs.{most, need_of, reach_of, distance_of}
use Rattle.overlap.proofs.Most.{most_above, most_beyond}
use Rattle.layout.specs.declared.TheConstants.{MOST_CAPACITY}

-- rows past the target's have no need
pub need_beyond : (s t : Geometry) (size r : ℕ) → t.rows ≤ r → need_of s t size r ≡ 0
need_beyond s t size r h = cond-false (ltb r t.rows) _ 0 (le-ltb r t.rows h)

pub enough : (s t : Geometry) (size p q : ℕ) → q < need_of s t size p → window_of s.row_len t.row_len p size (q + 1) ≤ distance_of s t size
enough s t size p q h =
    elim (cases_lt p t.rows) [
      | inr le ↦ absurd (omega (arith, h, need_beyond s t size p le))
      | inl lt ↦
          (let ahead : ℕ → ℕ = λ r. window_of s.row_len t.row_len r size (reach_of s t size r) in
          let reach : q + 1 ≤ reach_of s t size p = omega (arith, most_above (need_of s t size) (p + 1) p (omega arith)) in
          omega (arith, most_above ahead t.rows p lt, mul-le-mul_right s.row_len reach))
    ]

-- the reach of a row takes the target's rows only
pub reach_cut : (s t : Geometry) (size r n : ℕ) → n ≡ min (r + 1) t.rows → most (need_of s t size) n ≡ reach_of s t size r
reach_cut s t size r n e =
    elim (cases_lt (r + 1) t.rows) [
      | inl lt ↦ (let same : n ≡ r + 1 = omega arith in ap (most (need_of s t size)) same)
      | inr le ↦
          (let same : n ≡ t.rows = omega arith in
          ap (most (need_of s t size)) same ∙ sym (most_beyond (need_of s t size) t.rows (r + 1) le (need_beyond s t size)))
    ]

-- a layout has fewer rows than a number of 64 bits can count
pub rows_few : (t : Geometry) → Lawful t → t.rows ≤ MOST_CAPACITY
rows_few t law = omega (arith, law.limits.capacity_most, mul-le t.rows 1 t.rows t.row_len (omega arith) law.limits.row_some)
