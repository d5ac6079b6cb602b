-- With no sectors there is nothing to keep.
use mathlib.Core.Path.{◌≡◌, refl}
use Prim.Native.Nat.{ℕ, zero, suc}
use native.Mathlib.Omega.{arith}
use Rattle.layout.specs.Geometry.{Geometry}
use Rattle.overlap.specs.Homes.{window_of}
use Rattle.overlap.specs.Needs.{distance_of, most, reach_of}

most_none : (f : ℕ → ℕ) → ((k : ℕ) → f k ≡ 0) → (n : ℕ) → most f n ≡ 0
most_none f z zero = refl
most_none f z (suc n) = omega (arith, z n, most_none f z n)

pub empty : (s t : Geometry) → distance_of s t 0 ≡ 0
empty s t = most_none (λ r. window_of s.row_len t.row_len r 0 (reach_of s t 0 r)) (λ r. omega arith) t.rows
