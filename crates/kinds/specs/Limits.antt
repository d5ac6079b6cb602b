-- The numbers of a grid.
use Rattle.std.specs.Prelude.{◌≡◌, ℕ, ◌*◌, ◌/◌}

-- a grid of m members with h chunks of k is the one for n members, a chunk of c and a depth of d
abbrev pub Measured : (m k h n c d : ℕ) → Type 0
Measured m k h n c d = (m ≡ n) × (k ≡ c) × (h ≡ d / c) × (k * h ≡ d)
