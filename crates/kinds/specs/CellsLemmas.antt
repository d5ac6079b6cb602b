-- Quotients and remainders: a row below h and a rest below c make a number below h rows of c, and back.
use Rattle.std.specs.Prelude.{ℕ, ◌+◌, ◌*◌, ◌/◌, ◌<◌, ◌≤◌}
use Rattle.std.proofs.Common.{mul_comm, mul_assoc, div-mul-le_self, arith}
use Rattle.std.proofs.lemmas.Nat.{mul-le, mul-add-lt, div_below}

-- row q and rest r
pub cell_below : (q c r h : ℕ) → q < h → r < c → q * c + r < h * c
cell_below q c r h a b = omega (arith, mul-add-lt q c r h a b, mul_comm c h)

-- the chunk of number i, in h rows of w chunks of c
pub chunk_below : (i c w h : ℕ) → 1 ≤ c → i < h * (c * w) → i / c < h * w
chunk_below i c w h a k = div_below i c (h * w) (omega arith) (omega (arith, mul_assoc h w c, mul_comm c w))

-- copy j of chunk k, where each of m div f chunks has f copies
pub copy_below : (k f j m : ℕ) → k < m / f → j < f → k * f + j < m
copy_below k f j m a b = omega (arith, cell_below k f j (m / f) a b, div-mul-le_self m f)

-- at least one of each makes at least one
pub product_some : (a b : ℕ) → 1 ≤ a → 1 ≤ b → 1 ≤ a * b
product_some a b h k = mul-le 1 1 a b h k

pub product_least : (a b : ℕ) → 1 ≤ b → a ≤ a * b
product_least a b h = omega (arith, mul-le a 1 a b (omega arith) h)
