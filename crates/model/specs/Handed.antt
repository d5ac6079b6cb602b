-- What a done call hands out.
use Rattle.std.specs.Prelude.{ℕ, List}

pub data Handed : Type 0 where
  Nothing : Handed
  -- a read its buffer
  Buffer : (content : List ℕ) → Handed
  -- begin the overlap distance
  Distance : (sectors : ℕ) → Handed
  -- copy the grant of this row
  Row : (row : ℕ) → Handed
  -- finish how many rows were settled and kept
  Counts : (rows kept : ℕ) → Handed
