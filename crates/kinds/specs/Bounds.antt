-- What the limits of a grid say of places, chunks and sectors.
use Rattle.std.specs.Prelude.{ℕ, ◌+◌, ◌*◌, ◌/◌, ◌%◌, ◌<◌, ◌≤◌}
use Rattle.std.proofs.Common.{mul_comm, mul_assoc, mul_right_comm, div-mul-le_self, arith}
use Rattle.std.proofs.Math.Nat.{le-mul_of_pos_right}
use Rattle.std.proofs.lemmas.Nat.{mul-le, le-div, div_below, mod_below}
use Rattle.kinds.specs.CellsLemmas.{cell_below, chunk_below}
use Rattle.kinds.specs.declared.grid.Grid.{Grid}
use Rattle.layout.specs.declared.TheConstants.{MOST_CAPACITY, MOST_DEPTH}

-- an offset in row q
pub offset_most : (g : Grid) (q i : ℕ) → q < g.chunks → q * g.chunk + i % g.chunk < MOST_DEPTH
offset_most g q i k =
    omega (arith, cell_below q g.chunk (i % g.chunk) g.chunks k (mod_below i g.chunk (omega arith)), mul_comm g.chunk g.chunks)

-- the row of offset o
pub offset_row : (g : Grid) (o : ℕ) → o < g.chunk * g.chunks → o / g.chunk < g.chunks
offset_row g o k = div_below o g.chunk g.chunks (omega arith) (omega (arith, mul_comm g.chunk g.chunks))

-- the row of sector i, where each of h rows has w chunks of data
pub sector_row : (g : Grid) (i w h : ℕ) → 1 ≤ w → i < h * (g.chunk * w) → i / g.chunk / w < h
sector_row g i w h a k = div_below (i / g.chunk) w h (omega arith) (chunk_below i g.chunk w h (omega arith) k)

-- peer a of row q, with d data in a row
pub peer_cell : (g : Grid) (q d a : ℕ) → q < g.chunks → d ≤ g.members → a < g.members → q * d + a < g.chunks * g.members
peer_cell g q d a x y z =
    omega (arith, mul-le q d q g.members (omega arith) y, cell_below q g.members a g.chunks x z)

-- the sectors of all chunks
pub grid_most : (g : Grid) → g.chunks * g.members * g.chunk ≤ MOST_CAPACITY
grid_most g =
    omega (arith, mul_right_comm g.chunks g.members g.chunk, mul_comm g.chunks g.chunk, mul-le (g.chunk * g.chunks) g.members MOST_DEPTH 16 (omega arith) (omega arith))

pub cells_most : (g : Grid) → g.chunks * g.members ≤ MOST_CAPACITY
cells_most g = omega (arith, grid_most g, le-mul_of_pos_right {m = g.chunk} (g.chunks * g.members) (omega arith))

-- the sectors of q rows of w chunks, which are no more chunks than all
pub rows_most : (g : Grid) (q w : ℕ) → q * w ≤ g.chunks * g.members → q * (g.chunk * w) ≤ MOST_CAPACITY
rows_most g q w k =
    omega (arith, grid_most g, mul_comm g.chunk w, mul_assoc q w g.chunk, mul-le (q * w) g.chunk (g.chunks * g.members) g.chunk k (omega arith))

-- a sector of chunk k
pub sector_most : (g : Grid) (k o : ℕ) → k < g.chunks * g.members → k * g.chunk + o % g.chunk < MOST_CAPACITY
sector_most g k o h =
    omega (arith, grid_most g, cell_below k g.chunk (o % g.chunk) (g.chunks * g.members) h (mod_below o g.chunk (omega arith)))

-- the rows of near copies: as often as f cells make a chunk
pub near_rows : (g : Grid) (f : ℕ) → 1 ≤ f → f ≤ g.members → (1 ≤ g.chunks * g.members / f) × (g.chunks * g.members / f ≤ g.chunks * g.members)
near_rows g f a b = (
  le-div 1 (g.chunks * g.members) f (omega arith) (omega (arith, mul-le 1 g.members g.chunks g.members (omega arith) (omega arith))),
  omega (arith, div-mul-le_self (g.chunks * g.members) f, mul-le (g.chunks * g.members / f) 1 (g.chunks * g.members / f) f (omega arith) (omega arith)),
)
