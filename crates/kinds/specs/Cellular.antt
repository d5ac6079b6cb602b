-- What the cells of a kind over a grid keep, with chunks of one sector.
use Rattle.std.specs.Prelude.{◌≡◌, ℕ, ◌+◌, ◌*◌, ◌/◌, ◌<◌, ◌≤◌, Option, Some, None}
use Rattle.layout.specs.declared.kind.Kind.{Kind}
use Rattle.layout.specs.declared.label.Label.{Label}
use Rattle.layout.specs.Geometry.{Geometry}
use Rattle.layout.specs.Lawful.{Loss, Placing, Grouping}
use Rattle.kinds.specs.Labels.{labelled}
use Rattle.kinds.specs.declared.grid.Grid.{Grid}

-- the label of a layout of kind k with f copies over a grid
abbrev pub grid_label : Kind → ℕ → Grid → Label
grid_label k f g = labelled k f g.members g.chunk g.chunks

-- each row has one parity, and its data are one group
pub record RowParity (g : Geometry) : Type 0 where
  pub groups : g.groups ≡ g.depth
  pub group : (k : ℕ) → g.group k ≡ k / g.row_len
  pub peers : (s : ℕ) → g.peers s ≡ g.row_len
  pub peer : (s a : ℕ) → g.peer s a ≡ s * g.row_len + a

-- the member with the parity of row s, where there is parity
abbrev pub ParityAt : Geometry → ℕ → Option ℕ → Type 0
ParityAt g s None = g.groups ≡ 0
ParityAt g s (Some m) = RowParity g × (g.parity s ≡ (m, s))

-- cells over a grid
pub record Cellular (grid : Grid) (g : Geometry) : Type 0 where
  pub members : g.members ≡ grid.members
  pub depth : g.depth ≡ grid.chunks
  pub copies_some : 1 ≤ g.copies
  pub copies_most : g.copies ≤ grid.members
  pub row_some : 1 ≤ g.row_len
  pub rows_some : 1 ≤ g.rows
  pub room : g.rows * g.row_len ≤ grid.chunks * grid.members
  pub parity_row : (x : ℕ) → x < g.groups → (g.parity x).1 ≡ x
  pub parity : 0 < g.groups → RowParity g
  pub loss : Loss g
  pub placing : Placing g
  pub grouping : Grouping g

-- the member with the parity of sector x of a group of chunks, where there is such a group
abbrev pub GroupParity : Grid → Geometry → ℕ → Option ℕ → Type 0
GroupParity grid g x None = x < grid.chunk * g.groups → ⊥
GroupParity grid g x (Some m) = (x < grid.chunk * g.groups) × RowParity g × (g.parity (x / grid.chunk) ≡ (m, x / grid.chunk))
