-- The stock layouts: the label of each, and what it places where.
use Rattle.layout.specs.declared.kind.Kind.TheVariants as kind
use Rattle.layout.specs.declared.label.Label.{Label}
use Rattle.layout.specs.Geometry.{Geometry}
use Rattle.kinds.specs.Cellular.{grid_label}
use Rattle.kinds.specs.Cells.{striped_cells, left_cells, near_cells, far_cells}
use Rattle.kinds.specs.Chunked.{chunked}
use Rattle.kinds.specs.declared.stock.Stock.{Stock}
use Rattle.kinds.specs.declared.stock.Stock.TheVariants.{Striped, LeftSymmetric, Near, Far}

abbrev pub label_of : Stock → Label
label_of (Striped s) = grid_label kind.Striped 1 s.cells.grid
label_of (LeftSymmetric s) = grid_label kind.LeftSymmetric 1 s.cells.grid
label_of (Near s) = grid_label kind.Near s.cells.copies s.cells.grid
label_of (Far s) = grid_label kind.Far s.cells.copies s.cells.grid

-- what a stock layout places where
abbrev pub geometry_of : Stock → Geometry
geometry_of (Striped s) = chunked s.cells.grid.chunk (striped_cells s.cells.grid.members s.cells.grid.chunks)
geometry_of (LeftSymmetric s) = chunked s.cells.grid.chunk (left_cells s.cells.grid.members s.cells.grid.chunks)
geometry_of (Near s) = chunked s.cells.grid.chunk (near_cells s.cells.grid.members s.cells.grid.chunks s.cells.copies)
geometry_of (Far s) = chunked s.cells.grid.chunk (far_cells s.cells.grid.members s.cells.grid.chunks s.cells.copies)
