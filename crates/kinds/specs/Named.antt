-- What a label alone places where.
use Rattle.std.specs.Prelude.{ℕ, ◌/◌, cond, ◌==◌}
use Rattle.layout.specs.Kinds.{kind_number}
use Rattle.layout.specs.declared.kind.Kind.TheVariants.{Striped, LeftSymmetric, Near}
use Rattle.layout.specs.declared.label.Label.{Label}
use Rattle.layout.specs.Geometry.{Geometry}
use Rattle.kinds.specs.Cells.{striped_cells, left_cells, near_cells, far_cells}
use Rattle.kinds.specs.Chunked.{chunked}

-- the cells of a kind, with h rows of chunks
abbrev pub cells_named : Label → ℕ → Geometry
cells_named l h =
    cond (l.kind == kind_number Striped) (striped_cells l.members h)
    (cond (l.kind == kind_number LeftSymmetric) (left_cells l.members h)
    (cond (l.kind == kind_number Near) (near_cells l.members h l.copies) (far_cells l.members h l.copies)))

abbrev pub geometry_named : Label → Geometry
geometry_named l = chunked l.chunk (cells_named l (l.depth / l.chunk))
