-- The same of the four kinds as one type.
use Rattle.std.specs.Prelude.{◌≡◌}
use Rattle.layout.specs.Lawful.{Lawful}
use Rattle.kinds.specs.Named.{geometry_named}
use Rattle.kinds.specs.Stocks.{geometry_of, label_of}
use Rattle.kinds.specs.declared.stock.Stock.{Stock}
use Rattle.kinds.specs.declared.stock.Stock.TheVariants.{Striped, LeftSymmetric, Near, Far}
use Rattle.kinds.specs.Laws.{striped_lawful, left_lawful, near_lawful, far_lawful, striped_named, left_named, near_named, far_named}

pub stock_named : (s : Stock) → geometry_of s ≡ geometry_named (label_of s)
stock_named (Striped s) = striped_named s.cells.grid
stock_named (LeftSymmetric s) = left_named s.cells.grid
stock_named (Near s) = near_named s.cells.grid s.cells.copies
stock_named (Far s) = far_named s.cells.grid s.cells.copies

pub stock_lawful : (s : Stock) → Lawful (geometry_of s)
stock_lawful (Striped s) = striped_lawful s.cells.grid
stock_lawful (LeftSymmetric s) = left_lawful s.cells.grid s.cells.three
stock_lawful (Near s) = near_lawful s.cells.grid s.cells.copies s.cells.few.0 s.cells.apart
stock_lawful (Far s) = far_lawful s.cells.grid s.cells.copies s.cells.few.0 s.cells.apart s.cells.zoned
