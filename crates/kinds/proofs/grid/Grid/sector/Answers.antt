use Rattle.std.proofs.Common.{arith}
use Rattle.kinds.specs.Bounds.{sector_most}
use Rattle.kinds.proofs.grid.Grid.sector.Goals as goal

pub returns-clause-bound : goal.returns-clause-bound
returns-clause-bound c = sector_most c.args.self.now c.args.number c.args.offset (omega arith)
