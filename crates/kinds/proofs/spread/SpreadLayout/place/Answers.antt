use Rattle.std.proofs.Common.{arith}
use Rattle.kinds.proofs.Spreading.{number_below, row_below}
use Rattle.kinds.proofs.spread.SpreadLayout.place.Goals as goal

pub place-requires : goal.place-requires
place-requires g c =
    (number_below (g.met.C.Cells.lawful c.args.self.now.cells) c.grid-grid.ensures c.args.sector (omega arith), omega arith)

pub place-requires-2 : goal.place-requires-2
place-requires-2 g c =
    row_below (g.met.C.Cells.lawful c.args.self.now.cells) c.grid-grid.ensures c.args.sector c.args.copy c.place.result (omega arith) (omega arith) c.place.ensures
