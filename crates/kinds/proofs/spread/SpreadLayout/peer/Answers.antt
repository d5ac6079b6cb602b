use Rattle.std.proofs.Common.{arith}
use Rattle.kinds.specs.Bounds.{cells_most}
use Rattle.kinds.proofs.Spreading.{peer_below, peer_some}
use Rattle.kinds.proofs.spread.SpreadLayout.peer.Goals as goal

pub sector-requires : goal.sector-requires
sector-requires g c =
    let law = g.met.C.Cells.lawful c.args.self.now.cells in
    let at = peer_some law c.grid-grid.ensures c.args.group c.peers.result c.args.index c.peers.ensures (omega arith) in
    peer_below law c.grid-grid.ensures at.1 c.args.group c.args.index c.columns.result c.columns.ensures at.0 (omega (arith, at.2, c.columns.ensures))

pub overflow_mul-group : goal.overflow_mul-group
overflow_mul-group g c = let below = sector-requires g c in omega (arith, cells_most c.grid-grid.result, below)

pub overflow_add-group : goal.overflow_add-group
overflow_add-group g c = let below = sector-requires g c in omega (arith, cells_most c.grid-grid.result, below)
