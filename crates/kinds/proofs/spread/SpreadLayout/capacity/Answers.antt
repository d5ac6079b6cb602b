use Rattle.std.proofs.Common.{arith}
use Rattle.kinds.proofs.Spreading.{room_most}
use Rattle.kinds.proofs.spread.SpreadLayout.capacity.Goals as goal

pub overflow_mul-result : goal.overflow_mul-result
overflow_mul-result g c = omega (arith, room_most (g.met.C.Cells.lawful c.args.self.now.cells) c.rows.ensures c.row_len.ensures)
