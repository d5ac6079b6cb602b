use Rattle.std.proofs.Common.{ap, ◌∙◌, arith}
use Rattle.sector.specs.Bytes.{from_le}
use Rattle.sector.proofs.Bytes.{le_four, of_le}
use Rattle.sector.proofs.field.U32Field4.to_bytes.Goals as goal

pub returns-clause-bytes : goal.returns-clause-bytes
returns-clause-bytes c = c.to_le_bytes.ensures ∙ le_four c.args.self.now

pub returns-clause-back : goal.returns-clause-back
returns-clause-back c = ap from_le (returns-clause-bytes c) ∙ of_le 4 c.args.self.now (omega arith)
