use Rattle.std.proofs.Common.{rules, sym, ap, ◌∙◌, arith}
use Rattle.std.proofs.lemmas.Nat.{le_bytes_4}
use Rattle.sector.specs.Bytes.{from_le}
use Rattle.sector.proofs.Bytes.{le_four, of_le}
use Rattle.sector.proofs.field.U32Field4.from_bytes.Goals as goal

pub returns-clause-back : goal.returns-clause-back
returns-clause-back c =
    sym (le_four c.from_le_bytes.result)
    ∙ le_bytes_4 c.args.bytes.now _ (search rules) (search rules) c.from_le_bytes.ensures

pub returns-clause-value : goal.returns-clause-value
returns-clause-value c = sym (of_le 4 c.from_le_bytes.result (omega arith)) ∙ ap from_le (returns-clause-back c)
