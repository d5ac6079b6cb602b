use Rattle.std.proofs.Common.{rules, sym, ap, ◌∙◌, arith}
use Rattle.std.proofs.lemmas.Nat.{le_bytes_8}
use Rattle.sector.specs.Bytes.{from_le}
use Rattle.sector.proofs.Bytes.{le_eight, of_le}
use Rattle.sector.proofs.field.U64Field8.from_bytes.Goals as goal

pub returns-clause-back : goal.returns-clause-back
returns-clause-back c =
    sym (le_eight c.from_le_bytes.result)
    ∙ le_bytes_8 c.args.bytes.now _ (search rules) (search rules) c.from_le_bytes.ensures

pub returns-clause-value : goal.returns-clause-value
returns-clause-value c = sym (of_le 8 c.from_le_bytes.result (omega arith)) ∙ ap from_le (returns-clause-back c)
