use Rattle.std.proofs.Common.{rules}
use Rattle.layout.proofs.Labels.{parts}
use Rattle.layout.proofs.label.LabelFieldLABEL.from_bytes.Goals as goal

pub returns-clause-back : goal.returns-clause-back
returns-clause-back c =
    parts c.args.bytes.now c.from_bytes.result c.from_bytes-2.result (search rules) (search rules) (search rules)
