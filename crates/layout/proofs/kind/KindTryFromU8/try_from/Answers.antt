use Rattle.std.proofs.Common.{rules}
use Rattle.layout.proofs.Numbered.{kind_found}
use Rattle.layout.proofs.kind.KindTryFromU8.try_from.Goals as goal

pub returns : goal.returns
returns c = kind_found c.args.number c.find.result c.ok_or.result (search rules) c.ok_or.ensures.value
