use Rattle.std.proofs.Common.{rules}
use Rattle.head.proofs.Codecs.{whole}
use Rattle.head.proofs.accept.HeadSector.head.Goals as goal

pub returns-clause-bytes : goal.returns-clause-bytes
returns-clause-bytes c = search (rules, whole)
