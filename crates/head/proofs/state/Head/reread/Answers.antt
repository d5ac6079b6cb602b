use Rattle.std.proofs.Common.{rules}
use Rattle.head.proofs.Codecs.{read_back}
use Rattle.head.proofs.state.Head.reread.Goals as goal

pub returns : goal.returns
returns c = search (rules, read_back)
