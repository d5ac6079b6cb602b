use Rattle.std.proofs.Common.{arith}
use Rattle.stage.proofs.Operations.{put_at}
use Rattle.stage.proofs.operation.put.Goals as goal

pub returns : goal.returns
returns g c = put_at c.args.member c.args.sector _ _ _ _ (omega arith) (g.met.S.Shelf.inside _ c.args.member) c.write.ensures
