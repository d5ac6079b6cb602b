use Rattle.std.proofs.Common.{arith}
use Rattle.shelf.proofs.Choosing.{choose_more}
use Rattle.shelf.proofs.run.choose.Goals as goal

pub loop-at-preserved : goal.loop-at-preserved
loop-at-preserved c =
    choose_more c.args.choice c.args.column.image c.args.column.start c.loop-at.at c.args.run.now c.loop-at.run c.choose_one.new.run
    (omega arith) (omega arith) (omega arith) c.loop-at.invariant c.choose_one.ensures
