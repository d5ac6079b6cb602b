use Rattle.std.proofs.Common.{arith}
use Rattle.shelf.proofs.Cells.{pull_more}
use Rattle.shelf.proofs.run.pull.Goals as goal

pub loop-at-preserved : goal.loop-at-preserved
loop-at-preserved c =
    pull_more c.args.column.image c.args.column.start c.loop-at.at c.args.run.now c.loop-at.run c.copy.new.run
    (omega arith) (omega arith) (omega arith) c.loop-at.invariant c.copy.ensures
