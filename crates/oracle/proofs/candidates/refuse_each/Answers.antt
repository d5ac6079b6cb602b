use Rattle.std.proofs.Common.{arith}
use Rattle.model.specs.Disks.{refused}
use Rattle.oracle.proofs.Showing.{changed, changed_more}
use Rattle.oracle.proofs.candidates.refuse_each.Goals as goal

pub loop-disk-preserved : goal.loop-disk-preserved
loop-disk-preserved c =
    changed_more (refused c.args.request.now) c.args.disks.now c.loop-disk.disks c.loop-disk.disk-index c.disk-item.result c.refuse.new.self c.loop-disk.invariant (omega arith) c.refuse.ensures

pub returns : goal.returns
returns c = changed (refused c.args.request.now) c.args.disks.now c.loop-disk.disks c.loop-disk.disk-index c.loop-disk.invariant (omega arith)
