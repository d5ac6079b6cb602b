use Rattle.std.proofs.Common.{arith}
use Rattle.model.specs.Disks.{granted}
use Rattle.oracle.proofs.Showing.{changed, changed_more, room_next}
use Rattle.oracle.proofs.candidates.grant_each.Goals as goal

pub loop-disk-preserved : goal.loop-disk-preserved
loop-disk-preserved c = λ room.
    (let was = c.loop-disk.invariant room in
    let has = room_next (granted c.args.request.now) c.args.disks.now c.loop-disk.disks c.loop-disk.disk-index c.disk-item.result was (omega arith) room in
    changed_more (granted c.args.request.now) c.args.disks.now c.loop-disk.disks c.loop-disk.disk-index c.disk-item.result c.grant.new.self was (omega arith) (c.grant.ensures has.settled has.kept))

pub returns : goal.returns
returns c = λ room. changed (granted c.args.request.now) c.args.disks.now c.loop-disk.disks c.loop-disk.disk-index (c.loop-disk.invariant room) (omega arith)
