use Rattle.oracle.proofs.Disks.{created_is}
use Rattle.oracle.proofs.disk.Disk.created.Goals as goal

pub returns : goal.returns
returns c = created_is _ c.args.size c.in_ok-sectors.ensures
