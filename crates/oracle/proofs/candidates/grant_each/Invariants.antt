use Rattle.oracle.specs.Showing.{CanCountAll, each_shown}
use Rattle.model.specs.Disks.{granted}
use Rattle.oracle.proofs.Showing.{ChangedBelow}
use Rattle.oracle.proofs.candidates.grant_each.Given as goal

abbrev pub invariant-loop-disk : goal.invariant-loop-disk
invariant-loop-disk l = CanCountAll (each_shown l.initial.disks) → ChangedBelow (granted l.request) l.initial.disks l.disk-index l.disks
