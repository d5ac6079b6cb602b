use Rattle.model.specs.Disks.{refused}
use Rattle.oracle.proofs.Showing.{ChangedBelow}
use Rattle.oracle.proofs.candidates.refuse_each.Given as goal

abbrev pub invariant-loop-disk : goal.invariant-loop-disk
invariant-loop-disk l = ChangedBelow (refused l.request) l.initial.disks l.disk-index l.disks
