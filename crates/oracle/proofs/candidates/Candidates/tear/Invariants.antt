use Rattle.std.proofs.Common.{◌∷◌, ◌++◌, take}
use Rattle.model.specs.Disks.{candidates, each_of}
use Rattle.oracle.specs.Showing.{CanCountAll, SameDisks, candidates_of, each_shown, shown}
use Rattle.oracle.proofs.candidates.Candidates.tear.Given as goal

abbrev pub invariant-loop-disk : goal.invariant-loop-disk
invariant-loop-disk l =
    CanCountAll (candidates_of l.fn.self)
    → SameDisks (candidates l.request (shown l.fn.self.first) ++ each_of (candidates l.request) (each_shown (take l.disk-index l.disk-items))) (shown l.first ∷ each_shown l.further.items)
