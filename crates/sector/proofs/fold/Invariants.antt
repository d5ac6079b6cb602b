use Rattle.std.proofs.Common.{◌≡◌, take}
use Rattle.sector.specs.Folds.{folded}
use Rattle.sector.proofs.fold.Given as goal

abbrev pub invariant-loop-i : goal.invariant-loop-i
invariant-loop-i l = l.written ≡ folded l.initial.written (take l.i l.read)
