use Rattle.shelf.specs.Runs.{Pulled}
use Rattle.shelf.proofs.run.pull.Given as goal

abbrev pub invariant-loop-at : goal.invariant-loop-at
invariant-loop-at l = Pulled l.column.image l.column.start l.at l.initial.run l.run
