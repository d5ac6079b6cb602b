use Rattle.shelf.specs.Runs.{Chosen}
use Rattle.shelf.proofs.run.choose.Given as goal

abbrev pub invariant-loop-at : goal.invariant-loop-at
invariant-loop-at l = Chosen l.choice l.column.image l.column.start l.at l.initial.run l.run
