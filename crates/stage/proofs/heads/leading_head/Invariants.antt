use Rattle.model.specs.Heads.{LedBelow, HeadsRead}
use Rattle.stage.proofs.heads.leading_head.Given as goal

abbrev pub invariant-loop-member : goal.invariant-loop-member
invariant-loop-member g l = HeadsRead (g.S.Shelf.meaning l.initial.shelf) (g.S.Shelf.meaning l.shelf) × LedBelow (g.S.Shelf.meaning l.shelf) l.member l.found
