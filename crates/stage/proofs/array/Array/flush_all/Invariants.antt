use Rattle.stage.specs.Arrays.{crew_of}
use Rattle.model.specs.May.{nothing}
use Rattle.stage.proofs.Loops.{DurableOn, Upto}
use Rattle.stage.proofs.array.Array.flush_all.Given as goal

abbrev pub invariant-loop-member : goal.invariant-loop-member
invariant-loop-member g l =
    Upto (crew_of g.L.Layout.geometry l.self) nothing DurableOn
    (g.S.Shelf.meaning l.initial.shelf) l.member (g.S.Shelf.meaning l.shelf)
