use Rattle.stage.specs.Arrays.{crew_of}
use Rattle.model.specs.May.{nothing}
use Rattle.stage.proofs.Loops.{Nobody, Upto}
use Rattle.stage.proofs.array.Array.read_any.Given as goal

abbrev pub invariant-loop-member : goal.invariant-loop-member
invariant-loop-member g l =
    Upto (crew_of g.L.Layout.geometry l.self) nothing Nobody
    (g.S.Shelf.meaning l.initial.shelf) l.member (g.S.Shelf.meaning l.shelf)
