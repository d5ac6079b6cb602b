use Rattle.stage.specs.Arrays.{crew_of}
use Rattle.model.specs.May.{AtSector}
use Rattle.stage.proofs.Loops.{HoldsIn, Upto}
use Rattle.stage.proofs.array.Array.write_all.Given as goal

abbrev pub invariant-loop-member : goal.invariant-loop-member
invariant-loop-member g l =
    Upto (crew_of g.L.Layout.geometry l.self) (AtSector l.sector l.content) (HoldsIn l.sector l.content)
    (g.S.Shelf.meaning l.initial.shelf) l.member (g.S.Shelf.meaning l.shelf)
