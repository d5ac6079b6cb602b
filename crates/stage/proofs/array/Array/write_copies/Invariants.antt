use Rattle.stage.specs.Arrays.{crew_of}
use Rattle.stage.specs.Places.{AtCopies, CopiesHold}
use Rattle.stage.proofs.Endings.{Going}
use Rattle.stage.proofs.array.Array.write_copies.Given as goal

abbrev pub invariant-loop-copy : goal.invariant-loop-copy
invariant-loop-copy g l =
    let x = g.L.Layout.geometry l.layout in
    let backup = l.self.head.backup in
    let b = g.S.Shelf.meaning l.shelf in
    Going (crew_of g.L.Layout.geometry l.self) (AtCopies x backup l.sector l.datum) (g.S.Shelf.meaning l.initial.shelf) b
    × CopiesHold x backup l.sector l.copy l.datum b
