use Rattle.stage.specs.Arrays.{crew_of}
use Rattle.stage.proofs.Looks.{Looking, NoneBelow}
use Rattle.stage.proofs.array.Array.show_in.Given as goal

abbrev pub invariant-loop-copy : goal.invariant-loop-copy
invariant-loop-copy g l =
    Looking (crew_of g.L.Layout.geometry l.self) (g.S.Shelf.meaning l.initial.shelf) (g.S.Shelf.meaning l.shelf) ×
    NoneBelow (g.L.Layout.geometry l.layout) l.sector l.copy (g.S.Shelf.meaning l.shelf)
