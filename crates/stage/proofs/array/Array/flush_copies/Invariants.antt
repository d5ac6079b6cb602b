use Rattle.stage.specs.Arrays.{crew_of}
use Rattle.model.specs.May.{nothing}
use Rattle.stage.specs.Places.{CopiesFlushed}
use Rattle.stage.proofs.Endings.{Going}
use Rattle.stage.proofs.array.Array.flush_copies.Given as goal

abbrev pub invariant-loop-copy : goal.invariant-loop-copy
invariant-loop-copy g l =
    let b = g.S.Shelf.meaning l.shelf in
    Going (crew_of g.L.Layout.geometry l.self) nothing (g.S.Shelf.meaning l.initial.shelf) b × CopiesFlushed (g.L.Layout.geometry l.layout) l.sector l.copy b
