use Rattle.stage.specs.Arrays.{crew_of}
use Rattle.stage.proofs.Looks.{FoldedSofar, Looking}
use Rattle.stage.proofs.array.Array.fold_others.Given as goal

abbrev pub invariant-loop-index : goal.invariant-loop-index
invariant-loop-index g l =
    Looking (crew_of g.L.Layout.geometry l.self) (g.S.Shelf.meaning l.initial.shelf) (g.S.Shelf.meaning l.shelf) ×
    FoldedSofar (g.L.Layout.geometry l.layout) l.self.head.backup l.group l.sector l.index (g.S.Shelf.meaning l.initial.shelf) (g.S.Shelf.meaning l.shelf) l.fn.content l.folded
