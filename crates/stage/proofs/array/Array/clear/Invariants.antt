use Rattle.stage.specs.Arrays.{crew_of}
use Rattle.stage.proofs.Clearing.{MembersCleared}
use Rattle.stage.proofs.array.Array.clear.Given as goal

abbrev pub invariant-loop-member : goal.invariant-loop-member
invariant-loop-member g l =
    MembersCleared (crew_of g.L.Layout.geometry l.self) (g.L.Layout.geometry l.self.source) l.self.head.backup l.member
    (g.S.Shelf.meaning l.initial.shelf) (g.S.Shelf.meaning l.shelf)
