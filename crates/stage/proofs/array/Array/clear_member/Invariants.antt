use Rattle.stage.specs.Arrays.{crew_of}
use Rattle.stage.proofs.Clearing.{ClearedBelow}
use Rattle.stage.proofs.array.Array.clear_member.Given as goal

abbrev pub invariant-loop-offset : goal.invariant-loop-offset
invariant-loop-offset g l =
    ClearedBelow (crew_of g.L.Layout.geometry l.self) (g.L.Layout.geometry l.self.source) l.self.head.backup l.fn.member l.offset
    (g.S.Shelf.meaning l.initial.shelf) (g.S.Shelf.meaning l.shelf)
