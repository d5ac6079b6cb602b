use Rattle.std.proofs.Common.{None, ◌+◌}
use Rattle.model.specs.May.{From, May}
use Rattle.stage.specs.Arrays.{volume_on}
use Rattle.stage.specs.Endings.{HasVolume}
use Rattle.stage.proofs.Placed.{GroupSofar}
use Rattle.stage.proofs.array.Array.place_group.Given as goal

abbrev pub invariant-loop-index : goal.invariant-loop-index
invariant-loop-index g l =
    let a = g.S.Shelf.meaning l.initial.shelf in
    let b = g.S.Shelf.meaning l.shelf in
    May (From (3 + l.self.head.backup)) a b
    × (HasVolume g.L.Layout.geometry l.self a → GroupSofar (volume_on g.L.Layout.geometry l.self None) l.group l.index l.parity a b)
