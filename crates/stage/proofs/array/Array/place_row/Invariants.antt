use Rattle.std.proofs.Common.{None, ◌+◌}
use Rattle.model.specs.May.{From, May}
use Rattle.stage.specs.Arrays.{volume_on}
use Rattle.stage.specs.Endings.{HasVolume}
use Rattle.stage.proofs.PlacedRow.{RowUpto}
use Rattle.stage.proofs.array.Array.place_row.Given as goal

abbrev pub invariant-loop-sector : goal.invariant-loop-sector
invariant-loop-sector g l =
    let a = g.S.Shelf.meaning l.initial.shelf in
    let b = g.S.Shelf.meaning l.shelf in
    May (From (3 + l.self.head.backup)) a b
    × (HasVolume g.L.Layout.geometry l.self a → RowUpto (volume_on g.L.Layout.geometry l.self None) l.fn.sectors.start l.fn.sectors.end l.sector a b)
