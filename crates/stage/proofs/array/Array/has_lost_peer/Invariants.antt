use Rattle.std.proofs.Common.{◌≡◌, ◌<◌, false}
use Rattle.model.specs.Contents.{peer_gone, some}
use Rattle.stage.proofs.array.Array.has_lost_peer.Given as goal

abbrev pub invariant-loop-nth : goal.invariant-loop-nth
invariant-loop-nth g l =
    let x = g.L.Layout.geometry l.layout in
    l.group < x.groups → some (peer_gone x (g.S.Shelf.meaning l.shelf) l.group l.sector) l.nth ≡ false
