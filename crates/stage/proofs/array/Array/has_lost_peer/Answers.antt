use Rattle.std.proofs.Common.{◌≡◌, ◌<◌, sym, ap, ◌∙◌, arith}
use Rattle.model.specs.Contents.{peer_gone}
use Rattle.stage.proofs.Places.{peer_place, some_at}
use Rattle.stage.proofs.Shown.{gone_at, none_more, own_not_gone, there_not_gone}
use Rattle.stage.proofs.array.Array.has_lost_peer.Goals as goal
use Rattle.stage.proofs.array.Array.has_lost_peer.Goals.{else-peer-sector-via-then-peer-sector+else-not-is_present, else-peer-sector-via-else-peer-sector}

pub returns-then-not-is_present : goal.returns-then-not-is_present
returns-then-not-is_present g c = λ below.
    let x = g.L.Layout.geometry c.args.layout.now in
    let a = g.S.Shelf.meaning c.args.shelf.now in
    let peers = c.peers-nth-end.ensures.0 below in
    let lt : c.loop-nth.nth < x.peers c.args.group = omega (arith, peers) in
    let is = peer_place x (g.met.L.Layout.lawful c.args.layout.now) c.args.group c.loop-nth.nth c.peer-peer.result c.place.result below lt c.peer-peer.ensures c.place.ensures in
    sym (some_at (peer_gone x a c.args.group c.args.sector) c.loop-nth.nth (x.peers c.args.group) lt
    (gone_at x a c.args.group c.args.sector c.loop-nth.nth (λ own. c.if-peer-sector.true (is.0 ∙ own))
    (ap (λ p. a.present p.0) (sym is.1) ∙ (sym c.is_present.ensures ∙ c.if-not-is_present.true))))

pub loop-nth-preserved : goal.loop-nth-preserved
loop-nth-preserved g c = λ below.
    let x = g.L.Layout.geometry c.args.layout.now in
    let a = g.S.Shelf.meaning c.args.shelf.now in
    let peers = c.peers-nth-end.ensures.0 below in
    let lt : c.loop-nth.nth < x.peers c.args.group = omega (arith, peers) in
    let peer : c.peer-peer.result ≡ x.peer c.args.group c.loop-nth.nth = c.peer-peer.ensures.0 (below, lt) in
    none_more (peer_gone x a c.args.group c.args.sector) c.loop-nth.nth (c.loop-nth.invariant below) (elim c.else-peer-sector.branch [
      | else-peer-sector-via-then-peer-sector+else-not-is_present w ↦
          (let is = peer_place x (g.met.L.Layout.lawful c.args.layout.now) c.args.group c.loop-nth.nth c.peer-peer.result w.place.result below lt c.peer-peer.ensures w.place.ensures in
          there_not_gone x a c.args.group c.args.sector c.loop-nth.nth (ap (λ p. a.present p.0) (sym is.1) ∙ (sym w.is_present.ensures ∙ w.if-not-is_present.false)))
      | else-peer-sector-via-else-peer-sector w ↦ own_not_gone x a c.args.group c.args.sector c.loop-nth.nth (sym peer ∙ w.if-peer-sector.false)
    ])
