use Rattle.std.proofs.Common.{None, arith}
use Rattle.model.proofs.Mays.{may_refl, may_then, quiet}
use Rattle.stage.specs.Arrays.{volume_on}
use Rattle.stage.specs.Rows.{GroupReady, InGroup, PlacesBy}
use Rattle.stage.proofs.Chains.{handed_on, stage_may}
use Rattle.stage.proofs.Placed.{group_begins, group_placed, next_peer, peer_look_met, peer_placed, peer_write_met}
use Rattle.stage.proofs.Written.{from_copies, from_place}
use Rattle.stage.proofs.array.Array.place_group.Goals as goal

pub loop-index-init : goal.loop-index-init
loop-index-init g c = (
  may_refl (g.S.Shelf.meaning c.args.shelf.now),
  λ has. group_begins (volume_on g.L.Layout.geometry c.args.self.now None) c.args.group c.zeros-parity.result
      (g.S.Shelf.meaning c.args.shelf.now) c.zeros-parity.ensures has,
)

pub returns-in_err-content-clause-may : goal.returns-in_err-content-clause-may
returns-in_err-content-clause-may g c = may_then c.loop-index.invariant.0 (quiet c.content_ahead.ensures.may)

pub returns-in_err-content-clause-places : goal.returns-in_err-content-clause-places
returns-in_err-content-clause-places g c = λ has.
    let v = volume_on g.L.Layout.geometry c.args.self.now None in
    let a = g.S.Shelf.meaning c.args.shelf.now in
    let d = g.S.Shelf.meaning c.content_ahead.new.shelf in
    let so = c.loop-index.invariant.1 has in
    handed_on (λ r. PlacesBy v (GroupReady v c.args.group) (InGroup v.crew.target c.args.group) a d r) c.from_residual.result _ c.from_residual.ensures.1
    (peer_look_met d _ (g.met.L.Layout.lawful c.args.self.now.source) (g.met.L.Layout.lawful c.args.self.now.target)
    (next_peer c.peers-index-end.result c.peers-index-end.ensures c.peer-sector.ensures (omega arith)) so (c.in_err-content.ensures.looks so.1.has))

pub returns-in_err-write_copies-clause-may : goal.returns-in_err-write_copies-clause-may
returns-in_err-write_copies-clause-may g c =
    may_then c.loop-index.invariant.0 (may_then (quiet c.content_ahead.ensures.may) (from_copies c.in_err-write_copies.ensures.0))

pub returns-in_err-write_copies-clause-places : goal.returns-in_err-write_copies-clause-places
returns-in_err-write_copies-clause-places g c = λ has.
    let v = volume_on g.L.Layout.geometry c.args.self.now None in
    let a = g.S.Shelf.meaning c.args.shelf.now in
    let d = g.S.Shelf.meaning c.write_copies.new.shelf in
    let so = c.loop-index.invariant.1 has in
    handed_on (λ r. PlacesBy v (GroupReady v c.args.group) (InGroup v.crew.target c.args.group) a d r) c.from_residual-in_err-write_copies.result _
    c.from_residual-in_err-write_copies.ensures.1
    (peer_write_met d _ (g.met.L.Layout.lawful c.args.self.now.source) (g.met.L.Layout.lawful c.args.self.now.target)
    (next_peer c.peers-index-end.result c.peers-index-end.ensures c.peer-sector.ensures (omega arith)) so
    (c.in_ok-content.ensures.looks so.1.has) c.in_err-write_copies.ensures)

pub loop-index-preserved : goal.loop-index-preserved
loop-index-preserved g c = (
  may_then c.loop-index.invariant.0 (may_then (quiet c.content_ahead.ensures.may) (from_copies c.in_ok-write_copies.ensures.0)),
  λ has.
      let so = c.loop-index.invariant.1 has in
      peer_placed c.fold.new.written (g.S.Shelf.meaning c.write_copies.new.shelf) c.fold.ensures (g.met.L.Layout.lawful c.args.self.now.source)
      (g.met.L.Layout.lawful c.args.self.now.target)
      (next_peer c.peers-index-end.result c.peers-index-end.ensures c.peer-sector.ensures (omega arith)) so
      (c.in_ok-content.ensures.looks so.1.has) c.in_ok-write_copies.ensures,
)

pub returns-clause-may : goal.returns-clause-may
returns-clause-may g c = may_then c.loop-index.invariant.0 (from_place (stage_may _ _ _ c.write_place.result c.write_place.ensures))

pub returns-clause-places : goal.returns-clause-places
returns-clause-places g c = λ has.
    group_placed (g.S.Shelf.meaning c.write_place.new.shelf) (g.met.L.Layout.lawful c.args.self.now.source) (g.met.L.Layout.lawful c.args.self.now.target) c.parity.ensures
    (λ q. (let peers = c.peers-index-end.ensures.0 q.below in omega (arith, peers))) (c.loop-index.invariant.1 has) c.write_place.result c.write_place.ensures
