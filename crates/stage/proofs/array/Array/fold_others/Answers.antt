use Rattle.std.proofs.Common.{◌≡◌, ◌<◌, sym, ap, ◌∙◌, subst, arith}
use Rattle.answer.specs.declared.Operation.TheVariants.{Read}
use Rattle.model.specs.Ends.{Stage}
use Rattle.model.specs.May.{nothing}
use Rattle.stage.specs.Arrays.{crew_of}
use Rattle.stage.specs.Cells.{Others}
use Rattle.stage.specs.Looks.{FoldsOthers, Lies, OnBody, OthersFolded}
use Rattle.stage.proofs.Chains.{handed_on}
use Rattle.stage.proofs.Looks.{body_same, look_met, looking_then}
use Rattle.stage.proofs.Places.{group_stays, other_folded, own_skipped, peer_place}
use Rattle.stage.proofs.array.Array.fold_others.Goals as goal

pub loop-index-preserved-then-peer-sector : goal.loop-index-preserved-then-peer-sector
loop-index-preserved-then-peer-sector g c = (
  c.loop-index.invariant.0,
  λ has.
      let x = g.L.Layout.geometry c.args.layout.now in
      let peers = c.peers-index-end.ensures.0 has.below in
      let lt : c.loop-index.index < x.peers c.args.group = omega (arith, peers) in
      let peer : c.peer-peer.result ≡ x.peer c.args.group c.loop-index.index = c.peer-peer.ensures.0 (has.below, lt) in
      own_skipped x c.args.self.now.head.backup c.args.group c.args.sector c.loop-index.index (g.S.Shelf.meaning c.loop-index.shelf) c.args.content c.loop-index.folded
      (sym peer ∙ c.if-peer-sector.true) (c.loop-index.invariant.1 has),
)

pub returns-in_err-read-clause-folds : goal.returns-in_err-read-clause-folds
returns-in_err-read-clause-folds g c = λ has.
    let w = crew_of g.L.Layout.geometry c.args.self.now in
    let backup = c.args.self.now.head.backup in
    let a = g.S.Shelf.meaning c.args.shelf.now in
    let b = g.S.Shelf.meaning c.loop-index.shelf in
    let d = g.S.Shelf.meaning c.read_place.new.shelf in
    handed_on (λ r. Stage w nothing (OnBody Read backup a) a d (λ found. FoldsOthers (g.L.Layout.geometry c.args.layout.now) backup c.args.group c.args.sector d c.args.content found) r)
    c.from_residual.result _ c.from_residual.ensures.1
    (look_met w (OnBody Read backup b) (OnBody Read backup a) c.loop-index.invariant.0 (body_same Read backup c.loop-index.invariant.0.may) _ c.in_err-read.ensures.stage)

pub returns-in_default-clause-folds : goal.returns-in_default-clause-folds
returns-in_default-clause-folds g c = λ has.
    let x = g.L.Layout.geometry c.args.layout.now in
    let s = rw c.in_default.is at c.in_ok-read.ensures.stage in
    let l = looking_then c.loop-index.invariant.0 s.0 s.1 in
    let peers = c.peers-index-end.ensures.0 has.below in
    let lt : c.loop-index.index < x.peers c.args.group = omega (arith, peers) in
    let is = peer_place x (g.met.L.Layout.lawful c.args.layout.now) c.args.group c.loop-index.index c.peer-peer.result c.place.result has.below lt c.peer-peer.ensures c.place.ensures in (
      l.may,
      l.goes,
      record {
        index = c.loop-index.index;
        below = lt;
        other = λ own. c.if-peer-sector.false (is.0 ∙ own);
        gone = ap (λ p. (g.S.Shelf.meaning c.read_place.new.shelf).present p.0) (sym is.1) ∙ s.2;
      },
    )

pub loop-index-preserved : goal.loop-index-preserved
loop-index-preserved g c =
    let s = rw c.in-Some.is at c.in_ok-read.ensures.stage in (
      looking_then c.loop-index.invariant.0 s.0 s.1,
      λ has.
          let x = g.L.Layout.geometry c.args.layout.now in
          let backup = c.args.self.now.head.backup in
          let b = g.S.Shelf.meaning c.loop-index.shelf in
          let d = g.S.Shelf.meaning c.read_place.new.shelf in
          let law = g.met.L.Layout.lawful c.args.layout.now in
          let peers = c.peers-index-end.ensures.0 has.below in
          let lt : c.loop-index.index < x.peers c.args.group = omega (arith, peers) in
          let is = peer_place x law c.args.group c.loop-index.index c.peer-peer.result c.place.result has.below lt c.peer-peer.ensures c.place.ensures in
          other_folded x law backup c.args.group c.args.sector c.loop-index.index b d c.args.content c.loop-index.folded c.fold.new.written c.in-Some.read
          (group_stays c.loop-index.invariant.0.may x backup c.args.group has) lt (λ own. c.if-peer-sector.false (is.0 ∙ own)) s.0
          (subst (λ p. Others p.0 b d) is.1 c.in_ok-read.ensures.others) (subst (λ p. Lies backup p d c.in-Some.read) is.1 s.2) c.fold.ensures
          (c.loop-index.invariant.1 has),
    )

pub returns-clause-folds : goal.returns-clause-folds
returns-clause-folds g c = λ has.
    let x = g.L.Layout.geometry c.args.layout.now in
    let peers = c.peers-index-end.ensures.0 has.below in
    let end : c.loop-index.index ≡ x.peers c.args.group = omega (arith, peers) in
    let l = c.loop-index.invariant.0 in (
      l.may,
      l.goes,
      subst (λ n. OthersFolded x c.args.self.now.head.backup c.args.group c.args.sector n (g.S.Shelf.meaning c.loop-index.shelf) c.args.content c.loop-index.folded) end
          (c.loop-index.invariant.1 has),
    )
