use Rattle.std.proofs.Common.{◌≡◌, ◌∙◌, length, sym, subst, arith}
use Rattle.answer.specs.declared.Operation.TheVariants.{Read}
use Rattle.model.specs.Reading.{parity_with}
use Rattle.stage.specs.Arrays.{crew_of}
use Rattle.stage.specs.Looks.{LostPeer, OnBody, PeerGone, Shows}
use Rattle.stage.proofs.Chains.{handed_on}
use Rattle.stage.proofs.Looks.{Looking, body_same, look_after}
use Rattle.stage.proofs.Places.{has_group, has_stays}
use Rattle.stage.proofs.Shown.{parity_by_others, peer_lost}
use Rattle.stage.proofs.array.Array.group_parity.Goals as goal

pub returns-then-has_lost_peer-clause-shows : goal.returns-then-has_lost_peer-clause-shows
returns-then-has_lost_peer-clause-shows g c = λ has any e.
    let x = g.L.Layout.geometry c.args.layout.now in
    let law = g.met.L.Layout.lawful c.args.layout.now in
    let backup = c.args.self.now.head.backup in
    let a = g.S.Shelf.meaning c.args.shelf.now in
    let group = has_group x law backup c.args.sector c.args.group a has any e in
    let gone : PeerGone x c.args.group c.args.sector a =
    peer_lost x a c.args.group c.args.sector (x.peers c.args.group) (omega arith) (sym (c.has_lost_peer.ensures group.below) ∙ c.if-has_lost_peer.true) in
    c.parity_by_change.ensures.shows (record { has = has; any = any; lost = subst (λ k. PeerGone x k c.args.sector a) e gone }) e

pub returns-in_err-parity-clause-shows : goal.returns-in_err-parity-clause-shows
returns-in_err-parity-clause-shows g c = λ has any e.
    let w = crew_of g.L.Layout.geometry c.args.self.now in
    let x = g.L.Layout.geometry c.args.layout.now in
    let backup = c.args.self.now.head.backup in
    let a = g.S.Shelf.meaning c.args.shelf.now in
    let d = g.S.Shelf.meaning c.fold_others.new.shelf in
    let group = has_group x (g.met.L.Layout.lawful c.args.layout.now) backup c.args.sector c.args.group a has any e in
    handed_on (λ r. Shows w (OnBody Read backup a) a d (λ m. parity_with x m backup c.args.sector c.args.datum.now) r)
    c.from_residual.result _ c.from_residual.ensures.1 (c.in_err-parity.ensures.folds group)

pub returns-in-Some-clause-shows : goal.returns-in-Some-clause-shows
returns-in-Some-clause-shows g c = λ has any e.
    let x = g.L.Layout.geometry c.args.layout.now in
    let law = g.met.L.Layout.lawful c.args.layout.now in
    let backup = c.args.self.now.head.backup in
    let group = has_group x law backup c.args.sector c.args.group (g.S.Shelf.meaning c.args.shelf.now) has any e in
    let s = rw c.in-Some.is at (c.in_ok-parity.ensures.folds group) in
    let long : length c.args.datum.now ≡ 512 = omega arith in
    (s.0, s.1, parity_by_others x law backup c.args.sector c.args.group (g.S.Shelf.meaning c.fold_others.new.shelf) c.args.datum.now c.in-Some.parity any has.below e long s.2)

pub returns-in-None-clause-shows : goal.returns-in-None-clause-shows
returns-in-None-clause-shows g c = λ has any e.
    let w = crew_of g.L.Layout.geometry c.args.self.now in
    let x = g.L.Layout.geometry c.args.layout.now in
    let law = g.met.L.Layout.lawful c.args.layout.now in
    let backup = c.args.self.now.head.backup in
    let a = g.S.Shelf.meaning c.args.shelf.now in
    let b = g.S.Shelf.meaning c.fold_others.new.shelf in
    let d = g.S.Shelf.meaning c.parity_by_change-in-None.new.shelf in
    let group = has_group x law backup c.args.sector c.args.group a has any e in
    let s = rw c.in-None.is at (c.in_ok-parity.ensures.folds group) in
    let l : Looking w a b = record { may = s.0; goes = s.1 } in
    let lost : LostPeer w x backup c.args.sector b =
    record { has = has_stays l x backup c.args.sector has; any = any; lost = subst (λ k. PeerGone x k c.args.sector b) e s.2 } in
    look_after (OnBody Read backup b) (OnBody Read backup a) (λ y. y ≡ parity_with x d backup c.args.sector c.args.datum.now)
    (λ y. y ≡ parity_with x d backup c.args.sector c.args.datum.now) l (body_same Read backup s.0) (λ y m same. same) c.parity_by_change-in-None.result
    (c.parity_by_change-in-None.ensures.shows lost e)
