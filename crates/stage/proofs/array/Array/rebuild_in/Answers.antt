use Rattle.std.proofs.Common.{sym, subst}
use Rattle.answer.specs.declared.Operation.TheVariants.{Read}
use Rattle.model.specs.Contents.{rebuilt}
use Rattle.stage.specs.Arrays.{crew_of}
use Rattle.stage.specs.Looks.{HasGroup, OnBody, OthersFolded, PeerGone, Shows}
use Rattle.stage.proofs.Chains.{handed_on}
use Rattle.stage.proofs.Places.{no_copy_groups, no_copy_stays, peers_there}
use Rattle.stage.proofs.Shown.{parity_folded}
use Rattle.stage.proofs.array.Array.rebuild_in.Goals as goal

pub returns-in_err-content-clause-shows : goal.returns-in_err-content-clause-shows
returns-in_err-content-clause-shows g c = λ e n.
    let w = crew_of g.L.Layout.geometry c.args.self.now in
    let x = g.L.Layout.geometry c.args.layout.now in
    let backup = c.args.self.now.head.backup in
    let a = g.S.Shelf.meaning c.args.shelf.now in
    let d = g.S.Shelf.meaning c.fold_others.new.shelf in
    let has = subst (λ k. HasGroup x backup k a) (sym e) (no_copy_groups x (g.met.L.Layout.lawful c.args.layout.now) backup c.args.sector a n) in
    handed_on (λ r. Shows w (OnBody Read backup a) a d (λ m. rebuilt x m backup c.args.group c.args.sector) r)
    c.from_residual.result _ c.from_residual.ensures.1 (c.in_err-content.ensures.folds has)

pub returns-in-Some-clause-shows : goal.returns-in-Some-clause-shows
returns-in-Some-clause-shows g c = λ e n.
    let x = g.L.Layout.geometry c.args.layout.now in
    let law = g.met.L.Layout.lawful c.args.layout.now in
    let backup = c.args.self.now.head.backup in
    let a = g.S.Shelf.meaning c.args.shelf.now in
    let has = subst (λ k. HasGroup x backup k a) (sym e) (no_copy_groups x law backup c.args.sector a n) in
    let b = g.S.Shelf.meaning c.fold_others.new.shelf in
    let s = rw c.in-Some.is at (c.in_ok-content.ensures.folds has) in
    parity_folded x law backup c.args.sector c.args.group a b (g.S.Shelf.meaning c.fold_held.new.shelf) c.in-Some.content c.parity.result c.fold_held.result e n
    (record { may = s.0; goes = s.1 })
    (subst (λ y. OthersFolded x backup c.args.group c.args.sector (x.peers c.args.group) b y c.in-Some.content) c.zeros.ensures s.2)
    c.parity.ensures c.fold_held.ensures.folds

pub returns-in-None-clause-shows : goal.returns-in-None-clause-shows
returns-in-None-clause-shows g c = λ e n.
    let x = g.L.Layout.geometry c.args.layout.now in
    let law = g.met.L.Layout.lawful c.args.layout.now in
    let backup = c.args.self.now.head.backup in
    let a = g.S.Shelf.meaning c.args.shelf.now in
    let b = g.S.Shelf.meaning c.fold_others.new.shelf in
    let has = subst (λ k. HasGroup x backup k a) (sym e) (no_copy_groups x law backup c.args.sector a n) in
    let s = rw c.in-None.is at (c.in_ok-content.ensures.folds has) in
    absurd (peers_there x law backup c.args.sector b (no_copy_stays (record { may = s.0; goes = s.1 }) x backup c.args.sector n)
    (subst (λ k. PeerGone x k c.args.sector b) e s.2))
