use Rattle.std.proofs.Common.{◌≤◌, sym, subst}
use Rattle.head.specs.Heads.{settled_rows}
use Rattle.volume.specs.Volumes.{known}
use Rattle.volume.proofs.Coming.{settle_ends}
use Rattle.volume.proofs.Settling.{settle_housed}
use Rattle.volume.proofs.Housing.{housed_moving, next_below}
use Rattle.volume.proofs.Volume.settle.Goals as goal

pub returns-clause-ends : goal.returns-clause-ends
returns-clause-ends g c = λ housed.
    let place = g.L.Layout.geometry in
    let v = c.args.self.now in
    let only = rw c.spend-row.ensures at c.empty_hand.ensures.hand in
    let judged = c.in_ok-verdict.ensures in
    let none = rw c.spend-row.ensures at judged.verdict in
    let below = next_below v.hand _ _ (housed_moving (known place v) (g.S.Shelf.meaning v.shelf) judged.moving housed).2 in
    settle_ends g.S.Shelf.meaning place g.L.Layout.named _ _ c.args.grant.row v c.empty_hand.new.self c.settle_row.new.self none judged.left only c.settle_row.result
    (c.settle_row.ensures (subst (λ y. settled_rows y.head.progress ≤ (place y.target).rows) (sym only.array) below))
    c.settled-settled.result c.settled-settled.ensures c.in_row.result c.in_row.ensures

pub returns-clause-housed : goal.returns-clause-housed
returns-clause-housed g c = λ housed.
    let place = g.L.Layout.geometry in
    let v = c.args.self.now in
    let only = rw c.spend-row.ensures at c.empty_hand.ensures.hand in
    let judged = c.in_ok-verdict.ensures in
    let held = rw c.spend-row.ensures at judged.hand in
    let below = next_below v.hand _ _ (housed_moving (known place v) (g.S.Shelf.meaning v.shelf) judged.moving housed).2 in
    settle_housed g.S.Shelf.meaning place g.L.Layout.named c.args.grant.row v c.empty_hand.new.self c.settle_row.new.self judged.moving held only housed c.settle_row.result
    (c.settle_row.ensures (subst (λ y. settled_rows y.head.progress ≤ (place y.target).rows) (sym only.array) below))
