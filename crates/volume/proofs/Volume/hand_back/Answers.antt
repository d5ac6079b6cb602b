use Rattle.std.proofs.Common.{rules}
use Rattle.volume.proofs.Coming.{hand_emptied}
use Rattle.volume.proofs.Volume.hand_back.Goals as goal

pub returns-then-empty_hand-clause-ends : goal.returns-then-empty_hand-clause-ends
returns-then-empty_hand-clause-ends g c =
    let v = c.args.self.now in
    (search rules, hand_emptied g.S.Shelf.meaning g.L.Layout.geometry (g.L.Layout.named v.array.target) c.args.grant.row v c.empty_hand.new.self _ c.empty_hand.ensures.hand)
