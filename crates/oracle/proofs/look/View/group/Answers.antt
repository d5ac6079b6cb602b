use Rattle.oracle.proofs.Looking.{group_below}
use Rattle.oracle.proofs.look.View.group.Goals as goal

pub invariant_of-result : goal.invariant_of-result
invariant_of-result g c =
    let at = c.in_ok-number.ensures in
    record { inside = group_below (g.L.Layout.geometry c.args.self.now.layout.now) c.args.sector c.in_ok-number.number (g.met.L.Layout.lawful c.args.self.now.layout.now) at.0 at.1 at.2 }
