use Rattle.std.proofs.Common.{rules}
use Rattle.overlap.proofs.Answering.{led_is}
use Rattle.overlap.proofs.parity_need.Goals as goal

pub returns : goal.returns
returns g c below =
    led_is (g.Old.Layout.geometry c.args.source.now) (g.met.New.Layout.lawful c.args.target.now) c.args.size
    c.args.sector c.map_or.result below c.led_group.result _ c.led_group.ensures c.map_or.ensures (λ x few called. search rules)
