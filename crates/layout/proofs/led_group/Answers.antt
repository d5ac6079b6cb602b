use Rattle.std.proofs.Common.{rules}
use Rattle.layout.proofs.Groups.{led}
use Rattle.layout.proofs.led_group.Goals as goal

pub returns : goal.returns
returns g c =
    led (g.L.Layout.geometry c.args.layout.now) (g.met.L.Layout.lawful c.args.layout.now) c.args.sector c.group.result c.filter.result _ c.group.ensures c.filter.ensures
    (λ x first below some asked. search rules)
