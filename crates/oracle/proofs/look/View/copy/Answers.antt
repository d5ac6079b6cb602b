use Rattle.oracle.proofs.Looking.{place_shallow}
use Rattle.oracle.proofs.look.View.copy.Goals as goal

pub on_shelf-requires : goal.on_shelf-requires
on_shelf-requires g c =
    place_shallow (g.L.Layout.geometry c.args.self.now.layout.now) c.args.sector c.args.copy c.place.result (g.met.L.Layout.lawful c.args.self.now.layout.now) c.place.ensures
