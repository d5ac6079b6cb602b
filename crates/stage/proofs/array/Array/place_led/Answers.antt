use Rattle.stage.proofs.PlacedRow.{bare_led, group_led, led_elsewhere}
use Rattle.stage.proofs.array.Array.place_led.Goals as goal

pub returns-in-None-clause-places : goal.returns-in-None-clause-places
returns-in-None-clause-places g c = λ has.
    bare_led (g.S.Shelf.meaning c.place_sector.new.shelf) (g.met.L.Layout.lawful c.args.self.now.target) (rw c.in-None.is at c.group.ensures) c.place_sector.result
    (c.place_sector.ensures.places has)

pub returns-in-Some-clause-places : goal.returns-in-Some-clause-places
returns-in-Some-clause-places g c = λ has.
    group_led (g.S.Shelf.meaning c.place_group.new.shelf) (g.met.L.Layout.lawful c.args.self.now.target) (rw c.in-Some.is at c.group.ensures) c.peer.ensures
    c.if-peer-sector.true c.place_group.result (c.place_group.ensures.places has)

pub returns-in-Some-2-clause-places : goal.returns-in-Some-2-clause-places
returns-in-Some-2-clause-places g c = λ has.
    led_elsewhere (g.S.Shelf.meaning c.args.shelf.now) (g.met.L.Layout.lawful c.args.self.now.target) has
    (rw c.in-Some.is at c.group.ensures) c.peer.ensures c.if-peer-sector.false
