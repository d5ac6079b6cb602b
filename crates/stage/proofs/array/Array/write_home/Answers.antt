use Rattle.stage.specs.Arrays.{crew_of}
use Rattle.stage.specs.Looks.{homes_of}
use Rattle.stage.proofs.Written.{home_written, slot_written}
use Rattle.stage.proofs.array.Array.write_home.Goals as goal

pub returns-in-Some : goal.returns-in-Some
returns-in-Some g c =
    let place = g.L.Layout.geometry in
    let v = c.args.self.now in
    let e = c.args.entry in
    home_written (crew_of place v) (homes_of place v e.sector) (place v.source) (place v.target) (place c.in-Some.layout.now) v.head.backup e.sector e.datum.now
    e.parity.now (g.S.Shelf.meaning c.args.shelf.now) (g.S.Shelf.meaning c.write_places.new.shelf) c.write_places.result
    (rw c.in-Some.is at c.home_layout.ensures) c.write_places.ensures

pub returns-in-None : goal.returns-in-None
returns-in-None g c =
    let place = g.L.Layout.geometry in
    let v = c.args.self.now in
    let e = c.args.entry in
    slot_written (crew_of place v) (homes_of place v e.sector) (place v.source) (place v.target) v.head.backup e.sector e.datum.now e.parity.now
    (g.S.Shelf.meaning c.args.shelf.now) (g.S.Shelf.meaning c.write_slot.new.shelf) c.write_slot.result
    (rw c.in-None.is at c.home_layout.ensures) c.write_slot.ensures
