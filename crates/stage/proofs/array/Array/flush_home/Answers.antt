use Rattle.stage.specs.Arrays.{crew_of}
use Rattle.stage.specs.Looks.{homes_of}
use Rattle.stage.proofs.Flushed.{home_flushed, slot_flushed}
use Rattle.stage.proofs.array.Array.flush_home.Goals as goal

pub returns-in-Some : goal.returns-in-Some
returns-in-Some g c =
    let place = g.L.Layout.geometry in
    let v = c.args.self.now in
    home_flushed (crew_of place v) (homes_of place v c.args.sector) (place v.source) (place v.target) (place c.in-Some.layout.now) c.args.sector
    (g.S.Shelf.meaning c.args.shelf.now) (g.S.Shelf.meaning c.flush_places.new.shelf) c.flush_places.result
    (rw c.in-Some.is at c.home_layout.ensures) c.flush_places.ensures

pub returns-in-None : goal.returns-in-None
returns-in-None g c =
    let place = g.L.Layout.geometry in
    let v = c.args.self.now in
    slot_flushed (crew_of place v) (homes_of place v c.args.sector) (place v.source) (place v.target) c.args.sector
    (g.S.Shelf.meaning c.args.shelf.now) (g.S.Shelf.meaning c.flush_all.new.shelf) c.flush_all.result (rw c.in-None.is at c.home_layout.ensures) c.flush_all.ensures
