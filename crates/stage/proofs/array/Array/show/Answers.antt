use Rattle.std.proofs.Common.{◌<◌, arith, subst}
use Rattle.answer.specs.declared.Operation.TheVariants.{Read}
use Rattle.model.specs.Reading.{common}
use Rattle.model.specs.Faults.{OnSector}
use Rattle.stage.specs.Arrays.{crew_of}
use Rattle.stage.specs.Looks.{OneSure, Shows, homes_of}
use Rattle.stage.proofs.Shown.{shown_at, slot_shown}
use Rattle.stage.proofs.array.Array.show.Goals as goal

pub returns-in-Some-clause-shows : goal.returns-in-Some-clause-shows
returns-in-Some-clause-shows g c =
    let place = g.L.Layout.geometry in
    let v = c.args.self.now in
    let is = rw c.in-Some.is at c.home_layout.ensures in
    shown_at (homes_of place v c.args.sector) (place v.source) (place v.target) (place c.in-Some.layout.now) v.head.backup c.args.sector
    (g.S.Shelf.meaning c.args.shelf.now) (g.S.Shelf.meaning c.show_in.new.shelf) c.show_in.result is c.show_in.ensures.shows

pub returns-in-None-clause-shows : goal.returns-in-None-clause-shows
returns-in-None-clause-shows g c =
    let place = g.L.Layout.geometry in
    let v = c.args.self.now in
    let a = g.S.Shelf.meaning c.args.shelf.now in
    let b = g.S.Shelf.meaning c.read_held.new.shelf in
    let is = rw c.in-None.is at c.home_layout.ensures in
    let some : 0 < v.head.backup = omega arith in
    slot_shown (homes_of place v c.args.sector) (place v.source) (place v.target) (g.met.L.Layout.lawful v.source) v.head.backup c.args.sector a b c.read_held.result is some
    (subst (λ t. OneSure (crew_of place v) t a → Shows (crew_of place v) (OnSector Read a t) a b (λ m. common m t) c.read_held.result) c.slot.ensures c.read_held.ensures.shows)
