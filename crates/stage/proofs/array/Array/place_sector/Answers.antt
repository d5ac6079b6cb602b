use Rattle.std.proofs.Common.{None, ◌<◌}
use Rattle.layout.specs.Geometry.{capacity}
use Rattle.model.specs.Reading.{content_of}
use Rattle.model.proofs.Mays.{may_then, quiet}
use Rattle.stage.specs.Arrays.{volume_on}
use Rattle.stage.specs.Rows.{CopyOf, PlacesBy}
use Rattle.stage.proofs.Chains.{handed_on, stage_may}
use Rattle.stage.proofs.Placed.{look_placed, look_unplaced, places_alone}
use Rattle.stage.proofs.Written.{from_copies}
use Rattle.stage.proofs.array.Array.place_sector.Goals as goal

pub returns-in_err-content-clause-places : goal.returns-in_err-content-clause-places
returns-in_err-content-clause-places g c = λ has.
    let v = volume_on g.L.Layout.geometry c.args.self.now None in
    let a = g.S.Shelf.meaning c.args.shelf.now in
    let d = g.S.Shelf.meaning c.content_ahead.new.shelf in
    handed_on (λ r. PlacesBy v (c.args.sector < capacity v.crew.target) (CopyOf c.args.sector) a d r) c.from_residual.result _ c.from_residual.ensures.1
    (content_of v a, places_alone (look_unplaced c.args.sector d _ has (c.in_err-content.ensures.looks has)))

pub returns-clause-may : goal.returns-clause-may
returns-clause-may g c = may_then (quiet c.content_ahead.ensures.may) (from_copies (stage_may _ _ _ c.write_copies.result c.write_copies.ensures))

pub returns-clause-places : goal.returns-clause-places
returns-clause-places g c = λ has.
    let v = volume_on g.L.Layout.geometry c.args.self.now None in
    let b = g.S.Shelf.meaning c.content_ahead.new.shelf in (
      content_of v b,
      places_alone (look_placed b (g.S.Shelf.meaning c.write_copies.new.shelf) c.in_ok-content.content (g.met.L.Layout.lawful c.args.self.now.target) has
          (c.in_ok-content.ensures.looks has) c.write_copies.result c.write_copies.ensures),
    )
