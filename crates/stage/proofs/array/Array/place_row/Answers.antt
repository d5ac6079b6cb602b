use Rattle.std.proofs.Common.{None, ◌+◌, arith}
use Rattle.model.specs.May.{From}
use Rattle.model.proofs.Mays.{may_refl, may_then, quiet}
use Rattle.stage.specs.Arrays.{volume_on}
use Rattle.stage.specs.Endings.{StageEnds, reads_and_writes}
use Rattle.stage.specs.Rows.{PlacesRow}
use Rattle.stage.proofs.Chains.{handed_on, stage_may}
use Rattle.stage.proofs.PlacedRow.{row_begins, row_done, row_ends, row_met, row_next, row_placed}
use Rattle.stage.proofs.array.Array.place_row.Goals as goal

pub loop-sector-init : goal.loop-sector-init
loop-sector-init g c = (
  may_refl (g.S.Shelf.meaning c.args.shelf.now),
  λ has. row_begins (volume_on g.L.Layout.geometry c.args.self.now None) c.args.sectors.start c.args.sectors.end (g.S.Shelf.meaning c.args.shelf.now) has,
)

pub returns-in_err-place_led-clause-ends : goal.returns-in_err-place_led-clause-ends
returns-in_err-place_led-clause-ends g c = λ has.
    let v = volume_on g.L.Layout.geometry c.args.self.now None in
    let a = g.S.Shelf.meaning c.args.shelf.now in
    let d = g.S.Shelf.meaning c.place_led.new.shelf in
    let so = c.loop-sector.invariant.1 has in
    handed_on (λ r. StageEnds v.crew reads_and_writes (From (3 + v.backup)) a d r) c.from_residual.result _ c.from_residual.ensures.1
    (row_ends d _ (g.met.L.Layout.lawful c.args.self.now.source) (g.met.L.Layout.lawful c.args.self.now.target) (omega arith) (omega arith) so
    (c.in_err-place_led.ensures.places so.has))

pub returns-in_err-place_led-clause-places : goal.returns-in_err-place_led-clause-places
returns-in_err-place_led-clause-places g c = λ has row can.
    let v = volume_on g.L.Layout.geometry c.args.self.now None in
    let a = g.S.Shelf.meaning c.args.shelf.now in
    let d = g.S.Shelf.meaning c.place_led.new.shelf in
    let so = c.loop-sector.invariant.1 has in
    handed_on (λ r. PlacesRow v row a d r) c.from_residual.result _ c.from_residual.ensures.1
    (row_met d _ (g.met.L.Layout.lawful c.args.self.now.source) (g.met.L.Layout.lawful c.args.self.now.target) can (omega arith) (omega arith) so
    (c.in_err-place_led.ensures.places so.has))

pub loop-sector-preserved : goal.loop-sector-preserved
loop-sector-preserved g c = (
  may_then c.loop-sector.invariant.0 c.place_led.ensures.may,
  λ has.
      let so = c.loop-sector.invariant.1 has in
      row_next (g.S.Shelf.meaning c.place_led.new.shelf) (g.met.L.Layout.lawful c.args.self.now.source) (g.met.L.Layout.lawful c.args.self.now.target) (omega arith)
      (omega arith) so
      (c.in_ok-place_led.ensures.places so.has),
)

pub returns-clause-may : goal.returns-clause-may
returns-clause-may g c = may_then c.loop-sector.invariant.0 (quiet (stage_may _ _ _ c.flush_all.result c.flush_all.ensures))

pub returns-clause-ends : goal.returns-clause-ends
returns-clause-ends g c = λ has. row_done (g.S.Shelf.meaning c.flush_all.new.shelf) (c.loop-sector.invariant.1 has) c.flush_all.result c.flush_all.ensures

pub returns-clause-places : goal.returns-clause-places
returns-clause-places g c = λ has row can.
    row_placed (g.S.Shelf.meaning c.flush_all.new.shelf) (g.met.L.Layout.lawful c.args.self.now.target) can
    (let start = can.start in let end = can.end in omega (arith, start, end)) (c.loop-sector.invariant.1 has) c.flush_all.result c.flush_all.ensures
