use Rattle.std.proofs.Common.{None, arith, rules}
use Rattle.model.specs.May.{InSlots}
use Rattle.model.proofs.Mays.{may_refl, may_then, quiet}
use Rattle.stage.specs.Arrays.{volume_on}
use Rattle.stage.specs.Endings.{StageEnds, reads_and_writes}
use Rattle.stage.specs.Rows.{SavesBy}
use Rattle.stage.proofs.Chains.{handed_on, stage_may}
use Rattle.stage.proofs.Saving.{save_begins, save_done, save_met, save_next, saves_at, slots_done, slots_met}
use Rattle.stage.proofs.array.Array.save.Goals as goal

pub loop-sector-init : goal.loop-sector-init
loop-sector-init g c = (
  may_refl (g.S.Shelf.meaning c.args.shelf.now),
  λ has most. save_begins (volume_on g.L.Layout.geometry c.args.self.now None) c.args.sectors.start c.args.sectors.end (g.S.Shelf.meaning c.args.shelf.now)
      (search rules) most has,
)

pub returns-in_err-save_sector-clause-ends : goal.returns-in_err-save_sector-clause-ends
returns-in_err-save_sector-clause-ends g c = λ has most.
    let v = volume_on g.L.Layout.geometry c.args.self.now None in
    let a = g.S.Shelf.meaning c.args.shelf.now in
    let d = g.S.Shelf.meaning c.save_sector.new.shelf in
    handed_on (λ r. StageEnds v.crew reads_and_writes (InSlots v.backup) a d r) c.from_residual.result _ c.from_residual.ensures.1
    (slots_met d _ (omega arith) (saves_at (c.loop-sector.invariant.1 has most) (omega arith) (omega arith) most c.in_err-save_sector.ensures.saves))

pub returns-in_err-save_sector-clause-saves : goal.returns-in_err-save_sector-clause-saves
returns-in_err-save_sector-clause-saves g c = λ has most can some.
    let v = volume_on g.L.Layout.geometry c.args.self.now None in
    let a = g.S.Shelf.meaning c.args.shelf.now in
    let d = g.S.Shelf.meaning c.save_sector.new.shelf in
    handed_on (λ r. SavesBy v c.args.sectors.start c.args.sectors.end a d r) c.from_residual.result _ c.from_residual.ensures.1
    (save_met d _ (g.met.L.Layout.lawful c.args.self.now.source) (g.met.L.Layout.lawful c.args.self.now.target) most can
    (saves_at (c.loop-sector.invariant.1 has most) (omega arith) (omega arith) most c.in_err-save_sector.ensures.saves))

pub loop-sector-preserved : goal.loop-sector-preserved
loop-sector-preserved g c = (
  may_then c.loop-sector.invariant.0 c.save_sector.ensures.may,
  λ has most. save_next (g.met.L.Layout.lawful c.args.self.now.source) (g.met.L.Layout.lawful c.args.self.now.target) (omega arith) most
      (saves_at (c.loop-sector.invariant.1 has most) (omega arith) (omega arith) most c.in_ok-save_sector.ensures.saves),
)

pub returns-clause-may : goal.returns-clause-may
returns-clause-may g c = may_then c.loop-sector.invariant.0 (quiet (stage_may _ _ _ c.flush_all.result c.flush_all.ensures))

pub returns-clause-ends : goal.returns-clause-ends
returns-clause-ends g c = λ has most.
    slots_done c.loop-sector.sector (g.S.Shelf.meaning c.flush_all.new.shelf) (c.loop-sector.invariant.1 has most) c.flush_all.result c.flush_all.ensures

pub returns-clause-saves : goal.returns-clause-saves
returns-clause-saves g c = λ has most can some.
    save_done c.loop-sector.sector (g.S.Shelf.meaning c.flush_all.new.shelf) (omega arith) (c.loop-sector.invariant.1 has most) can c.flush_all.result c.flush_all.ensures
