use Rattle.std.proofs.Common.{None, ◌%◌, ◌<◌, arith}
use Rattle.model.proofs.Mays.{may_then, may_wider, quiet}
use Rattle.stage.specs.Arrays.{volume_on}
use Rattle.stage.specs.Rows.{SavesSector}
use Rattle.stage.proofs.Chains.{handed_on, stage_may}
use Rattle.stage.proofs.Endings.{slots}
use Rattle.stage.proofs.Saving.{look_saved, look_unsaved}
use Rattle.stage.proofs.array.Array.save_sector.Goals as goal

pub returns-in_err-content-clause-saves : goal.returns-in_err-content-clause-saves
returns-in_err-content-clause-saves g c = λ has.
    let v = volume_on g.L.Layout.geometry c.args.self.now None in
    let a = g.S.Shelf.meaning c.args.shelf.now in
    let d = g.S.Shelf.meaning c.show.new.shelf in
    handed_on (λ r. SavesSector v c.args.sector a d r) c.from_residual.result _ c.from_residual.ensures.1
    (look_unsaved v c.args.sector a d _ has (c.in_err-content.ensures.shows has))

pub returns-clause-may : goal.returns-clause-may
returns-clause-may g c =
    let slot : c.args.sector % c.args.self.now.head.backup < c.args.self.now.head.backup = omega arith in
    may_then (quiet c.show.ensures.may) (may_wider (λ k s x p. slots c.args.self.now.head.backup _ _ k s x slot p)
    (stage_may _ _ _ c.write_slot.result c.write_slot.ensures))

pub returns-clause-saves : goal.returns-clause-saves
returns-clause-saves g c = λ has.
    let v = c.args.self.now in
    look_saved (volume_on g.L.Layout.geometry v None) c.args.sector
    (g.S.Shelf.meaning c.args.shelf.now) (g.S.Shelf.meaning c.show.new.shelf) (g.S.Shelf.meaning c.write_slot.new.shelf) c.in_ok-content.content c.write_slot.result has
    (c.in_ok-content.ensures.shows has) c.write_slot.ensures
