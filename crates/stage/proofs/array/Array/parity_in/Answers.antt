use Rattle.std.proofs.Common.{◌∙◌, sym}
use Rattle.model.proofs.Mays.{may_refl}
use Rattle.stage.proofs.Shown.{no_parity}
use Rattle.stage.proofs.array.Array.parity_in.Goals as goal

pub returns-in-Some-clause-shows : goal.returns-in-Some-clause-shows
returns-in-Some-clause-shows g c = λ has. let e = rw c.in-Some.is at c.group.ensures in c.group_parity.ensures.shows has e.0 e.2

pub returns-in-None-clause-shows : goal.returns-in-None-clause-shows
returns-in-None-clause-shows g c = λ has.
    let none = rw c.in-None.is at c.group.ensures in (
      may_refl _,
      record { on = λ e. e; enough = λ e. e },
      c.zeros.ensures ∙ sym (no_parity (g.L.Layout.geometry c.args.layout.now) (g.S.Shelf.meaning c.args.shelf.now) c.args.self.now.head.backup c.args.sector c.args.datum.now (λ any. none (any, has.below))),
    )
