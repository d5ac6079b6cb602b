use Rattle.std.proofs.Common.{◌∙◌, ap, sym}
use Rattle.oracle.specs.Showing.{shown}
use Rattle.oracle.specs.declared.candidates.Candidates.{Candidates}
use Rattle.oracle.proofs.Showing.{chosen_first, chosen_later, chosen_never, left_one}
use Rattle.oracle.proofs.candidates.Candidates.choose.Goals as goal
use Rattle.oracle.proofs.candidates.Candidates.choose.Goals.{then-not-is_shown+in-Some, then-not-is_shown+in_default, else-not-is_shown}

pub returns : goal.returns
returns g c = λ some.
    (let s = g.L.Layout.geometry c.args.source.now in
    let t = g.L.Layout.geometry c.args.target.now in
    let a = g.S.Shelf.meaning c.args.shelf.now in
    let v = c.args.told.now in
    let first = c.args.self.now.first in
    let further = c.args.self.now.further.items in
    left_one c.if-not-is_shown.self.first c.clear.new.self.items _ c.clear.ensures.items (elim c.if-not-is_shown.branch [
      | then-not-is_shown+in-Some w ↦
          ap (λ (x : Candidates). shown x.first) w.self-is
          ∙ chosen_later s t a c.args.backup v first further w.deref.result.now w.in-Some.at w.swap_remove.result (sym (c.is_shown.ensures some) ∙ w.if-not-is_shown.true) w.deref.ensures.value (w.in-Some.ensures.first some) w.swap_remove.ensures.value
      | then-not-is_shown+in_default w ↦
          ap (λ (x : Candidates). shown x.first) w.self-is
          ∙ chosen_never s t a c.args.backup v first further w.deref.result.now (sym (c.is_shown.ensures some) ∙ w.if-not-is_shown.true) w.deref.ensures.value (w.in_default.ensures.first some)
      | else-not-is_shown w ↦
          ap (λ (x : Candidates). shown x.first) w.self-is
          ∙ chosen_first s t a c.args.backup v first further (sym (c.is_shown.ensures some) ∙ w.if-not-is_shown.false)
    ]))
