use Rattle.std.proofs.Common.{◌∙◌, ◌∷◌, ◌++◌, [], ap, sym}
use Rattle.oracle.specs.Showing.{each_shown, shown_option}
use Rattle.oracle.proofs.Showing.{shown_append}
use Rattle.oracle.proofs.candidates.push.Goals as goal

pub returns-in_ok-push : goal.returns-in_ok-push
returns-in_ok-push c =
    let old = c.args.disks.now.items in
    ap each_shown c.in_ok-push.ensures.items ∙ (shown_append old (c.in-Some.disk ∷ []) ∙ ap (λ o. each_shown old ++ shown_option o) (sym c.in-Some.is))
