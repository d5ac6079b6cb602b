use Rattle.std.proofs.Common.{◌∙◌, ◌+◌, ap, cond, not, rules, tests}
use Rattle.std.specs.List.{fold}
use Rattle.stage.proofs.Crews.{all_counted, one_absent, ranged}
use Rattle.stage.proofs.array.absent_below.Goals as goal

pub returns : goal.returns
returns g c =
    let present = (g.S.Shelf.meaning c.args.shelf.now).present in
    let run = c.count.ensures.runs in
    let source = c.filter.ensures.runs run.0 run.0.seen run.1 in
    run.3 ∙ (source.2.5 (λ a k. a + cond (not (present k)) 1 0) (λ x b q n k. (search (rules, tests), one_absent (present x) b n (search (rules, tests)))) ∙ (ap (fold (λ a k. a + cond (not (present k)) 1 0) 0) (ranged source.0 c.args.end (source.2.0 ∙ run.2) source.1) ∙ all_counted (λ k. not (present k)) c.args.end))
