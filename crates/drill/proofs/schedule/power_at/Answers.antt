use Rattle.std.proofs.Common.{◌≡◌, ◌∙◌, ap, rules, tests}
use Rattle.std.specs.Slice.Iter.{iter_rest}
use Rattle.drill.specs.Schedules.{power_due}
use Rattle.drill.proofs.Scheduling.{found_first}
use Rattle.drill.proofs.schedule.power_at.Goals as goal

pub returns : goal.returns
returns c =
    let found = c.find_map.ensures.runs in
    let items = c.iter.ensures.runs found.0 found.0.seen in
    let from : iter_rest found.0.from ≡ c.args.incidents.now = search rules in
    c.unwrap_or.ensures ∙ (found_first _ found.0 _ c.args.clock c.find_map.result items.0 items.1 items.2 found.2 (λ a r q k. search (rules, tests)) (λ x r q k. search (rules, tests)) ∙ ap (λ l. power_due l c.args.clock) from)
