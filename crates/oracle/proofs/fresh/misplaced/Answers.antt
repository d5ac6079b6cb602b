use Rattle.std.proofs.Common.{ℕ, ap, ◌∙◌, rules, arith}
use Rattle.std.proofs.lemmas.Iterator.{YieldsList-from_map, YieldsList-from_range}
use Rattle.std.proofs.lemmas.Iterator.Consumers.{fits_from_yields_list, sum_from_yields_List}
use Rattle.model.specs.Crew.{count}
use Rattle.oracle.specs.Showing.{shown}
use Rattle.model.specs.Strays.{is_misplaced, misplaced_below}
use Rattle.oracle.proofs.Firsts.{count_most, sum_most}
use Rattle.oracle.proofs.Misplaced.{misplaced_is}
use Rattle.oracle.proofs.fresh.misplaced.Goals as goal
use Rattle.layout.specs.declared.TheConstants.{MOST_DEPTH}

pub sum-requires-clause-fits : goal.sum-requires-clause-fits
sum-requires-clause-fits g c =
    let q = g.L.Layout.geometry c.args.layout.now in
    let law = g.met.L.Layout.lawful c.args.layout.now in
    let on : ℕ → ℕ = λ k. count (is_misplaced q (g.S.Shelf.meaning c.args.shelf.now) c.args.backup (shown c.args.disk.now) k) q.depth in
    fits_from_yields_list _ _
    (YieldsList-from_map _ on (YieldsList-from_range 0 c.members.result c.members.result (cc) (omega arith)) c.map.ensures.closure (λ x r f called. search rules))
    (omega (arith, sum_most on MOST_DEPTH c.members.result (λ k. omega (arith, count_most (is_misplaced q (g.S.Shelf.meaning c.args.shelf.now) c.args.backup (shown c.args.disk.now) k) q.depth, law.limits.depth_most)), c.members.ensures, law.limits.members_most))

pub returns : goal.returns
returns g c =
    let q = g.L.Layout.geometry c.args.layout.now in
    let a = g.S.Shelf.meaning c.args.shelf.now in
    let d = shown c.args.disk.now in
    sum_from_yields_List _ _ c.sum.ensures.ran
    (YieldsList-from_map _ (λ k. count (is_misplaced q a c.args.backup d k) q.depth) (YieldsList-from_range 0 c.members.result c.members.result (cc) (omega arith)) c.map.ensures.closure (λ x r f called. search rules))
    ∙ (misplaced_is q a c.args.backup d c.members.result ∙ ap (misplaced_below q a c.args.backup d) c.members.ensures)
