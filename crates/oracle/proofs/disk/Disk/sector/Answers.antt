use Rattle.std.proofs.Common.{◌≡◌, List, ℕ, [], MatchOption, cond, ltb, length, get_or, replicate, subst, ap, ◌∙◌}
use Rattle.oracle.proofs.Sectors.{looked_up}
use Rattle.oracle.proofs.disk.Disk.sector.Goals as goal

pub returns : goal.returns
returns c =
    looked_up c.deref.result.now c.args.index (replicate 512 0) _ c.get.result c.get.ensures.lookup.3 (subst (λ k. MatchOption k (c.unwrap_or_else.result ≡ replicate 512 0) (λ x. c.unwrap_or_else.result ≡ x)) c.copied.ensures c.unwrap_or_else.ensures)
    ∙ ap (λ (xs : List (List ℕ)). cond (ltb c.args.index (length xs)) (get_or xs c.args.index []) (replicate 512 0)) c.deref.ensures.value
