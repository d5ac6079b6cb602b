use Rattle.std.proofs.Common.{◌∙◌, rules, tests, arith}
use Rattle.std.proofs.lemmas.Iterator.{YieldsList-from_range}
use Rattle.std.proofs.lemmas.Iterator.Consumers.{YieldsList-from_filter, count_from_yields_List}
use Rattle.oracle.proofs.Firsts.{count_is}
use Rattle.oracle.proofs.first.count_below.Goals as goal

pub returns-clause-value : goal.returns-clause-value
returns-clause-value g c f same =
    count_from_yields_List _ _ c.count.ensures.ran
    (YieldsList-from_filter _ f (YieldsList-from_range 0 c.args.end c.args.end (cc) (omega arith)) c.filter.ensures.closure (λ x b q k. search (rules, tests)))
    ∙ count_is f c.args.end
