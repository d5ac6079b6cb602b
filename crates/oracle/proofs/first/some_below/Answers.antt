use Rattle.std.proofs.Common.{◌≡◌, ◌<◌, true, false, refl, sym, of_calls, arith}
use Rattle.std.proofs.lemmas.Iterator.{cases_from_any, YieldsList-from_range}
use Rattle.oracle.proofs.Firsts.{some_is}
use Rattle.oracle.proofs.first.some_below.Goals as goal

pub returns : goal.returns
returns g c f same =
    some_is f c.args.end c.any.result
    (cases_from_any _ _ _ (λ i. i < c.args.end → f i ≡ true) (λ i. i < c.args.end → f i ≡ false) c.any.ensures.ran (YieldsList-from_range 0 c.args.end c.args.end refl (omega arith))
    (λ x q k lt. sym (same x true lt (search of_calls))) (λ x q k. (g.met.F.Fn.1.step_stays _ _ _ _ k, λ lt. sym (same x false lt (search of_calls)))))
