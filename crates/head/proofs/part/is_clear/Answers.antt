use Rattle.std.proofs.Common.{rules, ◌≡◌, tests}
use Rattle.std.proofs.lemmas.Iterator.{cases_from_all, YieldsList-from_slice}
use Rattle.head.proofs.Zeros.{tells_clear}
use Rattle.head.proofs.part.is_clear.Goals as goal

pub returns : goal.returns
returns c =
    tells_clear c.all.result c.args.bytes.now
    (cases_from_all _ _ _ (λ b. b ≡ 0) (λ b. b ≡ 0 → ⊥) c.all.ensures.ran (YieldsList-from_slice c.args.bytes.now cc)
    (λ b q k. search (rules, tests)) (λ b q k. search (rules, tests)))
