-- Runs of zeros.
use Rattle.std.proofs.Common.{◌≡◌, ℕ, ◌<◌, Bool, true, false, List, length, get_or, ap, ◌∙◌, sym, MatchBool, arith}
use Rattle.std.specs.List.{AllWithin, HoldsAt}
use Rattle.std.proofs.lemmas.List.{ext_get_or, length-replicate, get_or-replicate}
use Rattle.head.specs.Fields.{Decided, clear}

pub tells_clear : (r : Bool) (bs : List ℕ)
    → MatchBool r (AllWithin (λ b. b ≡ 0) bs 0 (length bs)) ((k : ℕ) × (k < length bs) × HoldsAt (λ b. b ≡ 0 → ⊥) bs k)
    → Decided r (bs ≡ clear (length bs))
unfolding clear
tells_clear true bs all =
    ext_get_or 0 bs _ (sym (length-replicate (length bs) 0))
    (λ i h. all i 0 (omega arith) h ∙ sym (get_or-replicate (length bs) i 0 0 h))
tells_clear false bs (k, h, not) = λ e. not 0 (ap (λ t. get_or t k 0) e ∙ get_or-replicate (length bs) k 0 0 h)
