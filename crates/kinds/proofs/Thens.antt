-- What `then` gives where a test decides a fact.
use Rattle.std.proofs.Common.{◌≡◌, Bool, Decides, IfSome, MatchOption, Option, Some, None, sym, ◌∙◌}
use Rattle.std.specs.Option.{is_some}

-- M is what the closure tells of its result
pub decided : {A : Type 0} (r : Option A) (test : Bool) (P : Type 0) (M Q : A → Type 0) → is_some r ≡ test → Decides test P → IfSome r M
    → (P → (y : A) → M y → Q y) → MatchOption r (P → ⊥) Q
decided None test P M Q some is made then = λ p. (let e = some ∙ is.1 p in cc)
decided (Some y) test P M Q some is made then = then (is.0 (sym some)) y made
