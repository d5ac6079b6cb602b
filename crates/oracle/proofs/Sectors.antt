-- A sector of a disk, or zeros from its size on.
use Rattle.std.proofs.Common.{◌≡◌, ℕ, ◌<◌, ◌≤◌, ltb, cond, List, [], length, get_or, Option, None, Some, MatchOption, Bor, sym, ◌∙◌}
use Rattle.std.specs.Option.{option_copied}
use Rattle.std.specs.List.{HoldsAt}
use Rattle.std.proofs.lemmas.Bool.{cond-true, cond-false, le-ltb, lt-ltb}

pub looked_up : (xs : List (List ℕ)) (i : ℕ) (z r : List ℕ) (o : Option (Bor (List ℕ)))
    → MatchOption o (length xs ≤ i) (λ x. (i < length xs) × HoldsAt (λ y. x.now ≡ y) xs i) → MatchOption (option_copied o) (r ≡ z) (λ x. r ≡ x) → r ≡ cond (ltb i (length xs)) (get_or xs i []) z
looked_up xs i z r None out u = u ∙ sym (cond-false (ltb i (length xs)) _ z (le-ltb i (length xs) out))
looked_up xs i z r (Some x) inside u = u ∙ (inside.1 [] ∙ sym (cond-true (ltb i (length xs)) _ z (lt-ltb i (length xs) inside.0)))
