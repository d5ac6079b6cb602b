-- The first cut of a schedule that is due.
use Rattle.std.proofs.Common.{◌≡◌, ℕ, zero, suc, ◌+◌, ◌<◌, ◌≤◌, true, cond, eqb, List, [], ◌∷◌, length, get_or, refl, sym, ap, ◌∙◌, inl, inr, arith, rules}
use Rattle.std.specs.Prelude.{Some, None, Option, IfSome, IsSomeAnd, MatchOption, option_map, unwrap_or}
use Rattle.std.specs.Iterator.Runs.{AllItemsGive, CallKeepsClosure, IsFirstToGive, Run}
use Rattle.std.specs.Fn.{Called}
use denote.Param.Members.{Mut}
use Rattle.std.proofs.lemmas.Bool.{cases_Bool, cond-true, cond-false}
use denote.Ref.{Bor}
use Rattle.drill.specs.declared.schedule.Incident.{Incident}
use Rattle.drill.specs.declared.schedule.Kind.{Kind}
use Rattle.drill.specs.declared.schedule.Kind.TheVariants.{CutBefore, CutAfter, Lose}
use Rattle.drill.specs.declared.schedule.Power.{Power}
use Rattle.drill.specs.declared.schedule.Power.TheVariants.{Stays}
use Rattle.drill.specs.Schedules.{cut_by, cut_of, decides, power_due}

-- one incident, before the rest of the schedule
by_kind : (k : Kind) (later : Power) → decides k later ≡ unwrap_or (cut_of k) later
by_kind CutBefore later = refl
by_kind CutAfter later = refl
by_kind (Lose m) later = refl

by_cut : (x : Incident) (n : ℕ) (later : Power) → cond (eqb x.at n) (decides x.kind later) later ≡ unwrap_or (cut_by x n) later
by_cut x n later = elim (cases_Bool (eqb x.at n)) [
  | inl due ↦ cond-true (eqb x.at n) _ _ due ∙ (by_kind x.kind later ∙ ap (λ o. unwrap_or o later) (sym (cond-true (eqb x.at n) _ _ due)))
  | inr off ↦ cond-false (eqb x.at n) _ _ off ∙ ap (λ o. unwrap_or o later) (sym (cond-false (eqb x.at n) (cut_of x.kind) None off))
]

-- no cut is due
pub none_due : (xs : List Incident) (n : ℕ) → ((k : ℕ) (d : Incident) → k < length xs → cut_by (get_or xs k d) n ≡ None) → power_due xs n ≡ Stays
none_due [] n h = refl
none_due (x ∷ xs) n h = by_cut x n _ ∙ (ap (λ o. unwrap_or o (power_due xs n)) (h 0 x (omega arith)) ∙ none_due xs n (λ k d lt. h (suc k) d (omega arith)))

-- the first one is that at place i
pub first_due : (xs : List Incident) (n i : ℕ) (p : Power) → i < length xs → ((d : Incident) → cut_by (get_or xs i d) n ≡ Some p)
    → ((k : ℕ) (d : Incident) → k < i → cut_by (get_or xs k d) n ≡ None) → power_due xs n ≡ p
first_due [] n i p lt is h = absurd (omega arith)
first_due (x ∷ xs) n zero p lt is h = by_cut x n _ ∙ ap (λ o. unwrap_or o (power_due xs n)) (is x)
first_due (x ∷ xs) n (suc i) p lt is h = by_cut x n _ ∙ (ap (λ o. unwrap_or o (power_due xs n)) (h 0 x (omega arith)) ∙ first_due xs n i p (omega arith) is (λ k d l. h (suc k) d (omega arith)))

-- a reference to an incident, and what it is
pub read_as : (o : Option (Bor Incident)) (y : Incident) (n : ℕ) (r : Option Power) → option_map (λ x. x.now) o ≡ Some y → IfSome o (λ x. cut_by x.now n ≡ r) → cut_by y n ≡ r
read_as None y n r e h = absurd (search rules)
read_as (Some x) y n r e h = search rules

-- what a search of a list's references finds by their cuts
module _ {S F : Type 0} {steps : S → Option (Bor Incident) → S → Type 0} {g : Mut F (Bor Incident × Unit {0}) (Option Power)} (f : F) (p : Run steps) (xs : List Incident) (n : ℕ) where
  told_if : ((x : Bor Incident) (o : Option Power) (q : F) → Called g f (x, tt) o q → cut_by x.now n ≡ o)
      → (o : Option (Bor Incident)) (a : Option Power) → IfSome o (λ x. Called g f (x, tt) a f) → IfSome o (λ x. cut_by x.now n ≡ a)
  told_if told None a h = tt
  told_if told (Some x) a h = told x a f h

  told_and : ((x : Bor Incident) (o : Option Power) (q : F) → Called g f (x, tt) o q → cut_by x.now n ≡ o)
      → (o : Option (Bor Incident)) (a : Option Power) → IsSomeAnd o (λ x. Called g f (x, tt) a f) → IfSome o (λ x. cut_by x.now n ≡ a)
  told_and told None a h = tt
  told_and told (Some x) a h = told x a f h

  pub found_first : (r : Option Power) → p.len ≤ length xs → (p.whole ≡ true → p.len ≡ length xs) → ((k : ℕ) (d : Incident) → k < p.len → option_map (λ y. y.now) (p.at k) ≡ Some (get_or xs k d))
      → MatchOption r ((p.whole ≡ true) × AllItemsGive p g f None) (λ y. (i : ℕ) × (i < p.len) × (p.len ≡ i + 1) × IsFirstToGive p g f (Some y) None i)
      → CallKeepsClosure g f → ((x : Bor Incident) (o : Option Power) (q : F) → Called g f (x, tt) o q → cut_by x.now n ≡ o)
      → unwrap_or r Stays ≡ power_due xs n
  found_first None fits whole reads found keeps told =
      sym (none_due xs n (λ k d lt. read_as (p.at k) _ n None (reads k d (omega (arith, whole found.0))) (told_if told (p.at k) None (found.1 keeps k))))
  found_first (Some y) fits whole reads found keeps told =
      sym (first_due xs n found.0 y (omega (arith, found.1, fits)) (λ d. read_as (p.at found.0) _ n (Some y) (reads found.0 d found.1) (told_and told (p.at found.0) (Some y) (found.3 keeps).0))
      (λ k d lt. read_as (p.at k) _ n None (reads k d (omega (arith, found.1))) (told_and told (p.at k) None ((found.3 keeps).1 k lt))))
