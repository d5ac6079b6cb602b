-- The numbers that stock kinds have.
use Rattle.std.proofs.Common.{◌≡◌, ◌≢◌, ℕ, ◌==◌, [], ◌∷◌, false, refl, Option, Result, ap, ◌∙◌, sym, subst, arith}
use Rattle.std.specs.List.{find}
use Rattle.std.specs.Option.{ok_or}
use Rattle.std.proofs.lemmas.Bool.{cond_both, eqb-true, eqb-false}
use Rattle.layout.specs.declared.kind.Kind.{Kind}
use Rattle.layout.specs.declared.kind.Kind.TheVariants.{Striped, LeftSymmetric, Near, Far}
use Rattle.layout.specs.declared.label.Label.{Label}
use Rattle.layout.specs.declared.kind.UnknownKind.{UnknownKind}
use Rattle.layout.specs.Kinds.{kind_number, KindOf}
use Rattle.layout.specs.Labels.{stock_in_limits}

-- a search among all kinds finds the one with the number
pub kind_found : (n : ℕ) (o : Option Kind) (r : Result Kind UnknownKind) → o ≡ find (λ kind. kind_number kind == n) (Striped ∷ LeftSymmetric ∷ Near ∷ Far ∷ [])
    → r ≡ ok_or o record { 0 = n } → KindOf n r
kind_found n o r found is = subst (KindOf n) (sym (is ∙ ap (λ x. ok_or x record { 0 = n }) found)) (among n)
  where
    none : (n : ℕ) → (1 == n) ≡ false → (2 == n) ≡ false → (3 == n) ≡ false → (4 == n) ≡ false → (kind : Kind) → kind_number kind ≢ n
    none n a b c d Striped = eqb-false 1 n a
    none n a b c d LeftSymmetric = eqb-false 2 n b
    none n a b c d Near = eqb-false 3 n c
    none n a b c d Far = eqb-false 4 n d

    among : (n : ℕ) → KindOf n (ok_or (find (λ kind. kind_number kind == n) (Striped ∷ LeftSymmetric ∷ Near ∷ Far ∷ [])) record { 0 = n })
    among n =
        let Of : Option Kind → Type 0 = λ x. KindOf n (ok_or x record { 0 = n }) in
        cond_both (1 == n) _ _ Of (eqb-true 1 n) (λ a. cond_both (2 == n) _ _ Of (eqb-true 2 n) (λ b. cond_both (3 == n) _ _ Of (eqb-true 3 n)
        (λ c. cond_both (4 == n) _ _ Of (eqb-true 4 n) (λ d. (refl, none n a b c d)))))

-- a label whose kind has the number of no stock kind
pub kind_none : (l : Label) → ((kind : Kind) → kind_number kind ≢ l.kind) → stock_in_limits l ≡ false
kind_none l none =
    let a = none Striped in
    let b = none LeftSymmetric in
    let c = none Near in
    let d = none Far in
    grind arith
