-- Looks at sectors, and tests of the first n of something.
use Rattle.std.proofs.Common.{◌≡◌, ℕ, zero, suc, ◌+◌, ◌<◌, ◌≤◌, Bool, true, cond, ltb, List, [], ◌∷◌, Decides, sym, refl, ap, ◌∙◌, inl, inr, add-one, arith}
use Rattle.std.specs.Str.{bytes_eq}
use Rattle.std.proofs.lemmas.Slice.Eq.{bytes_eq-Decides}
use Rattle.std.proofs.lemmas.Bool.{both_ways, cases_Bool, cases_lt, cases_order, cond-true, cond-false, lt-ltb}
use Rattle.sector.specs.Folds.{folded}
use Rattle.layout.specs.Geometry.{Geometry, capacity, Only}
use Rattle.layout.specs.Lawful.{Lawful}
use Rattle.layout.specs.declared.place.Owner.TheVariants.{Datum, Parity}
use Rattle.shelf.specs.Meaning.{Meaning}
use Rattle.model.specs.Contents.{differs, gathered, is_there, layout_shows_other, some}
use Rattle.layout.specs.declared.TheConstants.{MOST_DEPTH}

decides_one : (r s : Bool) {P : Type 0} → Decides r P → Decides s P → r ≡ s
decides_one r s d e =
    elim (cases_Bool r) [
      | inl t ↦ t ∙ sym (e.1 (d.0 t))
      | inr f ↦ elim (cases_Bool s) [ inl t ↦ d.1 (e.0 t) ∙ sym t | inr g ↦ f ∙ sym g ]
    ]

-- `==` of bytes
pub equal_is : (xs ys : List ℕ) (r : Bool) → Decides r (xs ≡ ys) → r ≡ bytes_eq xs ys
equal_is xs ys r d = decides_one r (bytes_eq xs ys) d (bytes_eq-Decides xs ys)

-- one more is folded in, or skipped
gathered_next : (skip : ℕ → Bool) (f : ℕ → List ℕ) (n : ℕ) → gathered skip f (n + 1) ≡ cond (skip n) (gathered skip f n) (folded (gathered skip f n) (f n))
gathered_next skip f n = ap (gathered skip f) (add-one n)

pub gather_more : (skip : ℕ → Bool) (f : ℕ → List ℕ) (n : ℕ) (x y : List ℕ) → x ≡ gathered skip f n → y ≡ cond (skip n) x (folded x (f n)) → y ≡ gathered skip f (n + 1)
gather_more skip f n x y e d = d ∙ (ap (λ z. cond (skip n) z (folded z (f n))) e ∙ sym (gathered_next skip f n))

-- one that was found is one of all
pub some_found : (f : ℕ → Bool) (n k : ℕ) → k < n → f k ≡ true → some f n ≡ true
some_found f zero k lt here = absurd (omega arith)
some_found f (suc n) k lt here =
    elim (cases_Bool (some f n)) [
      | inl t ↦ cond-true (some f n) true (f n) t
      | inr none ↦ elim (cases_order k n) [
        | inl e ↦ cond-false (some f n) true (f n) none ∙ (ap f (sym e) ∙ here)
        | inr o ↦ elim o [
          | inl below ↦ absurd (both_ways (some f n) none (some_found f n k below here))
          | inr above ↦ absurd (omega arith)
        ]
      ]
    ]

-- a place of a layout is not deep
pub datum_deep : (g : Geometry) (i j : ℕ) (p : ℕ × ℕ) → Lawful g → i < capacity g → j < g.copies → p ≡ g.datum i j → p.1 ≤ MOST_DEPTH
datum_deep g i j p law lt below e =
    let inside = (law.placing.inside (Datum i j) (lt, below)).offset in
    omega (arith, inside, law.limits.depth_most, ap (λ (q : ℕ × ℕ). q.1) e)

pub parity_deep : (g : Geometry) (x : ℕ) (p : ℕ × ℕ) → Lawful g → x < g.groups → p ≡ g.parity x → p.1 ≤ MOST_DEPTH
parity_deep g x p law lt e =
    let inside = (law.placing.inside (Parity x) lt).offset in
    omega (arith, inside, law.limits.depth_most, ap (λ (q : ℕ × ℕ). q.1) e)

-- nor is what it answers for any sector and copy
pub place_shallow : (g : Geometry) (i j : ℕ) (p : ℕ × ℕ) → Lawful g → Only p ((i < capacity g) × (j < g.copies)) (g.datum i j) (0, 0) → p.1 ≤ MOST_DEPTH
place_shallow g i j p law only =
    elim (cases_lt i (capacity g)) [
      | inr out ↦ nowhere (only.1 (λ h. omega (arith, h.0, out)))
      | inl lt ↦ elim (cases_lt j g.copies) [
        | inr past ↦ nowhere (only.1 (λ h. omega (arith, h.1, past)))
        | inl below ↦ datum_deep g i j p law lt below (only.0 (lt, below))
      ]
    ]
  where
    nowhere : p ≡ (0, 0) → p.1 ≤ MOST_DEPTH
    nowhere e = omega (arith, ap (λ (q : ℕ × ℕ). q.1) e)

-- nothing folds into nothing else
pub folded_nothing : (xs : List ℕ) → folded xs [] ≡ xs
folded_nothing [] = refl
folded_nothing (x ∷ xs) = refl

pub group_below : (g : Geometry) (i x : ℕ) → Lawful g → 0 < g.groups → i < capacity g → x ≡ g.group i → x < g.groups
group_below g i x law any lt e = (let joined = (law.grouping.joined i any lt).group in omega (arith, joined, e))

-- some copy is there, and what is asked of those
pub copies_there : (g : Geometry) (a : Meaning) (backup i : ℕ) (x : List ℕ) (n : ℕ) (r s : Bool) → n ≡ g.copies → i < capacity g
    → r ≡ some (λ j. is_there a (g.datum i j)) n → r ≡ true → s ≡ some (λ j. differs a backup x (g.datum i j)) n → s ≡ layout_shows_other g a backup x i
copies_there g a backup i x n r s e lt there found differ =
    differ ∙ (ap (some (λ j. differs a backup x (g.datum i j))) e
    ∙ sym (cond-true (ltb i (capacity g)) _ true (lt-ltb i (capacity g) lt)
    ∙ cond-true (some (λ j. is_there a (g.datum i j)) g.copies) _ _ (ap (some (λ j. is_there a (g.datum i j))) (sym e) ∙ (sym there ∙ found))))
