-- Sectors that are saved one after another, each in its slot.
use Rattle.std.proofs.Common.{◌≡◌, ℕ, zero, suc, ◌+◌, ◌/◌, ◌%◌, ◌<◌, ◌≤◌, ◌⊎◌, List, ◌==◌, cond, refl, sym, ap, ◌∙◌, inl, inr, arith}
use Rattle.std.proofs.lemmas.Bool.{cases_eq, cases_lt, cond-false, cond-true, eq-eqb, ne_eqb}
use Rattle.std.proofs.lemmas.Nat.{div-add-mod', mul-le}
use Rattle.head.specs.declared.TheConstants.{SLOTS_AT}
use Rattle.model.specs.Images.{Image, saved, with_sector}
use Rattle.model.proofs.Carrying.{sector_left, sector_set}

-- numbers closer together than so many leave different remainders
apart : (from backup j m : ℕ) → j < m → m < backup → (from + j) % backup ≡ (from + m) % backup → ⊥
apart from backup j m lt most e =
    let p = (from + j) / backup in
    let q = (from + m) / backup in
    let low = div-add-mod' (from + j) backup in
    let high = div-add-mod' (from + m) backup in
    elim (cases_lt p q) [
      | inl less ↦ (let room = mul-le (p + 1) backup q backup (omega (arith, less)) (omega arith) in omega (arith, low, high, e, room, lt, most))
      | inr more ↦ (let room = mul-le q backup p backup more (omega arith) in omega (arith, low, high, e, room, lt))
    ]

-- a sector that is the slot of none of them stays
pub unsaved : (backup : ℕ) (c : ℕ → List ℕ) (from n : ℕ) (f : Image) (k s : ℕ) → ((j : ℕ) → j < n → s ≡ SLOTS_AT + (from + j) % backup → ⊥)
    → saved backup c from n f k s ≡ f k s
unsaved backup c from zero f k s ne = refl
unsaved backup c from (suc n) f k s ne =
    sector_left (SLOTS_AT + (from + n) % backup) (c (from + n)) (saved backup c from n f) k s (ne n (omega arith))
    ∙ unsaved backup c from n f k s (λ j lt. ne j (omega (arith, lt)))

-- the same contents, as far as they are saved
pub saved_alike : (backup : ℕ) (c d : ℕ → List ℕ) (from n : ℕ) (f : Image) (k s : ℕ) → ((j : ℕ) → j < n → c (from + j) ≡ d (from + j))
    → saved backup c from n f k s ≡ saved backup d from n f k s
saved_alike backup c d from zero f k s same = refl
saved_alike backup c d from (suc n) f k s same =
    ap (λ x. with_sector (SLOTS_AT + (from + n) % backup) x (saved backup c from n f) k s) (same n (omega arith))
    ∙ ap (λ x. cond (s == SLOTS_AT + (from + n) % backup) (d (from + n)) x) (saved_alike backup c d from n f k s (λ j lt. same j (omega (arith, lt))))

-- Where no two share a slot, so many of more are saved as all of them are, or not yet.
pub saved_sofar : (backup : ℕ) (c : ℕ → List ℕ) (from n m : ℕ) (f : Image) (k s : ℕ) → n ≤ m → m ≤ backup
    → (saved backup c from n f k s ≡ f k s) ⊎ (saved backup c from n f k s ≡ saved backup c from m f k s)
saved_sofar backup c from n zero f k s le most = inr (ap (λ j. saved backup c from j f k s) (let none : n ≡ 0 = omega (arith, le) in none))
saved_sofar backup c from n (suc m) f k s le most = elim (cases_eq n (suc m)) [
  | inl e ↦ inr (ap (λ j. saved backup c from j f k s) e)
  | inr less ↦ elim (cases_eq s (SLOTS_AT + (from + m) % backup)) [
    | inl own ↦ inl (unsaved backup c from n f k s (λ j lt e.
        apart from backup j m (omega (arith, lt, le, less)) (omega (arith, most)) (let same = sym e ∙ own in omega (arith, same))))
    | inr other ↦ elim (saved_sofar backup c from n m f k s (omega (arith, le, less)) (omega (arith, most))) [
      | inl e ↦ inl e
      | inr e ↦ inr (e ∙ sym (sector_left (SLOTS_AT + (from + m) % backup) (c (from + m)) (saved backup c from m f) k s other))
    ]
  ]
]

-- one more content, and the others as before
abbrev pub with_content : ℕ → List ℕ → (ℕ → List ℕ) → ℕ → List ℕ
with_content i x c j = cond (j == i) x (c j)

pub content_set : (i : ℕ) (x : List ℕ) (c : ℕ → List ℕ) (j : ℕ) → j ≡ i → with_content i x c j ≡ x
content_set i x c j e = cond-true (j == i) x (c j) (eq-eqb j i e)

pub content_left : (i : ℕ) (x : List ℕ) (c : ℕ → List ℕ) (j : ℕ) → (j ≡ i → ⊥) → with_content i x c j ≡ c j
content_left i x c j ne = cond-false (j == i) x (c j) (ne_eqb j i ne)

-- one more sector is saved
pub saved_before : (backup : ℕ) (c : ℕ → List ℕ) (from n : ℕ) (x : List ℕ) (f : Image) (k s : ℕ)
    → saved backup c from n f k s ≡ saved backup (with_content (from + n) x c) from n f k s
saved_before backup c from n x f k s =
    saved_alike backup c (with_content (from + n) x c) from n f k s (λ j lt. sym (content_left (from + n) x c (from + j) (λ e. omega (arith, lt, e))))

pub saved_last : (backup : ℕ) (c : ℕ → List ℕ) (from n : ℕ) (x : List ℕ) (f : Image) (k s : ℕ) → s ≡ SLOTS_AT + (from + n) % backup
    → saved backup (with_content (from + n) x c) from (suc n) f k s ≡ x
saved_last backup c from n x f k s e =
    sector_set (SLOTS_AT + (from + n) % backup) (with_content (from + n) x c (from + n)) (saved backup (with_content (from + n) x c) from n f) k s e
    ∙ content_set (from + n) x c (from + n) refl

pub saved_else : (backup : ℕ) (c : ℕ → List ℕ) (from n : ℕ) (x : List ℕ) (f : Image) (k s : ℕ) → (s ≡ SLOTS_AT + (from + n) % backup → ⊥)
    → saved backup c from n f k s ≡ saved backup (with_content (from + n) x c) from (suc n) f k s
saved_else backup c from n x f k s ne =
    saved_before backup c from n x f k s
    ∙ sym (sector_left (SLOTS_AT + (from + n) % backup) (with_content (from + n) x c (from + n)) (saved backup (with_content (from + n) x c) from n f) k s ne)
