-- Steps that are carried out, and what they make of sectors and of places.
use Rattle.std.proofs.Common.{◌≡◌, ℕ, ◌+◌, ◌-◌, Bool, true, ◌&&◌, ◌⊎◌, ◌==◌, nat_le, nat_lt, List, refl, sym, ap, ◌∙◌, subst, inl, inr, arith}
use Rattle.std.proofs.lemmas.Bool.{and_from, and_parts, cases_Bool, cases_eq, cond-false, cond-true, eq-eqb, le-leb, leb-true, lt-ltb, ne_eqb}
use Rattle.head.specs.declared.TheConstants.{SLOTS_AT}
use Rattle.layout.specs.Geometry.{Geometry, Is, place_of}
use Rattle.layout.specs.Lawful.{Lawful, Owns}
use Rattle.layout.specs.declared.place.Owner.{Owner}
use Rattle.layout.specs.declared.place.Owner.TheVariants.{Datum, Nobody, Parity}
use Rattle.shelf.specs.Meaning.{Meaning}
use Rattle.model.specs.Crew.{Crew}
use Rattle.model.specs.Ends.{GoesOn}
use Rattle.model.specs.Images.{Image, set, with_places, with_sector}
use Rattle.model.specs.May.{AtSector}
use Rattle.model.specs.Steps.{AllDurable, Passed, Step, Torn, WrittenBy}

-- what is torn nowhere, and durable, was carried out
pub carried : {w : Crew} (f : Step) {a b : Meaning} → Torn f a b → GoesOn w a b → WrittenBy f a b → AllDurable b → Passed w f a b
carried f torn goes current durable = record { may = torn; goes = goes; current = current; durable = durable }

-- what a step leaves as it was stays durable
pub left_durable : (f : Step) {a b : Meaning} → Torn f a b → (k s : ℕ) → f a.current k s ≡ a.current k s → a.durable k s ≡ a.current k s
    → b.durable k s ≡ b.current k s
left_durable f {a} {b} torn k s left before =
    let now : b.current k s ≡ a.current k s = elim (torn.current k s) [ inl e ↦ e | inr p ↦ p ∙ left ] in
    elim (torn.durable k s) [
      | inl e ↦ e ∙ before ∙ sym now
      | inr o ↦ elim o [ inl e ↦ e ∙ sym now | inr p ↦ p ∙ left ∙ sym now ]
    ]

-- one content in the same sector of every member
pub sector_set : (t : ℕ) (c : List ℕ) (f : Image) (k s : ℕ) → s ≡ t → with_sector t c f k s ≡ c
sector_set t c f k s e = cond-true (s == t) c (f k s) (eq-eqb s t e)

pub sector_left : (t : ℕ) (c : List ℕ) (f : Image) (k s : ℕ) → (s ≡ t → ⊥) → with_sector t c f k s ≡ f k s
sector_left t c f k s ne = cond-false (s == t) c (f k s) (ne_eqb s t ne)

-- what a plan for one sector makes of it
pub sector_planned : (t : ℕ) (c : List ℕ) (f : Image) (k s : ℕ) (x : List ℕ) → AtSector t c k s x → x ≡ with_sector t c f k s
sector_planned t c f k s x p = p.content ∙ sym (sector_set t c f k s p.sector)

-- where the place of an owner lies on the shelf
pub record CellOf (g : Geometry) (backup : ℕ) (o : Owner) (k s : ℕ) : Type 0 where
  pub is : Is g o
  pub member : k ≡ (place_of g o).0
  pub sector : s ≡ SLOTS_AT + backup + (place_of g o).1

abbrev pub in_body : Geometry → (backup k s : ℕ) → Bool
in_body g backup k s = nat_lt k g.members && (nat_le (SLOTS_AT + backup) s && nat_lt s (SLOTS_AT + backup + g.depth))

pub in_body_at : (g : Geometry) → Lawful g → (backup : ℕ) (o : Owner) (k s : ℕ) → CellOf g backup o k s → in_body g backup k s ≡ true
in_body_at g law backup o k s c =
    let inside = law.placing.inside o c.is in
    let member = inside.member in
    let offset = inside.offset in
    let at = c.member in
    let sector = c.sector in
    and_from (nat_lt k g.members) _ (lt-ltb k g.members (omega (arith, member, at)))
    (and_from (nat_le (SLOTS_AT + backup) s) _ (le-leb (SLOTS_AT + backup) s (omega (arith, sector))) (lt-ltb s (SLOTS_AT + backup + g.depth) (omega (arith, offset, sector))))

-- the owner of a cell
pub cell_owner : (g : Geometry) → Lawful g → (backup : ℕ) (o : Owner) (k s : ℕ) → CellOf g backup o k s → g.owner (k, s - (SLOTS_AT + backup)) ≡ o
cell_owner g law backup o k s c =
    let sector = c.sector in
    let offset : s - (SLOTS_AT + backup) ≡ (place_of g o).1 = omega (arith, sector) in
    ap (λ j. g.owner (j, s - (SLOTS_AT + backup))) c.member ∙ (ap (λ t. g.owner ((place_of g o).0, t)) offset ∙ law.placing.back o c.is)

-- at the place of an owner a step on places does what it does for that owner
pub placed_at : (g : Geometry) → Lawful g → (backup : ℕ) (F : Owner → List ℕ → List ℕ) (f : Image) (o : Owner) (k s : ℕ) → CellOf g backup o k s
    → with_places g backup F f k s ≡ F o (f k s)
placed_at g law backup F f o k s c =
    cond-true (in_body g backup k s) (F (g.owner (k, s - (SLOTS_AT + backup))) (f k s)) (f k s) (in_body_at g law backup o k s c)
    ∙ ap (λ q. F q (f k s)) (cell_owner g law backup o k s c)

-- whoever owns a place, or nobody does
place_cell : (g : Geometry) (backup m n : ℕ) (o : Owner) → Is g o → place_of g o ≡ (m, n) → CellOf g backup o m (SLOTS_AT + backup + n)
place_cell g backup m n o is at = record {
  is = is;
  member = ap (λ (p : ℕ × ℕ). p.0) (sym at);
  sector = ap (λ (p : ℕ × ℕ). SLOTS_AT + backup + p.1) (sym at);
}

owned_cell : (g : Geometry) (backup m n : ℕ) (o : Owner) → Owns g (m, n) o → CellOf g backup o m (SLOTS_AT + backup + n) ⊎ (o ≡ Nobody)
owned_cell g backup m n (Datum i j) owns = inl (place_cell g backup m n (Datum i j) owns.0 owns.1)
owned_cell g backup m n (Parity x) owns = inl (place_cell g backup m n (Parity x) owns.0 owns.1)
owned_cell g backup m n Nobody owns = inr refl

pub cell_or_nobody : (g : Geometry) → Lawful g → (backup m n : ℕ) → CellOf g backup (g.owner (m, n)) m (SLOTS_AT + backup + n) ⊎ (g.owner (m, n) ≡ Nobody)
cell_or_nobody g law backup m n = owned_cell g backup m n (g.owner (m, n)) (law.placing.owned (m, n))

-- so each cell is that of an owner, or stays
pub placed_by : (g : Geometry) → Lawful g → (backup : ℕ) (F : Owner → List ℕ → List ℕ) (f : Image) → ((x : List ℕ) → F Nobody x ≡ x) → (k s : ℕ)
    → ((o : Owner) × CellOf g backup o k s) ⊎ (with_places g backup F f k s ≡ f k s)
placed_by g law backup F f idle k s = elim (cases_Bool (in_body g backup k s)) [
  | inl inside ↦ (let parts = and_parts (nat_lt k g.members) _ inside in
      let first = leb-true (SLOTS_AT + backup) s (and_parts (nat_le (SLOTS_AT + backup) s) _ parts.1).0 in
      let n = s - (SLOTS_AT + backup) in
      let at : SLOTS_AT + backup + n ≡ s = omega (arith, first) in
      elim (cell_or_nobody g law backup k n) [
        | inl c ↦ inl (g.owner (k, n), subst (CellOf g backup (g.owner (k, n)) k) at c)
        | inr none ↦ inr (cond-true (in_body g backup k s) (F (g.owner (k, n)) (f k s)) (f k s) inside ∙ (ap (λ q. F q (f k s)) none ∙ idle (f k s)))
      ])
  | inr outside ↦ inr (cond-false (in_body g backup k s) (F (g.owner (k, s - (SLOTS_AT + backup))) (f k s)) (f k s) outside)
]

-- no two owners have the same cell
pub one_owner : (g : Geometry) → Lawful g → (backup : ℕ) (o q : Owner) (k s : ℕ) → CellOf g backup o k s → CellOf g backup q k s → o ≡ q
one_owner g law backup o q k s c d = sym (cell_owner g law backup o k s c) ∙ cell_owner g law backup q k s d

-- a write of sector i, at a copy and at the parity of its group
pub copy_set : (g : Geometry) → Lawful g → (backup i : ℕ) (x y : List ℕ) (f : Image) (j k s : ℕ) → CellOf g backup (Datum i j) k s
    → with_places g backup (set g i x y) f k s ≡ x
copy_set g law backup i x y f j k s c = placed_at g law backup (set g i x y) f (Datum i j) k s c ∙ cond-true (i == i) x (f k s) (eq-eqb i i refl)

pub parity_set : (g : Geometry) → Lawful g → (backup i : ℕ) (x y : List ℕ) (f : Image) (k s : ℕ) → CellOf g backup (Parity (g.group i)) k s
    → with_places g backup (set g i x y) f k s ≡ y
parity_set g law backup i x y f k s c =
    placed_at g law backup (set g i x y) f (Parity (g.group i)) k s c ∙ cond-true (g.group i == g.group i) y (f k s) (eq-eqb (g.group i) (g.group i) refl)

-- so each cell is a copy of sector i, the parity of its group, or stays
abbrev pub SetAt : Geometry → (backup i : ℕ) → (x y : List ℕ) → Image → ℕ → ℕ → Type 0
SetAt g backup i x y f k s =
    ((j : ℕ) × CellOf g backup (Datum i j) k s) ⊎ (CellOf g backup (Parity (g.group i)) k s ⊎ (with_places g backup (set g i x y) f k s ≡ f k s))

set_for : (g : Geometry) → Lawful g → (backup i : ℕ) (x y : List ℕ) (f : Image) (k s : ℕ) (o : Owner) → CellOf g backup o k s → SetAt g backup i x y f k s
set_for g law backup i x y f k s (Datum n j) c = elim (cases_eq n i) [
  | inl e ↦ inl (j, subst (λ m. CellOf g backup (Datum m j) k s) e c)
  | inr ne ↦ inr (inr (placed_at g law backup (set g i x y) f (Datum n j) k s c ∙ cond-false (n == i) x (f k s) (ne_eqb n i ne)))
]
set_for g law backup i x y f k s (Parity n) c = elim (cases_eq n (g.group i)) [
  | inl e ↦ inr (inl (subst (λ m. CellOf g backup (Parity m) k s) e c))
  | inr ne ↦ inr (inr (placed_at g law backup (set g i x y) f (Parity n) k s c ∙ cond-false (n == g.group i) y (f k s) (ne_eqb n (g.group i) ne)))
]
set_for g law backup i x y f k s Nobody c = absurd c.is

pub set_by : (g : Geometry) → Lawful g → (backup i : ℕ) (x y : List ℕ) (f : Image) (k s : ℕ) → SetAt g backup i x y f k s
set_by g law backup i x y f k s = elim (placed_by g law backup (set g i x y) f (λ z. refl) k s) [
  | inl p ↦ set_for g law backup i x y f k s p.0 p.1
  | inr stays ↦ inr (inr stays)
]
