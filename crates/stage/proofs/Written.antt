-- What writes to places leave.
use Rattle.std.proofs.Common.{◌≡◌, ℕ, ◌+◌, ◌%◌, ◌<◌, ◌≤◌, ◌⊎◌, true, List, Some, None, Result, sym, refl, ap, ◌∙◌, subst, inl, inr, arith}
use Rattle.std.proofs.lemmas.Bool.{cases_eq}
use Rattle.head.specs.declared.TheConstants.{SLOTS_AT}
use Rattle.layout.specs.Geometry.{Geometry, GroupAt, Is, Only, capacity, place_of}
use Rattle.layout.specs.Lawful.{Lawful}
use Rattle.layout.specs.declared.TheConstants.{MOST_DEPTH}
use Rattle.layout.specs.declared.place.Owner.{Owner}
use Rattle.layout.specs.declared.place.Owner.TheVariants.{Datum, Parity}
use Rattle.answer.specs.declared.Operation.TheVariants.{Write}
use Rattle.answer.specs.declared.Refused.{Refused}
use Rattle.overlap.specs.declared.walk.Home.{Home}
use Rattle.overlap.specs.declared.walk.Home.TheVariants.{Source, Target, Backup}
use Rattle.shelf.specs.Meaning.{Meaning}
use Rattle.model.specs.Crew.{Crew}
use Rattle.model.specs.Ends.{Stage}
use Rattle.model.specs.Faults.{OnSector}
use Rattle.model.specs.Images.{applied, set, with_places, with_sector}
use Rattle.model.specs.May.{AtSector, From, May}
use Rattle.model.specs.Steps.{Step, WrittenBy}
use Rattle.model.proofs.Mays.{may_wider}
use Rattle.model.proofs.Carrying.{CellOf, copy_set, parity_set, sector_left, sector_planned, sector_set, set_by}
use Rattle.stage.specs.Done.{WrittenAll, WrittenAt}
use Rattle.stage.specs.Endings.{OnMember, StageEnds, only_writes}
use Rattle.stage.specs.Looks.{InLayout}
use Rattle.stage.specs.Places.{AtCopies, AtPlace, CopiesHold, EitherOf, InHome, InStep, PlaceHolds, WritesPlaces, WritesStep}
use Rattle.stage.proofs.Chains.{stage_as}
use Rattle.stage.proofs.Endings.{on_sector}
use Rattle.stage.proofs.Loops.{was_present}

-- an owner's place, on the shelf
offset_most : (g : Geometry) → Lawful g → (o : Owner) → Is g o → (place_of g o).1 < MOST_DEPTH
offset_most g law o is =
    let offset = (law.placing.inside o is).offset in
    let most = law.limits.depth_most in
    omega (arith, offset, most)

pub cell_at : (g : Geometry) → Lawful g → (backup : ℕ) (o : Owner) (c : List ℕ) → Is g o → (k s : ℕ) (x : List ℕ) → AtPlace backup (place_of g o) c k s x
    → CellOf g backup o k s
cell_at g law backup o c is k s x at = record { is = is; member = at.member; sector = at.offset (offset_most g law o is) }

pub cell_holds : (g : Geometry) → Lawful g → (backup : ℕ) (o : Owner) (c : List ℕ) (b : Meaning) (k s : ℕ) → CellOf g backup o k s
    → PlaceHolds backup (place_of g o) c b → b.present k ≡ true → s < b.sectors → b.current k s ≡ c
cell_holds g law backup o c b k s cell holds =
    subst (λ m. WrittenAt m s c b) (sym cell.member)
    (subst (λ t. WrittenAt (place_of g o).0 t c b) (sym cell.sector) (holds (offset_most g law o cell.is)))

-- what was written stays while the same content is written
place_stays : {P : ℕ → ℕ → List ℕ → Type 0} {a b : Meaning} (backup : ℕ) (p : ℕ × ℕ) (c : List ℕ) → May P a b
    → ((k s : ℕ) (x : List ℕ) → P k s x → x ≡ c) → PlaceHolds backup p c a → PlaceHolds backup p c b
place_stays backup p c m one held most there lt =
    let same = m.sectors in
    elim (m.current p.0 (SLOTS_AT + backup + p.1)) [ inl e ↦ e ∙ held most (was_present m p.0 there) (omega (arith, lt, same)) | inr q ↦ one _ _ _ q ]

-- a copy of a sector, and one copy more
pub copy_at : (g : Geometry) (backup i j : ℕ) (p : ℕ × ℕ) (c : List ℕ) → Only p ((i < capacity g) × (j < g.copies)) (g.datum i j) (0, 0) → j < g.copies
    → (k s : ℕ) (x : List ℕ) → AtPlace backup p c k s x → AtCopies g backup i c k s x
copy_at g backup i j p c place lt k s x at = record {
  sector = at.sector;
  content = at.content;
  copy = λ below. (j, lt, subst (λ q. AtPlace backup q c k s x) (place.0 (below, lt)) at);
}

pub copies_more : (g : Geometry) (backup i n : ℕ) (p : ℕ × ℕ) (c : List ℕ) (a b : Meaning) → Only p ((i < capacity g) × (n < g.copies)) (g.datum i n) (0, 0)
    → n < g.copies → May (AtCopies g backup i c) a b → PlaceHolds backup p c b → CopiesHold g backup i n c a → CopiesHold g backup i (n + 1) c b
copies_more g backup i n p c a b place lt m last held below j less = elim (cases_eq j n) [
  | inl same ↦ subst (λ k. PlaceHolds backup (g.datum i k) c b) (sym same) (subst (λ q. PlaceHolds backup q c b) (place.0 (below, lt)) last)
  | inr other ↦ place_stays backup (g.datum i j) c m (λ k s x q. q.content) (held below j (omega (arith, less, other)))
]

-- the parity of a sector's group, by its place
pub own_parity : (g : Geometry) → Lawful g → (i n : ℕ) (p : ℕ × ℕ) → GroupAt g i (Some n) → Only p (n < g.groups) (g.parity n) (0, 0)
    → (g.group i < g.groups) × (p ≡ g.parity (g.group i))
own_parity g law i n p at place =
    let inside = (law.grouping.joined i at.0 at.1).group in
    (inside, place.0 (subst (λ m. m < g.groups) (sym at.2) inside) ∙ ap g.parity at.2)

-- both are writes in the body
pub from_place : {backup : ℕ} {p : ℕ × ℕ} {c : List ℕ} {a b : Meaning} → May (AtPlace backup p c) a b → May (From (SLOTS_AT + backup)) a b
from_place m = may_wider (λ k s x p. record { sector = p.sector }) m

pub from_copies : {g : Geometry} {backup i : ℕ} {c : List ℕ} {a b : Meaning} → May (AtCopies g backup i c) a b → May (From (SLOTS_AT + backup)) a b
from_copies m = may_wider (λ k s x p. record { sector = p.sector }) m

-- a write of sector i in a layout, as the step that it is
abbrev pub PlacesPlan : Geometry → (backup i : ℕ) → (x y : List ℕ) → Meaning → ℕ → ℕ → List ℕ → Type 0
PlacesPlan g backup i x y a = InStep (i < capacity g) (EitherOf (SLOTS_AT + backup) x y) (λ f. with_places g backup (set g i x y) f) a

pub copies_planned : (g : Geometry) → Lawful g → (backup i : ℕ) (x y : List ℕ) (a : Meaning) (k s : ℕ) (z : List ℕ) → AtCopies g backup i x k s z
    → PlacesPlan g backup i x y a k s z
copies_planned g law backup i x y a k s z p = record {
  plan = inl (record { sector = p.sector; content = p.content });
  step = λ below. (let q = p.copy below in
      p.content ∙ sym (copy_set g law backup i x y a.current q.0 k s (cell_at g law backup (Datum i q.0) x (below, q.1) k s z q.2)));
}

-- the parity of the group that a sector is in
pub parity_planned : (g : Geometry) → Lawful g → (backup i n : ℕ) (p : ℕ × ℕ) (x y : List ℕ) (a : Meaning) → GroupAt g i (Some n)
    → Only p (n < g.groups) (g.parity n) (0, 0) → (k s : ℕ) (z : List ℕ) → AtPlace backup p y k s z → PlacesPlan g backup i x y a k s z
parity_planned g law backup i n p x y a at place k s z q =
    let is = own_parity g law i n p at place in
    record {
      plan = inr (record { sector = q.sector; content = q.content });
      step = λ below. q.content ∙ sym (parity_set g law backup i x y a.current k s
          (cell_at g law backup (Parity (g.group i)) y is.0 k s z (subst (λ r. AtPlace backup r y k s z) is.1 q)));
    }

-- The copies are written: so all of the step, but for the parity.
pub copies_written : (g : Geometry) → Lawful g → (backup i : ℕ) (x y : List ℕ) (a b : Meaning) → i < capacity g → May (AtCopies g backup i x) a b
    → CopiesHold g backup i g.copies x b → (k s : ℕ) → b.present k ≡ true → s < b.sectors
    → CellOf g backup (Parity (g.group i)) k s ⊎ (b.current k s ≡ with_places g backup (set g i x y) a.current k s)
copies_written g law backup i x y a b below m held k s there lt = elim (set_by g law backup i x y a.current k s) [
  | inl c ↦ inr (cell_holds g law backup (Datum i c.0) x b k s c.1 (held below c.0 c.1.is.1) there lt ∙ sym (copy_set g law backup i x y a.current c.0 k s c.1))
  | inr o ↦ elim o [
    | inl c ↦ inl c
    | inr e ↦ elim (m.current k s) [ inl same ↦ inr (same ∙ sym e) | inr p ↦ inr ((copies_planned g law backup i x y a k s _ p).step below) ]
  ]
]

-- no group, no parity
pub bare_written : (g : Geometry) → Lawful g → (backup i : ℕ) (x y : List ℕ) (a b : Meaning) → GroupAt g i None → May (AtCopies g backup i x) a b
    → CopiesHold g backup i g.copies x b → i < capacity g → WrittenBy (λ f. with_places g backup (set g i x y) f) a b
bare_written g law backup i x y a b none m held below k s there lt = elim (copies_written g law backup i x y a b below m held k s there lt) [
  | inl c ↦ (let is = c.is in absurd (none (omega (arith, is), below)))
  | inr e ↦ e
]

-- and the parity is written
pub parity_written : (g : Geometry) → Lawful g → (backup i n : ℕ) (p : ℕ × ℕ) (x y : List ℕ) (a b d : Meaning) → GroupAt g i (Some n)
    → Only p (n < g.groups) (g.parity n) (0, 0) → May (AtCopies g backup i x) a b → CopiesHold g backup i g.copies x b → May (AtPlace backup p y) b d
    → PlaceHolds backup p y d → i < capacity g → WrittenBy (λ f. with_places g backup (set g i x y) f) a d
parity_written g law backup i n p x y a b d at place m held later last below k s there lt =
    let same = later.sectors in
    elim (copies_written g law backup i x y a b below m held k s (was_present later k there) (omega (arith, lt, same))) [
      | inl c ↦ cell_holds g law backup (Parity (g.group i)) y d k s c (subst (λ q. PlaceHolds backup q y d) (own_parity g law i n p at place).1 last) there lt
          ∙ sym (parity_set g law backup i x y a.current k s c)
      | inr e ↦ elim (later.current k s) [ inl stays ↦ stays ∙ e | inr q ↦ (parity_planned g law backup i n p x y a at place k s _ q).step below ]
    ]

-- one content in a sector of every member
pub sector_written : (t : ℕ) (c : List ℕ) (a b : Meaning) → May (AtSector t c) a b → WrittenAll t c b → WrittenBy (λ f. with_sector t c f) a b
sector_written t c a b m all k s there lt = elim (cases_eq s t) [
  | inl e ↦ subst (λ n. WrittenAt k n c b) (sym e) (all k) there lt ∙ sym (sector_set t c a.current k s e)
  | inr ne ↦ elim (m.current k s) [ inl same ↦ same ∙ sym (sector_left t c a.current k s ne) | inr p ↦ absurd (ne p.sector) ]
]

-- a write to a layout is one to the home that is in it
pub layout_home : (h : Home) (G : Type 0 → Step → Type 0) (s t g : Geometry) (backup i : ℕ) (x y : List ℕ) → InLayout h s t g
    → G (i < capacity g) (λ f. with_places g backup (set g i x y) f) → G (InHome h s t i) (λ f. applied h s t backup i x y f)
layout_home Source G s t g backup i x y is p = subst (λ l. G (i < capacity l) (λ f. with_places l backup (set l i x y) f)) is p
layout_home Target G s t g backup i x y is p = subst (λ l. G (i < capacity l) (λ f. with_places l backup (set l i x y) f)) is p
layout_home Backup G s t g backup i x y is p = absurd is

lower : (n m : ℕ) (x y : List ℕ) → n ≤ m → (k s : ℕ) (z : List ℕ) → EitherOf m x y k s z → EitherOf n x y k s z
lower n m x y le k s z p = elim p [
  | inl q ↦ (let at = q.sector in inl (record { sector = omega (arith, at, le); content = q.content }))
  | inr q ↦ (let at = q.sector in inr (record { sector = omega (arith, at, le); content = q.content }))
]

abbrev WritesHome : Crew → Home → (source target : Geometry) → (backup i : ℕ) → (datum parity : List ℕ) → (a b : Meaning) → Result Unit Refused → Type 0
WritesHome w h s t backup i x y a b r = WritesStep w (InHome h s t i) (EitherOf SLOTS_AT x y) (λ f. applied h s t backup i x y f) a b r

pub home_written : (w : Crew) (h : Home) (s t g : Geometry) (backup i : ℕ) (x y : List ℕ) (a b : Meaning) (r : Result Unit Refused) → InLayout h s t g
    → WritesPlaces w g backup i x y a b r → WritesHome w h s t backup i x y a b r
home_written w h s t g backup i x y a b r is p =
    layout_home h (λ Q f. WritesStep w Q (EitherOf SLOTS_AT x y) f a b r) s t g backup i x y is
    (stage_as w a b (λ k n z q. record { plan = lower SLOTS_AT (SLOTS_AT + backup) x y (omega arith) k n z q.plan; step = q.step }) (λ f n. n) (λ u m all. all) r p)

-- so is a write to the slots
pub slot_written : (w : Crew) (h : Home) (s t : Geometry) (backup i : ℕ) (x y : List ℕ) (a b : Meaning) (r : Result Unit Refused) → h ≡ Backup
    → Stage w (AtSector (SLOTS_AT + i % backup) x) (OnSector Write a (SLOTS_AT + i % backup)) a b (λ u. WrittenAll (SLOTS_AT + i % backup) x b) r
    → WritesHome w h s t backup i x y a b r
slot_written w h s t backup i x y a b r is p =
    subst (λ k. WritesHome w k s t backup i x y a b r) (sym is)
    (stage_as w a b (λ k n z q. (let at = q.sector in record {
      plan = inl (record { sector = omega (arith, at); content = q.content });
      step = λ u. sector_planned (SLOTS_AT + i % backup) x a.current k n z q;
    }))
    (on_sector Write refl a (SLOTS_AT + i % backup)) (λ u m all q. sector_written (SLOTS_AT + i % backup) x a b m all) r p)

-- a stage that may write a step, by its plan and, where it does write the step, by that
pub by_plan : (w : Crew) (Q : Type 0) (P : ℕ → ℕ → List ℕ → Type 0) (f : Step) (a b : Meaning) (r : Result Unit Refused) → WritesStep w Q P f a b r
    → StageEnds w only_writes P a b r
by_plan w Q P f a b r = stage_as w a b (λ k s x p. p.plan) (λ x n. n) (λ u m all. tt) r

pub by_step : (w : Crew) (Q : Type 0) (P : ℕ → ℕ → List ℕ → Type 0) (f : Step) (a b : Meaning) (r : Result Unit Refused) → Q → WritesStep w Q P f a b r
    → Stage w (λ k s x. x ≡ f a.current k s) (OnMember only_writes a) a b (λ u. WrittenBy f a b) r
by_step w Q P f a b r q = stage_as w a b (λ k s x p. p.step q) (λ x n. n) (λ u m all. all q) r
