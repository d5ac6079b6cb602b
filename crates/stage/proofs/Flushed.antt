-- What flushes of the members of places leave.
use Rattle.std.proofs.Common.{◌≡◌, ℕ, ◌+◌, ◌<◌, Bool, List, Ok, Err, Some, None, Result, sym, refl, ◌∙◌, subst, inl, inr, arith}
use Rattle.std.proofs.lemmas.Bool.{cases_eq}
use Rattle.answer.specs.declared.Operation.{Operation}
use Rattle.answer.specs.declared.Operation.TheVariants.{Flush}
use Rattle.answer.specs.declared.Refused.{Refused}
use Rattle.layout.specs.Geometry.{Geometry, GroupAt, Only, capacity}
use Rattle.layout.specs.Lawful.{Lawful}
use Rattle.overlap.specs.declared.walk.Home.{Home}
use Rattle.overlap.specs.declared.walk.Home.TheVariants.{Source, Target, Backup}
use Rattle.shelf.specs.Meaning.{Meaning}
use Rattle.model.specs.Crew.{Crew}
use Rattle.model.specs.Ends.{GoesOn, Stage}
use Rattle.model.specs.Faults.{OnSector}
use Rattle.model.specs.Images.{applied, set, with_places}
use Rattle.model.specs.May.{May, nothing}
use Rattle.model.specs.Steps.{AllDurable, Step, Torn, WrittenBy}
use Rattle.model.proofs.Carrying.{carried, left_durable, set_by}
use Rattle.model.proofs.Mays.{may_then, quiet}
use Rattle.stage.specs.Done.{FlushedAll, FlushedAt}
use Rattle.stage.specs.Endings.{Carries, OnMember, only_writes}
use Rattle.stage.specs.Looks.{InLayout}
use Rattle.stage.specs.Places.{CopiesFlushed, HomeFlushed, InHome, PlacesFlushed}
use Rattle.stage.proofs.Chains.{names_as, stage_as}
use Rattle.stage.proofs.Endings.{member_same, on_sector}
use Rattle.stage.proofs.Loops.{goes_then, was_present}
use Rattle.stage.proofs.Places.{same_current}
use Rattle.stage.proofs.Written.{own_parity}

-- what is durable stays so while nothing is written
flushed_stays : {a b : Meaning} (m : ℕ) → May nothing a b → FlushedAt m a → FlushedAt m b
flushed_stays m n held there s =
    let before = held (was_present n m there) s in
    let same = same_current n m s in
    elim (n.durable m s) [
      | inl e ↦ e ∙ before ∙ sym same
      | inr o ↦ elim o [ inl e ↦ e ∙ sym same | inr w ↦ absurd w ]
    ]

pub durable_stays : {a b : Meaning} → May nothing a b → AllDurable a → AllDurable b
durable_stays m durable k s there = flushed_stays k m (λ here n. durable k n here) there s

pub flushed_more : (g : Geometry) (i n : ℕ) (p : ℕ × ℕ) (a b : Meaning) → Only p ((i < capacity g) × (n < g.copies)) (g.datum i n) (0, 0) → n < g.copies
    → May nothing a b → FlushedAt p.0 b → CopiesFlushed g i n a → CopiesFlushed g i (n + 1) b
flushed_more g i n p a b place lt m last held below j less = elim (cases_eq j n) [
  | inl same ↦ subst (λ k. FlushedAt (g.datum i k).0 b) (sym same) (subst (λ q. FlushedAt q.0 b) (place.0 (below, lt)) last)
  | inr other ↦ flushed_stays (g.datum i j).0 m (held below j (omega (arith, less, other)))
]

-- and the parity
pub flushed_bare : (g : Geometry) (i : ℕ) (b : Meaning) → GroupAt g i None → CopiesFlushed g i g.copies b → PlacesFlushed g i b
flushed_bare g i b none held = record { copies = held; parity = λ below any. absurd (none (any, below)) }

pub flushed_parity : (g : Geometry) → Lawful g → (i n : ℕ) (p : ℕ × ℕ) (a b : Meaning) → GroupAt g i (Some n) → Only p (n < g.groups) (g.parity n) (0, 0)
    → CopiesFlushed g i g.copies a → May nothing a b → FlushedAt p.0 b → PlacesFlushed g i b
flushed_parity g law i n p a b at place held m last = record {
  copies = λ below j lt. flushed_stays (g.datum i j).0 m (held below j lt);
  parity = λ below any. subst (λ q. FlushedAt q.0 b) (own_parity g law i n p at place).1 last;
}

abbrev FlushesHome : Crew → Home → (source target : Geometry) → (i : ℕ) → (a b : Meaning) → Result Unit Refused → Type 0
FlushesHome w h s t i a b r = Stage w nothing (OnMember only_writes a) a b (λ u. HomeFlushed h s t i b) r

-- of a layout's places, and of all members
pub home_flushed : (w : Crew) (h : Home) (s t g : Geometry) (i : ℕ) (a b : Meaning) (r : Result Unit Refused) → InLayout h s t g
    → Stage w nothing (OnMember only_writes a) a b (λ u. PlacesFlushed g i b) r → FlushesHome w h s t i a b r
home_flushed w Source s t g i a b r is p = subst (λ l. Stage w nothing (OnMember only_writes a) a b (λ u. PlacesFlushed l i b) r) is p
home_flushed w Target s t g i a b r is p = subst (λ l. Stage w nothing (OnMember only_writes a) a b (λ u. PlacesFlushed l i b) r) is p
home_flushed w Backup s t g i a b r is p = absurd is

pub slot_flushed : (w : Crew) (h : Home) (s t : Geometry) (i : ℕ) (a b : Meaning) (r : Result Unit Refused) → h ≡ Backup
    → Stage w nothing (OnSector Flush a 0) a b (λ u. FlushedAll b) r → FlushesHome w h s t i a b r
slot_flushed w h s t i a b r is p =
    subst (λ k. FlushesHome w k s t i a b r) (sym is) (stage_as w a b (λ k n z q. q) (on_sector Flush refl a 0) (λ u m all. all) r p)

-- Where all was durable, a write of sector i in a layout leaves all durable once the members of its places are flushed.
places_durable : (g : Geometry) → Lawful g → (backup i : ℕ) (x y : List ℕ) (a b : Meaning) → i < capacity g → AllDurable a
    → Torn (λ f. with_places g backup (set g i x y) f) a b → PlacesFlushed g i b → AllDurable b
places_durable g law backup i x y a b below durable torn flushed k s there = elim (set_by g law backup i x y a.current k s) [
  | inl c ↦ subst (λ m. FlushedAt m b) (sym c.1.member) (flushed.copies below c.0 c.1.is.1) there s
  | inr o ↦ elim o [
    | inl c ↦ (let is = c.is in subst (λ m. FlushedAt m b) (sym c.member) (flushed.parity below (omega (arith, is))) there s)
    | inr e ↦ left_durable (λ f. with_places g backup (set g i x y) f) torn k s e (durable k s (was_present torn k there))
  ]
]

-- so does one at its home
pub home_durable : (h : Home) (s t : Geometry) → Lawful s → Lawful t → (backup i : ℕ) (x y : List ℕ) (a b : Meaning) → InHome h s t i → AllDurable a
    → Torn (λ f. applied h s t backup i x y f) a b → HomeFlushed h s t i b → AllDurable b
home_durable Source s t source target backup i x y a b inside durable torn flushed = places_durable s source backup i x y a b inside durable torn flushed
home_durable Target s t source target backup i x y a b inside durable torn flushed = places_durable t target backup i x y a b inside durable torn flushed
home_durable Backup s t source target backup i x y a b inside durable torn flushed = λ k n there. flushed k there n

-- A step was written, and then flushed: it is carried out.
pub carries_after : (w : Crew) (does : Operation → Bool) (f : Step) (a b d : Meaning) (D : Type 0) → Torn f a b → GoesOn w a b → WrittenBy f a b
    → (May nothing b d → D → AllDurable d) → (r : Result Unit Refused) → Stage w nothing (OnMember does b) b d (λ u. D) r → Carries w does f a d r
carries_after w does f a b d D torn goes written durable (Ok u) s =
    let all = may_then torn (quiet s.0) in
    let go = goes_then goes s.1 in (
      all,
      go,
      carried f all go (λ k n there lt. (let same = s.0.sectors in
          same_current s.0 k n ∙ written k n (was_present s.0 k there) (omega (arith, lt, same)))) (durable s.0 s.2),
    )
carries_after w does f a b d D torn goes written durable (Err e) s = (
  may_then torn (quiet s.0),
  record { why = s.1.why; fault = names_as (OnMember does b) (OnMember does a) (member_same torn) e.fault s.1.fault },
)
