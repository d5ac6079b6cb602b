-- Places of a target row, written from what is read meanwhile.
use Rattle.std.proofs.Common.{◌≡◌, ℕ, ◌+◌, ◌/◌, ◌<◌, ◌⊎◌, Bool, true, false, cond, nat_lt, List, replicate, Ok, Result, refl, sym, ap, ◌∙◌, subst, inl, inr, arith}
use Rattle.std.proofs.lemmas.Bool.{cases_Bool, cond-false, cond-true}
use Rattle.answer.specs.declared.Refused.{Refused}
use Rattle.head.specs.declared.TheConstants.{SLOTS_AT}
use Rattle.sector.specs.declared.TheConstants.{SECTOR}
use Rattle.layout.specs.Geometry.{Geometry, Is, place_of}
use Rattle.layout.specs.Lawful.{Lawful}
use Rattle.layout.specs.declared.place.Owner.{Owner}
use Rattle.layout.specs.declared.place.Owner.TheVariants.{Datum, Parity, Nobody}
use Rattle.overlap.specs.Rows.{owner_row}
use Rattle.shelf.specs.Meaning.{Meaning}
use Rattle.model.specs.Contents.{padded}
use Rattle.model.specs.Effects.{Readings}
use Rattle.model.specs.Ends.{Stage}
use Rattle.model.specs.Images.{due_of}
use Rattle.model.specs.Knowing.{Volume}
use Rattle.model.specs.May.{May}
use Rattle.model.specs.Reading.{content_of, home_by}
use Rattle.model.specs.Steps.{SeenBy}
use Rattle.model.proofs.Carrying.{CellOf, one_owner}
use Rattle.model.proofs.Mays.{may_wider}
use Rattle.stage.specs.Done.{WrittenAt}
use Rattle.stage.specs.Endings.{OnMember, reads_and_writes}
use Rattle.stage.specs.Rows.{DueAt, HoldsDue, OfOwner, Placeable, PlacesWith, PlansDue, MayRead}
use Rattle.stage.proofs.Chains.{stage_after, stage_may}
use Rattle.stage.proofs.Earlier.{HasAll, seen_before, seen_later}
use Rattle.stage.proofs.Endings.{member_same}
use Rattle.stage.proofs.Folds.{gathered_alike}
use Rattle.stage.proofs.Loops.{was_present}

-- a sector of which the content is wanted for what an owner is due
abbrev pub Needs : Geometry → Owner → ℕ → Type 0
Needs g (Datum i j) n = n ≡ i
Needs g (Parity x) n = (b : ℕ) × (b < g.peers x) × (n ≡ g.peer x b)
Needs g Nobody n = ⊥

-- no more decides it
due_alike : (g : Geometry) (c d : ℕ → List ℕ) (o : Owner) → ((i : ℕ) → Needs g o i → c i ≡ d i) → due_of g c o ≡ due_of g d o
due_alike g c d (Datum i j) same = same i refl
due_alike g c d (Parity x) same =
    gathered_alike (λ b. false) (λ b. false) (λ b. c (g.peer x b)) (λ b. d (g.peer x b)) (g.peers x)
    (record { skips = λ b lt. refl; gives = λ b lt out. same (g.peer x b) (b, lt, refl) })
due_alike g c d Nobody same = refl

-- new contents where z says so
abbrev pub renewed : (ℕ → Bool) → (new old : ℕ → List ℕ) → ℕ → List ℕ
renewed z new old i = cond (z i) (new i) (old i)

-- zeros from the size on
abbrev padded_by : ℕ → ℕ → List ℕ → List ℕ
padded_by size i x = cond (nat_lt i size) x (replicate SECTOR 0)

-- where they are new, and where they are old
pub renewed_new : (z : ℕ → Bool) (size : ℕ) (new old : ℕ → List ℕ) (i : ℕ) → z i ≡ true → padded size new i ≡ padded size (renewed z new old) i
renewed_new z size new old i e = ap (padded_by size i) (sym (cond-true (z i) (new i) (old i) e))

pub renewed_old : (z : ℕ → Bool) (size : ℕ) (new old : ℕ → List ℕ) (i : ℕ) → z i ≡ false → padded size old i ≡ padded size (renewed z new old) i
renewed_old z size new old i e = ap (padded_by size i) (sym (cond-false (z i) (new i) (old i) e))

-- What is due by these contents is due by the renewed ones too, where all that is needed was read anew, or none of it.
pub due_before : (g : Geometry) (z : ℕ → Bool) (size : ℕ) (new old : ℕ → List ℕ) (o : Owner) → ((i : ℕ) → Needs g o i → z i ≡ false)
    → due_of g (padded size old) o ≡ due_of g (padded size (renewed z new old)) o
due_before g z size new old o none = due_alike g (padded size old) (padded size (renewed z new old)) o (λ i needs. renewed_old z size new old i (none i needs))

pub due_anew : (g : Geometry) (z : ℕ → Bool) (size : ℕ) (new old : ℕ → List ℕ) (o : Owner) → ((i : ℕ) → Needs g o i → z i ≡ true)
    → due_of g (padded size new) o ≡ due_of g (padded size (renewed z new old)) o
due_anew g z size new old o each = due_alike g (padded size new) (padded size (renewed z new old)) o (λ i needs. renewed_new z size new old i (each i needs))

-- cells of some owners are cells of others
abbrev pub cells_wider : {g : Geometry} {backup : ℕ} {W T : Owner → Type 0} → ((o : Owner) → Is g o → W o → T o) → (k n : ℕ) → OfOwner g backup W k n
    → OfOwner g backup T k n
cells_wider wider k n c = record { owner = c.owner; is = c.is; which = wider c.owner c.is c.which; member = c.member; sector = c.sector }

-- with the owner named
cell_of : {g : Geometry} {backup : ℕ} {W : Owner → Type 0} {k n : ℕ} (c : OfOwner g backup W k n) → CellOf g backup c.owner k n
cell_of c = record { is = c.is; member = c.member; sector = c.sector }

-- what is due there is due by other contents too, where they make the same due
due_wider : {g : Geometry} {backup : ℕ} {W T : Owner → Type 0} {c d : ℕ → List ℕ} → ((o : Owner) → Is g o → W o → T o × (due_of g c o ≡ due_of g d o))
    → (k n : ℕ) (x : List ℕ)
    → DueAt g backup W c k n x → DueAt g backup T d k n x
due_wider wider k n x p = record {
  cell = cells_wider (λ o is w. (wider o is w).0) k n p.cell;
  content = p.content ∙ (wider p.cell.owner p.cell.is p.cell.which).1;
}

-- so is a plan for it, where it asks for no less
pub plan_wider : {g : Geometry} {backup : ℕ} {Q R : Type 0} {W T : Owner → Type 0} {c d : ℕ → List ℕ} → (Q → R)
    → (Q → (o : Owner) → Is g o → W o → T o × (due_of g c o ≡ due_of g d o)) → (k n : ℕ) (x : List ℕ) → PlansDue R g backup W c k n x → PlansDue Q g backup T d k n x
plan_wider ready wider k n x p = record { sector = p.sector; due = λ q. due_wider (wider q) k n x (p.due (ready q)) }

-- What was due is held while more is written, since no two owners share a cell.
pub held_on : {g : Geometry} → Lawful g → (backup : ℕ) (U : Owner → Type 0) (c d : ℕ → List ℕ) {P : ℕ → ℕ → List ℕ → Type 0} {b m : Meaning} → May P b m
    → ((k n : ℕ) (x : List ℕ) → P k n x → DueAt g backup U d k n x) → (o : Owner) → Is g o → (U o → due_of g d o ≡ due_of g c o)
    → WrittenAt (place_of g o).0 (SLOTS_AT + backup + (place_of g o).1) (due_of g c o) b
    → WrittenAt (place_of g o).0 (SLOTS_AT + backup + (place_of g o).1) (due_of g c o) m
held_on {g} law backup U c d {P} {b} {m} may plan o is same held there lt =
    let k = (place_of g o).0 in
    let n = SLOTS_AT + backup + (place_of g o).1 in
    let sectors = may.sectors in
    elim (may.current k n) [
      | inl e ↦ e ∙ held (was_present may k there) (omega (arith, lt, sectors))
      | inr p ↦ (let q = plan k n _ p in
          let own : q.cell.owner ≡ o = one_owner g law backup q.cell.owner o k n (cell_of q.cell) (record { is = is; member = refl; sector = refl }) in
          q.content ∙ (ap (due_of g d) own ∙ same (subst U own q.cell.which)))
    ]

-- How what is written next goes with what was written: R is what it needs, W and U are the owners of the two, T those of both, and z says what is read for it.
pub record Joins (v : Volume) (R : Type 0) (W U T : Owner → Type 0) (z : ℕ → Bool) (new old : ℕ → List ℕ) : Type 0 where
  pub ready : R
  pub row : ℕ
  pub can : Placeable v row
  pub within : (o : Owner) → Is v.crew.target o → W o → owner_row v.crew.target o ≡ row
  pub read : (i : ℕ) → z i ≡ true → i / v.crew.target.row_len ≡ row
  pub before : (o : Owner) → Is v.crew.target o → W o
      → T o × (due_of v.crew.target (padded v.size old) o ≡ due_of v.crew.target (padded v.size (renewed z new old)) o)
  pub anew : (o : Owner) → Is v.crew.target o → U o
      → T o × (due_of v.crew.target (padded v.size new) o ≡ due_of v.crew.target (padded v.size (renewed z new old)) o)
  pub all : (o : Owner) → Is v.crew.target o → T o → W o ⊎ U o

-- no look at what is read reads what was written
unwritten : {v : Volume} {Q R : Type 0} {W U T : Owner → Type 0} {z : ℕ → Bool} {new old c : ℕ → List ℕ} {a b : Meaning} → Q → Joins v R W U T z new old
    → May (PlansDue Q v.crew.target v.backup W c) a b → (i : ℕ) → i < v.size → z i ≡ true → (k n : ℕ)
    → MayRead (home_by v i) v.crew.source v.crew.target v.backup i k n → b.current k n ≡ a.current k n
unwritten q j m i lt e k n reads = elim (m.current k n) [
  | inl same ↦ same
  | inr p ↦ absurd (j.can.apart i (j.read i e) lt k n (cells_wider j.within k n (p.due q).cell) reads)
]

-- what is read and written next
pub record PlacesNext (v : Volume) (Q R : Type 0) (U : Owner → Type 0) (z : ℕ → Bool) (content : ℕ → List ℕ) (b d : Meaning) (r : Result Unit Refused) : Type 0 where
  pub given : Q → (i : ℕ) → i < v.size → z i ≡ true → SeenBy v.crew b d (λ m. content_of v m i) (content i)
  pub stage : Stage v.crew (PlansDue R v.crew.target v.backup U (padded v.size content)) (OnMember reads_and_writes b) b d
      (λ u. R → HoldsDue v.crew.target v.backup U (padded v.size content) d) r

-- What was read before stays, and what is read next was there before what was written since.
both_given : {v : Volume} {Q R : Type 0} {W U T : Owner → Type 0} {z : ℕ → Bool} {new old : ℕ → List ℕ} {a b : Meaning} {d : Meaning} → Lawful v.crew.source
    → Lawful v.crew.target
    → HasAll v b → PlacesWith v Q W old a b (Ok tt) → (r : Result Unit Refused) → PlacesNext v Q R U z new b d r → (q : Q) → Joins v R W U T z new old
    → Readings v a d (renewed z new old)
both_given {v} {Q} {R} {W} {U} {T} {z} {new} {old} {a} {b} {d} law next has so r p q j i lt =
    let f = λ (m : Meaning). content_of v m i in
    elim (cases_Bool (z i)) [
      | inl e ↦ subst (SeenBy v.crew a d f) (sym (cond-true (z i) (new i) (old i) e))
          (seen_before (home_by v i) v.crew.source v.crew.target law next v.backup i (has.each i lt) so.stage.0 (unwritten q j so.stage.0 i lt e) (new i)
          (p.given q i lt e))
      | inr e ↦ subst (SeenBy v.crew a d f) (sym (cond-false (z i) (new i) (old i) e)) (seen_later f (old i) (stage_may _ _ _ r p.stage) (so.given q i lt))
    ]

-- all that was due before and is due now is held
both_held : {v : Volume} {R : Type 0} {W U T : Owner → Type 0} {z : ℕ → Bool} {new old : ℕ → List ℕ} {b d : Meaning} → Lawful v.crew.target → Joins v R W U T z new old
    → May (PlansDue R v.crew.target v.backup U (padded v.size new)) b d → HoldsDue v.crew.target v.backup W (padded v.size old) b
    → HoldsDue v.crew.target v.backup U (padded v.size new) d → HoldsDue v.crew.target v.backup T (padded v.size (renewed z new old)) d
both_held {v} {R} {W} {U} {T} {z} {new} {old} {b} {d} law j m was now o is both =
    let t = v.crew.target in
    let at = λ (x : List ℕ) (y : Meaning). WrittenAt (place_of t o).0 (SLOTS_AT + v.backup + (place_of t o).1) x y in
    elim (j.all o is both) [
      | inl before ↦ held_on law v.backup U (padded v.size (renewed z new old)) (padded v.size new) m (λ k n x w. w.due j.ready) o is (λ anew. (j.anew o is anew).1)
          (subst (λ x. at x b) (j.before o is before).1 (was o is before))
      | inr anew ↦ subst (λ x. at x d) (j.anew o is anew).1 (now o is anew)
    ]

-- so it goes on from what was read and written before
pub places_then : {v : Volume} {Q R : Type 0} {W U T : Owner → Type 0} {z : ℕ → Bool} {new old : ℕ → List ℕ} {a b : Meaning} (d : Meaning) → Lawful v.crew.source
    → Lawful v.crew.target → HasAll v b → PlacesWith v Q W old a b (Ok tt) → (r : Result Unit Refused) → PlacesNext v Q R U z new b d r
    → (Q → Joins v R W U T z new old) → PlacesWith v Q T (renewed z new old) a d r
places_then {v} {Q} {R} {W} {U} {T} {z} {new} {old} {a} {b} d law next has so r p joins =
    let t = v.crew.target in
    let c = padded v.size (renewed z new old) in
    record {
      given = λ q. both_given law next has so r p q (joins q);
      stage = stage_after (PlansDue Q t v.backup T c) (PlansDue R t v.backup U (padded v.size new)) (OnMember reads_and_writes b) (OnMember reads_and_writes a)
          (λ u. R → HoldsDue t v.backup U (padded v.size new) d) (λ u. Q → HoldsDue t v.backup T c d) (may_wider (plan_wider (λ q. q) (λ q. (joins q).before)) so.stage.0)
          so.stage.1 (plan_wider (λ q. (joins q).ready) (λ q. (joins q).anew)) (member_same so.stage.0)
          (λ u m held q. both_held next (joins q) m (so.stage.2 q) (held (joins q).ready)) r p.stage;
    }
