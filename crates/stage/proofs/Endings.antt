-- Stages that write: done, or met at an operation on a member that was there.
use Rattle.std.proofs.Common.{◌≡◌, ℕ, ◌+◌, ◌<◌, Bool, true, List, None, Ok, Err, Result, inl, inr, refl, sym, subst, arith}
use Rattle.answer.specs.declared.Fault.{Fault}
use Rattle.answer.specs.declared.Operation.{Operation}
use Rattle.answer.specs.declared.Operation.TheVariants.{Flush, Read, Restart, Write}
use Rattle.answer.specs.declared.Refused.{Refused}
use Rattle.shelf.specs.Meaning.{Meaning}
use Rattle.model.specs.Crew.{Crew}
use Rattle.model.specs.Ends.{GoesOn, Met, Stage}
use Rattle.model.specs.Faults.{NamesSector, OnCell, OnSector}
use Rattle.model.specs.May.{AtSector, InSlots, May, nothing}
use Rattle.overlap.specs.declared.walk.Home.{Home}
use Rattle.overlap.specs.declared.walk.Home.TheVariants.{Source, Target, Backup}
use Rattle.layout.specs.Geometry.{Geometry}
use Rattle.stage.specs.Endings.{HasSize, OnMember, StageEnds, only_writes, reads_and_writes}
use Rattle.stage.specs.Looks.{HomeHas, OnBody, OnHome}
use Rattle.stage.proofs.Places.{use_kept}
use Rattle.stage.proofs.Chains.{names_as, stage_as}
use Rattle.stage.proofs.Loops.{goes_then, names_same, was_present}
use Rattle.model.proofs.Mays.{may_then, may_wider}

-- a stage that has come so far
pub record Going (w : Crew) (P : ℕ → ℕ → List ℕ → Type 0) (a b : Meaning) : Type 0 where
  pub may : May P a b
  pub goes : GoesOn w a b

-- who was there later was there before
pub member_same : {does : Operation → Bool} {P : ℕ → ℕ → List ℕ → Type 0} {a b : Meaning} → May P a b → (f : Fault) → OnMember does b f
    → OnMember does a f
member_same m f n = record {
  operation = n.operation;
  there = was_present m f.member n.there;
  sector = names_same f.operation f.sector _ _ m.sectors n.sector;
  row = n.row;
}

-- what a stage that does less may end at, one that does more may too
pub member_as : {does more : Operation → Bool} → ((o : Operation) → does o ≡ true → more o ≡ true) → (a : Meaning) (f : Fault)
    → OnMember does a f → OnMember more a f
member_as wider a f n = record { operation = wider f.operation n.operation; there = n.there; sector = n.sector; row = n.row }

-- a stage that reads and writes does all that one that only writes does
pub writes_too : (o : Operation) → only_writes o ≡ true → reads_and_writes o ≡ true
writes_too Restart w = w
writes_too Read w = refl
writes_too Write w = refl
writes_too Flush w = refl

-- a stage that was met, by a wider plan and wider names
pub met_ends : (w : Crew) (does : Operation → Bool) (P Q : ℕ → ℕ → List ℕ → Type 0) (F : Fault → Type 0) (a b : Meaning)
    → ((k s : ℕ) (x : List ℕ) → Q k s x → P k s x) → ((f : Fault) → F f → OnMember does a f) → (e : Refused) → May Q a b × Met w F b e
    → May P a b × Met w (OnMember does a) b e
met_ends w does P Q F a b wider names e s =
    (may_wider wider s.0, record { why = s.1.why; fault = names_as F (OnMember does a) names e.fault s.1.fault })

-- the same, done or met
pub stage_ends : {A : Type 0} (w : Crew) (does : Operation → Bool) (P Q : ℕ → ℕ → List ℕ → Type 0) (F : Fault → Type 0) (a b : Meaning) (D : A → Type 0)
    → ((k s : ℕ) (x : List ℕ) → Q k s x → P k s x) → ((f : Fault) → F f → OnMember does a f) → (r : Result A Refused) → Stage w Q F a b D r
    → StageEnds w does P a b r
stage_ends w does P Q F a b D wider names r s = stage_as w a b wider names (λ x m d. tt) r s

-- a stage that was met, after what came before it
pub met_after : {w : Crew} {does : Operation → Bool} {P : ℕ → ℕ → List ℕ → Type 0} {a b : Meaning} (c : Meaning) → Going w P a b → (e : Refused)
    → May P b c × Met w (OnMember does b) c e → May P a c × Met w (OnMember does a) c e
met_after {w} {does} {P} {a} {b} c g e s =
    (may_then g.may s.0, record { why = s.1.why; fault = names_as (OnMember does b) (OnMember does a) (member_same g.may) e.fault s.1.fault })

-- the same, done or met
pub ends_after : {A : Type 0} {w : Crew} (does : Operation → Bool) {P : ℕ → ℕ → List ℕ → Type 0} {a b : Meaning} (c : Meaning) → Going w P a b
    → (r : Result A Refused) → StageEnds w does P b c r → StageEnds w does P a c r
ends_after does c g (Ok x) s = (may_then g.may s.0, goes_then g.goes s.1, tt)
ends_after does c g (Err e) s = met_after c g e s

pub going_then : {w : Crew} {P : ℕ → ℕ → List ℕ → Type 0} {a b c : Meaning} → Going w P a b → May P b c → GoesOn w b c → Going w P a c
going_then g m go = record { may = may_then g.may m; goes = goes_then g.goes go }

-- a fault of one operation on one sector of a member that was there is one of a stage that does such operations
one_of : {does : Operation → Bool} (op : Operation) → does op ≡ true → (a : Meaning) (t : ℕ) (f : Fault) → f.operation ≡ op → f.sector ≡ t
    → NamesSector op t a → a.present f.member ≡ true → f.row ≡ None → OnMember does a f
one_of {does} op o a t f is at inside there row = record {
  operation = subst (λ p. does p ≡ true) (sym is) o;
  there = there;
  sector = subst (λ p. NamesSector p f.sector a) (sym is) (subst (λ s. NamesSector op s a) (sym at) inside);
  row = row;
}

-- so are those of an operation on one member, on every member, on a place, and on the home of a sector
pub on_cell : {does : Operation → Bool} (op : Operation) → does op ≡ true → (a : Meaning) (m t : ℕ) (f : Fault) → OnCell op a m t f → OnMember does a f
on_cell op o a m t f n = one_of op o a t f n.operation n.sector n.inside n.there n.row

pub on_sector : {does : Operation → Bool} (op : Operation) → does op ≡ true → (a : Meaning) (t : ℕ) (f : Fault) → OnSector op a t f → OnMember does a f
on_sector op o a t f n = one_of op o a t f n.operation n.sector n.inside n.there n.row

pub on_body : {does : Operation → Bool} (op : Operation) → does op ≡ true → (backup : ℕ) (a : Meaning) (f : Fault) → OnBody op backup a f
    → OnMember does a f
on_body op o backup a f n = one_of op o a f.sector f n.operation refl n.inside n.there n.row

pub on_home : {does : Operation → Bool} (op : Operation) → does op ≡ true → (backup i : ℕ) (a : Meaning) (f : Fault) → OnHome op backup i a f
    → OnMember does a f
on_home op o backup i a f n = elim n [ inl p ↦ on_body op o backup a f p | inr p ↦ on_sector op o a _ f p ]

-- plans
pub same_plan : (P : ℕ → ℕ → List ℕ → Type 0) (k s : ℕ) (x : List ℕ) → P k s x → P k s x
same_plan P k s x p = p

pub no_plan : (P : ℕ → ℕ → List ℕ → Type 0) (k s : ℕ) (x : List ℕ) → nothing k s x → P k s x
no_plan P k s x p = absurd p

-- a slot of so many
pub slots : (backup r : ℕ) (c : List ℕ) (k s : ℕ) (x : List ℕ) → r < backup → AtSector (3 + r) c k s x → InSlots backup k s x
slots backup r c k s x lt p = (let e = p.sector in record { sector = omega (arith, e); slot = omega (arith, e, lt) })

-- what can be had can be had while members are enough
pub home_kept : {P : ℕ → ℕ → List ℕ → Type 0} {w : Crew} {a b : Meaning} (h : Home) (s t : Geometry) (backup i : ℕ) → May P a b → GoesOn w a b
    → HomeHas h w s t backup i a → HomeHas h w s t backup i b
home_kept Source s t backup i m go has = record { of = use_kept m go s backup has.of; below = has.below }
home_kept Target s t backup i m go has = record { of = use_kept m go t backup has.of; below = has.below }
home_kept Backup s t backup i m go u = use_kept m go s backup u

pub size_kept : {P : ℕ → ℕ → List ℕ → Type 0} {w : Crew} {a b : Meaning} (homes : ℕ → Home) (s t : Geometry) (backup size : ℕ) → Going w P a b
    → HasSize w homes s t backup size a → HasSize w homes s t backup size b
size_kept homes s t backup size so has = record { each = λ i lt. home_kept (homes i) s t backup i so.may so.goes (has.each i lt) }
