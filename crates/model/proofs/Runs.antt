-- Calls one after the other, and what an open shows.
use Rattle.std.proofs.Common.{◌≡◌, ℕ, suc, refl, ap, ◌∙◌, inl, inr, arith, true, false, cond, not, ◌&&◌, ◌⊎◌, ◌==◌, List, [], ◌∷◌, ◌++◌, Some, None, Option}
use Rattle.std.specs.Prelude.{Any}
use Rattle.std.proofs.lemmas.Bool.{both_ways, cases_Bool, cond-false, cond-true}
use Rattle.answer.specs.declared.Fault.{Fault}
use Rattle.model.specs.declared.request.Answered.TheVariants.{Granted}
use Rattle.layout.specs.Geometry.{Geometry}
use Rattle.shelf.specs.Meaning.{Meaning}
use Rattle.model.specs.declared.told.Told.{Told}
use Rattle.model.specs.declared.request.Request.TheVariants.{Open}
use Rattle.model.specs.Disks.{Disk, each, granted}
use Rattle.model.specs.Histories.{Account, CallByCall, Called, LawFrom, Linked, Moment, OpensShow, account_after, account_from, account_of, answered_of, by_fault, chosen, disks_after, disks_by, first_disk, is_granted, is_met, is_open, moment_from, shown_by, told_of}
use Rattle.model.specs.Strays.{stray_count}
use Rattle.model.specs.Verdicts.{is_held}

-- a hand with a row in it is not empty
pub held_not_none : {row : ℕ} → Some row ≡ None → ⊥
held_not_none {row} e = both_ways true (ap is_held e) refl

-- no refusal is granted
pub refusal_not_granted : (fault : Option Fault) → by_fault fault ≡ Granted → ⊥
refusal_not_granted None e = both_ways false refl (ap is_granted e)
refusal_not_granted (Some fault) e = both_ways false refl (ap is_granted e)

pub parts : (a : Account) (cs ds : List Called) → LawFrom a (cs ++ ds) → LawFrom a cs × LawFrom (account_from a cs) ds
parts a [] ds l = (tt, l)
parts a (c ∷ cs) ds l = (let rest = parts (account_after c a) cs ds l.1 in ((l.0, rest.0), rest.1))

pub whole : (a : Account) (cs ds : List Called) → LawFrom a cs → LawFrom (account_from a cs) ds → LawFrom a (cs ++ ds)
whole a [] ds l k = k
whole a (c ∷ cs) ds l k = (l.0, whole (account_after c a) cs ds l.1 k)

-- so are runs that are joined
pub linked : (m : Moment) (cs ds : List Called) → Linked m cs → Linked (moment_from m cs) ds → Linked m (cs ++ ds)
linked m [] ds l k = k
linked m (c ∷ cs) ds l k = (l.0, linked c.after cs ds l.1 k)

pub call_by_call : CallByCall
call_by_call = record {
  parts = parts;
  whole = whole;
  further = λ c cs e law before kept. record {
    linked = linked c.left cs (e ∷ []) law.linked (before, tt);
    starts = law.starts;
    calls = whole (account_of c) cs (e ∷ []) law.calls (kept, tt);
  };
}

-- the disk that is chosen is the first or one of the list
abbrev pub Chooses : Geometry → Geometry → Meaning → ℕ → Told → Disk → List Disk → Type 0
Chooses s t a backup v first ds =
    (chosen s t a backup v first (each (granted Open) ds) ≡ first) ⊎ Any (λ d. chosen s t a backup v first (each (granted Open) ds) ≡ granted Open d) ds

pub chosen_next : (s t : Geometry) (a : Meaning) (backup : ℕ) (v : Told) (first d : Disk) (ds : List Disk)
    → (stray_count s t a backup v (granted Open d) == 0 ≡ true) ⊎ (stray_count s t a backup v (granted Open d) == 0 ≡ false)
    → Chooses s t a backup v first ds → Chooses s t a backup v first (d ∷ ds)
chosen_next s t a backup v first d ds (inl e) rest =
    (let is = cond-true (stray_count s t a backup v (granted Open d) == 0) (granted Open d) (chosen s t a backup v first (each (granted Open) ds)) e in
    inr (0, d, omega arith, refl, is))
chosen_next s t a backup v first d ds (inr e) (inl is) =
    inl (cond-false (stray_count s t a backup v (granted Open d) == 0) (granted Open d) (chosen s t a backup v first (each (granted Open) ds)) e ∙ is)
chosen_next s t a backup v first d ds (inr e) (inr (k, x, below, here, is)) =
    (let later = cond-false (stray_count s t a backup v (granted Open d) == 0) (granted Open d) (chosen s t a backup v first (each (granted Open) ds)) e in
    inr (suc k, x, omega (arith, below), here, later ∙ is))

pub chooses : (s t : Geometry) (a : Meaning) (backup : ℕ) (v : Told) (first : Disk) (ds : List Disk) → Chooses s t a backup v first ds
chooses s t a backup v first [] = inl refl
chooses s t a backup v first (d ∷ ds) =
    chosen_next s t a backup v first d ds (cases_Bool (stray_count s t a backup v (granted Open d) == 0)) (chooses s t a backup v first ds)

-- the first of the disks as open makes them
pub first_opened : (ds : List Disk) → first_disk (each (granted Open) ds) ≡ granted Open (first_disk ds)
first_opened [] = refl
first_opened (d ∷ ds) = refl

pub one_shown : (ds after : List Disk) (b : Disk) → after ≡ b ∷ []
    → (b ≡ first_disk (each (granted Open) ds)) ⊎ Any (λ d. b ≡ granted Open d) ds → Any (λ d. after ≡ granted Open d ∷ []) (first_disk ds ∷ ds)
one_shown ds after b left (inl is) = (0, first_disk ds, omega arith, refl, left ∙ ap (λ x. x ∷ []) (is ∙ first_opened ds))
one_shown ds after b left (inr (k, x, below, here, is)) = (suc k, x, omega (arith, below), here, left ∙ ap (λ y. y ∷ []) is)

pub opens_show : OpensShow
opens_show c a opens given law = (let w = c.after.volume in record {
  one = one_shown a.disks (disks_after c a.backup a.disks) (shown_by c a.backup (each (granted Open) a.disks))
      (ap (λ r. disks_by r (answered_of c.result) c a.backup a.disks) opens ∙ ap (λ w. disks_by Open w c a.backup a.disks) given)
      (chooses w.crew.source w.crew.target c.after.shelf a.backup (told_of w) (first_disk (each (granted Open) a.disks)) a.disks);
  shown = law.count (
      ap (λ r. cond (is_open r) (is_granted (answered_of c.result)) (a.taken && not (is_met (answered_of c.result)))) opens ∙ ap is_granted given);
})
