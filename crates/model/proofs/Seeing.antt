-- What was seen of a shelf by the members that are there when a look ends.
use Rattle.std.proofs.Common.{◌≡◌, ℕ, Bool, true, List, refl, sym, ap, ◌∙◌, inl, inr}
use mathlib.Core.Path.{fun_ext}
use Rattle.std.proofs.lemmas.Bool.{both_ways, cases_Bool}
use Rattle.layout.specs.Geometry.{Geometry}
use Rattle.overlap.specs.declared.walk.Home.{Home}
use Rattle.overlap.specs.declared.walk.Home.TheVariants.{Source, Target, Backup}
use Rattle.shelf.specs.Meaning.{Meaning}
use Rattle.model.specs.Crew.{Crew, enough, enough_by}
use Rattle.model.specs.Knowing.{Volume}
use Rattle.model.specs.May.{May, nothing}
use Rattle.model.specs.Reading.{common, content_at, content_of, home_by}
use Rattle.model.specs.Steps.{Looked, SeenBy, seen_by}
use Rattle.model.specs.declared.phase.Phase.{Phase}
use Rattle.model.specs.declared.phase.Phase.TheVariants.{Before, Moving, After, Shut}

-- a shelf as large, with these members there and these contents
abbrev showing : (members sectors : ℕ) → (ℕ → Bool) → (ℕ → ℕ → List ℕ) → Meaning
showing n z present current = record { members = n; sectors = z; on = true; present = present; durable = current; current = current }

-- how large a shelf is, who is there and what is current decide what f gives
pub record OfCurrent {A : Type 0} (f : Meaning → A) : Type 0 where
  pub same : (m : Meaning) → f m ≡ f (showing m.members m.sectors m.present m.current)

-- a look leaves what is current
pub unwritten : {a b : Meaning} → May nothing a b → b.current ≡ a.current
unwritten m = fun_ext (λ k. fun_ext (λ s. elim (m.current k s) [ inl e ↦ e | inr w ↦ absurd w ]))

-- so what is read at its end was there at its start, with those that are there at its end
pub still : {A : Type 0} {a b : Meaning} (f : Meaning → A) → OfCurrent f → May nothing a b → f b ≡ f (seen_by b.present a)
still {A} {a} {b} f of m =
    of.same b
    ∙ (ap (λ n. f (showing n b.sectors b.present b.current)) m.members
    ∙ (ap (λ n. f (showing a.members n b.present b.current)) m.sectors
    ∙ (ap (λ c. f (showing a.members a.sectors b.present c)) (unwritten m)
    ∙ sym (of.same (seen_by b.present a)))))

enough_of : (phase : Phase) (s t : Geometry) → OfCurrent (enough_by phase s t)
enough_of Before s t = record { same = λ m. refl }
enough_of Moving s t = record { same = λ m. refl }
enough_of After s t = record { same = λ m. refl }
enough_of (Shut why) s t = record { same = λ m. refl }

at_home : (h : Home) (s t : Geometry) (backup i : ℕ) → OfCurrent (λ m. content_at h s t m backup i)
at_home Source s t backup i = record { same = λ m. refl }
at_home Target s t backup i = record { same = λ m. refl }
at_home Backup s t backup i = record { same = λ m. refl }

-- a sector of a volume
pub content_seen : (v : Volume) (i : ℕ) → OfCurrent (λ m. content_of v m i)
content_seen v i = at_home (home_by v i) v.crew.source v.crew.target v.backup i

-- a sector that every member holds
pub common_seen : (t : ℕ) → OfCurrent (λ m. common m t)
common_seen t = record { same = λ m. refl }

-- what a look gives is seen by those that are there at its end
pub seen : {a b : Meaning} (w : Crew) (f : Meaning → List ℕ) (x : List ℕ) → OfCurrent f → enough w a ≡ true → Looked w a b → x ≡ f b → SeenBy w a b f x
seen {a} {b} w f x of here looked is = record {
  there = b.present;
  between = record {
    left = λ k there. there;
    were = λ k there. elim (cases_Bool (a.present k)) [ inl e ↦ e | inr gone ↦ absurd (both_ways (b.present k) (looked.may.absent_stays k gone) there) ];
  };
  enough = sym (still (enough w) (enough_of w.phase w.source w.target) looked.may) ∙ looked.goes.enough here;
  is = is ∙ still f of looked.may;
}

-- what was seen until a later end, by members of whom some may be left
pub seen_until : {a b c : Meaning} (w : Crew) (f : Meaning → List ℕ) (x : List ℕ) → ((k : ℕ) → c.present k ≡ true → b.present k ≡ true) → SeenBy w a b f x
    → SeenBy w a c f x
seen_until w f x were s = record {
  there = s.there;
  between = record { left = λ k there. s.between.left k (were k there); were = s.between.were };
  enough = s.enough;
  is = s.is;
}
