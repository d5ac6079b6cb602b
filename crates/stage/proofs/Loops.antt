-- Stages that go through the members one by one.
use Rattle.std.proofs.Common.{◌≡◌, ℕ, ◌<◌, true, List, inl, inr, arith}
use Rattle.std.proofs.lemmas.Bool.{both_ways, cases_Bool}
use Rattle.answer.specs.declared.Operation.{Operation}
use Rattle.answer.specs.declared.Operation.TheVariants.{Flush, Read, Restart, Write}
use Rattle.shelf.specs.Meaning.{Meaning}
use Rattle.model.specs.Crew.{Crew}
use Rattle.model.specs.Ends.{GoesOn}
use Rattle.model.specs.Faults.{NamesSector}
use Rattle.model.specs.May.{May}

-- a stage that has come to member i: E holds of each present member below it
pub record Upto (w : Crew) (P : ℕ → ℕ → List ℕ → Type 0) (E : ℕ → Meaning → Type 0) (a : Meaning) (i : ℕ) (b : Meaning) : Type 0 where
  pub may : May P a b
  pub goes : GoesOn w a b
  pub each : (k : ℕ) → k < i → b.present k ≡ true → E k b

pub goes_then : {w : Crew} {a b c : Meaning} → GoesOn w a b → GoesOn w b c → GoesOn w a c
goes_then g h = record { on = λ e. h.on (g.on e); enough = λ e. h.enough (g.enough e) }

-- whoever is present afterwards was present
pub was_present : {P : ℕ → ℕ → List ℕ → Type 0} {a b : Meaning} → May P a b → (k : ℕ) → b.present k ≡ true → a.present k ≡ true
was_present {P} {a} {b} m k there =
    elim (cases_Bool (a.present k)) [ inl e ↦ e | inr gone ↦ absurd (both_ways (b.present k) (m.absent_stays k gone) there) ]

-- a shelf keeps its sectors
pub names_same : (op : Operation) (t : ℕ) (a b : Meaning) → b.sectors ≡ a.sectors → NamesSector op t b → NamesSector op t a
names_same Restart t a b same n = n
names_same Read t a b same n = omega (arith, n, same)
names_same Write t a b same n = omega (arith, n, same)
names_same Flush t a b same n = n

-- what holds of a member that is done, and stays while the stage goes on
abbrev pub HoldsIn : ℕ → List ℕ → ℕ → Meaning → Type 0
HoldsIn t c k b = t < b.sectors → b.current k t ≡ c

abbrev pub DurableOn : ℕ → Meaning → Type 0
DurableOn k b = (s : ℕ) → b.durable k s ≡ b.current k s

-- of members that were found absent
abbrev pub Nobody : ℕ → Meaning → Type 0
Nobody k b = ⊥
