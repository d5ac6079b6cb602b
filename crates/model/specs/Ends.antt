-- How a stage ends.
use Rattle.std.specs.Prelude.{◌≡◌, ℕ, true, false, ◌⊎◌, List, Some, None, Ok, Err, Option, Result}
use Rattle.answer.specs.declared.Refusal.TheVariants.{MembersLost, PowerLost}
use Rattle.answer.specs.declared.Fault.{Fault}
use Rattle.answer.specs.declared.Refused.{Refused}
use Rattle.shelf.specs.Meaning.{Meaning}
use Rattle.model.specs.May.{May}
use Rattle.model.specs.Crew.{Crew, enough}

-- nothing was met: power that was on is on, and members that were enough are enough
pub record GoesOn (w : Crew) (a b : Meaning) : Type 0 where
  pub on : a.on ≡ true → b.on ≡ true
  pub enough : enough w a ≡ true → enough w b ≡ true

-- the power is gone
pub record Cut (b : Meaning) (e : Refused) : Type 0 where
  pub refusal : e.refusal ≡ PowerLost
  pub off : b.on ≡ false

abbrev pub Names : (Fault → Type 0) → Option Fault → Type 0
Names F None = ⊥
Names F (Some f) = F f

-- too few members are left, since the one that the fault names is gone
pub record Bereft (w : Crew) (b : Meaning) (e : Refused) : Type 0 where
  pub refusal : e.refusal ≡ MembersLost
  pub on : b.on ≡ true
  pub few : enough w b ≡ false
  pub lost : Names (λ f. b.present f.member ≡ false) e.fault

-- power or members were met lacking, at an operation of which F holds
pub record Met (w : Crew) (F : Fault → Type 0) (b : Meaning) (e : Refused) : Type 0 where
  pub why : Cut b e ⊎ Bereft w b e
  pub fault : Names F e.fault

-- a stage that writes by P: done with D, or met
abbrev pub Stage : {A : Type 0} → Crew → (ℕ → ℕ → List ℕ → Type 0) → (Fault → Type 0) → Meaning → Meaning → (A → Type 0) → Result A Refused → Type 0
Stage w P F a b D (Ok x) = May P a b × GoesOn w a b × D x
Stage w P F a b D (Err e) = May P a b × Met w F b e
