-- How stages that write end.
use Rattle.std.specs.Prelude.{◌≡◌, ℕ, ◌<◌, Bool, true, false, List, None, Result}
use Rattle.answer.specs.declared.Fault.{Fault}
use Rattle.answer.specs.declared.Operation.{Operation}
use Rattle.answer.specs.declared.Operation.TheVariants.{Flush, Restart, Write}
use Rattle.answer.specs.declared.Refused.{Refused}
use Rattle.layout.specs.Geometry.{Geometry}
use Rattle.overlap.specs.declared.walk.Home.{Home}
use Rattle.shelf.specs.Meaning.{Meaning}
use Rattle.model.specs.Crew.{Crew}
use Rattle.model.specs.Ends.{Stage}
use Rattle.model.specs.Faults.{NamesSector}
use Rattle.model.specs.Steps.{Passed, Step}
use Rattle.stage.specs.Arrays.{crew_of}
use Rattle.stage.specs.Looks.{HomeHas, homes_of}
use Rattle.stage.specs.declared.array.Array.{Array}

-- what a stage does on members: it reads and writes, or it only writes; none restarts
abbrev pub reads_and_writes : Operation → Bool
reads_and_writes Restart = false
reads_and_writes o = true

abbrev pub only_writes : Operation → Bool
only_writes Write = true
only_writes Flush = true
only_writes o = false

-- one of these operations on a member that was there, and on a sector that it has
pub record OnMember (does : Operation → Bool) (a : Meaning) (f : Fault) : Type 0 where
  pub operation : does f.operation ≡ true
  pub there : a.present f.member ≡ true
  pub sector : NamesSector f.operation f.sector a
  pub row : f.row ≡ None

-- done, or met at an operation on a member that was there
abbrev pub StageEnds : {A : Type 0} → Crew → (does : Operation → Bool) → (ℕ → ℕ → List ℕ → Type 0) → (a b : Meaning) → Result A Refused → Type 0
StageEnds w does P a b r = Stage w P (OnMember does a) a b (λ _. Unit {0}) r

-- a stage that is one step: done, that was carried out, and met, it is torn
abbrev pub Carries : Crew → (does : Operation → Bool) → Step → (a b : Meaning) → Result Unit Refused → Type 0
Carries w does f a b r = Stage w (λ k s x. x ≡ f a.current k s) (OnMember does a) a b (λ u. Passed w f a b) r

-- every sector below the size can be had
pub record HasSize (w : Crew) (homes : ℕ → Home) (source target : Geometry) (backup size : ℕ) (a : Meaning) : Type 0 where
  pub each : (i : ℕ) → i < size → HomeHas (homes i) w source target backup i a

-- the same of the volume that is laid on an array
abbrev pub HasVolume : {L : Type 0} → (L → Geometry) → Array L → Meaning → Type 0
HasVolume place v a = HasSize (crew_of place v) (homes_of place v) (place v.source) (place v.target) v.head.backup v.head.size a
