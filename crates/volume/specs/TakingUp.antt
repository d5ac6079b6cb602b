-- How an open goes: from the head that was found to the last checkpoint.
use Rattle.std.specs.Prelude.{◌≡◌, true, false, ◌⊎◌, List, Ok, Err, Result}
use Rattle.answer.specs.declared.Refused.{Refused}
use Rattle.layout.specs.Geometry.{Geometry}
use Rattle.layout.specs.declared.label.Label.{Label}
use Rattle.head.specs.declared.state.Head.{Head}
use Rattle.shelf.specs.Meaning.{Meaning}
use Rattle.model.specs.Answers.{OpenCut, OpenDone, OpenRefused}
use Rattle.model.specs.Crew.{enough}
use Rattle.model.specs.Ends.{Met}
use Rattle.model.specs.Knowing.{Volume as Known, phase_by}
use Rattle.model.specs.Opening.{GoesDark, StaysOff, cannot_disarm, head_fits}
use Rattle.model.specs.Reopening.{OpenParts, opened_crew}
use Rattle.model.specs.Steps.{Part}
use Rattle.stage.specs.Arrays.{crew_of}
use Rattle.stage.specs.Endings.{OnMember, reads_and_writes}
use Rattle.volume.specs.Volumes.{PartsEnd}
use Rattle.volume.specs.declared.Volume.{Volume}

-- A volume under a head that its judge let pass: it is in the head's phase, the head fits the shelf, members are enough, and a head that is armed has a
-- number left.
pub record LetPass {S L : Type 0} (mean : S → Meaning) (place : L → Geometry) (v : Volume S L) : Type 0 where
  pub phase : v.array.phase ≡ phase_by v.array.head.progress
  pub fits : head_fits v.array.head (mean v.shelf) (place v.array.source) (place v.array.target) ≡ true
  pub enough : enough (crew_of place v.array) (mean v.shelf) ≡ true
  pub left : cannot_disarm v.array.head.armed v.array.head.number ≡ false

-- the parts of an open followed one another from a volume's head and shelf on, or were cut in one of them
pub record OpenedBy {S L : Type 0} (mean : S → Meaning) (place : L → Geometry) (v w : Volume S L) (r : Result Unit Refused) : Type 0 where
  pub list : List Part
  pub parts : OpenParts v.array.head.armed (place v.array.source) (place v.array.target) v.array.head (mean v.shelf) (mean w.shelf) list
  pub ends : PartsEnd (opened_crew (place v.array.source) (place v.array.target) v.array.head) list v.array.head (mean v.shelf) w.array.head (mean w.shelf) r

-- It went on to the last head, or this was met.
abbrev pub WentOn : {S L : Type 0} → (S → Meaning) → (L → Geometry) → (v w : Volume S L) → Result Unit Refused → Type 0
WentOn mean place v w (Ok x) = OpenedBy mean place v w (Ok x)
WentOn mean place v w (Err e) = Met (crew_of place v.array) (OnMember reads_and_writes (mean v.shelf)) (mean w.shelf) e × OpenedBy mean place v w (Err e)

-- why a volume was not taken up
abbrev pub NotTaken : (sl tl : Label) → (s t : Geometry) → (a b : Meaning) → Refused → Type 0
NotTaken sl tl s t a b e = StaysOff a b e ⊎ (GoesDark a b e ⊎ (OpenRefused sl tl s t a b e ⊎ OpenCut sl tl s t a b e))

-- How an open ends, told before a volume that was refused is shut.
abbrev pub TookUp : (sl tl : Label) → (s t : Geometry) → (a : Meaning) → (u : Known) → (k : Head) → (b : Meaning) → Result Unit Refused → Type 0
TookUp sl tl s t a u k b (Ok x) = OpenDone sl tl s t a u k b
TookUp sl tl s t a u k b (Err e) = NotTaken sl tl s t a b e
