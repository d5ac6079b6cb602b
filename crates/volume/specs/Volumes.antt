-- What clauses read of a volume.
use Rattle.std.specs.Prelude.{◌≡◌, ℕ, ◌*◌, ◌<◌, ◌≤◌, ◌⊎◌, [], Some, None, Ok, Err, OnOk, Option, Result, List, ◌∷◌}
use Rattle.answer.specs.Faults.{in_row}
use Rattle.answer.specs.declared.Refusal.{Refusal}
use Rattle.answer.specs.declared.Refused.{Refused}
use Rattle.head.specs.Heads.{Fits}
use Rattle.head.specs.declared.TheConstants.{MOST_NUMBER}
use Rattle.head.specs.declared.state.Head.{Head}
use Rattle.head.specs.declared.state.Progress.{Progress}
use Rattle.layout.specs.Geometry.{Geometry, capacity}
use Rattle.layout.specs.declared.label.Label.{Label}
use Rattle.overlap.specs.Needs.{distance_of}
use Rattle.shelf.specs.Meaning.{Meaning}
use Rattle.model.specs.Answers.{Came, CreateMet, Ended, HeadLeft, TurnedAway}
use Rattle.model.specs.Crew.{crew, Crew}
use Rattle.model.specs.Effects.{CreateTorn, CreatedBy, DoneBy, First, HeadAfter, MetBy, Rearmed, known_after}
use Rattle.model.specs.Ends.{GoesOn, Met}
use Rattle.model.specs.Handed.{Handed}
use Rattle.model.specs.Images.{logged}
use Rattle.model.specs.Knowing.{Volume as Known}
use Rattle.model.specs.Readable.{Room}
use Rattle.model.specs.Verdicts.{window_after_keep}
use Rattle.model.specs.Steps.{Part, Through, TornIn}
use Rattle.model.specs.Steps.Part.{Checkpoint, Plain}
use Rattle.model.specs.declared.phase.Phase.{Phase}
use Rattle.model.specs.declared.phase.Phase.TheVariants.{Before, Moving, After, Shut}
use Rattle.model.specs.declared.request.Request.{Request}
use Rattle.model.specs.declared.request.Request.TheVariants.{Keep, Write}
use Rattle.stage.specs.Arrays.{crew_of, volume_on}
use Rattle.stage.specs.Checkpoint.{Checkpointed}
use Rattle.stage.specs.Endings.{OnMember, only_writes, reads_and_writes}
use Rattle.stage.specs.Places.{home_step}
use Rattle.stage.specs.declared.array.Array.{Array}
use Rattle.volume.specs.declared.Volume.{Volume}
use Rattle.volume.specs.declared.grant.Grant.{Grant}

abbrev pub shelf_of : {S L : Type 0} → Volume S L → S
shelf_of v = v.shelf

abbrev pub source_of : {S L : Type 0} → Volume S L → L
source_of v = v.array.source

abbrev pub target_of : {S L : Type 0} → Volume S L → L
target_of v = v.array.target

abbrev pub phase_of : {S L : Type 0} → Volume S L → Phase
phase_of v = v.array.phase

abbrev pub hand_of : {S L : Type 0} → Volume S L → Option ℕ
hand_of v = v.hand

-- what it knows of itself, by what its layouts place where
abbrev pub known : {S L : Type 0} → (L → Geometry) → Volume S L → Known
known place v = volume_on place v.array v.hand

-- the overlap distance of its move
abbrev pub distance_in : Known → ℕ
distance_in k = distance_of k.crew.source k.crew.target k.size

-- nothing has changed but the row in hand
pub record OnlyHand {S L : Type 0} (a b : Volume S L) (held : Option ℕ) : Type 0 where
  pub array : b.array ≡ a.array
  pub shelf : b.shelf ≡ a.shelf
  pub hand : b.hand ≡ held

-- nothing has changed but the shelf
pub record OnlyShelf {S L : Type 0} (a b : Volume S L) : Type 0 where
  pub array : b.array ≡ a.array
  pub hand : b.hand ≡ a.hand

abbrev pub granted_row : Grant → ℕ
granted_row g = g.row

-- the last checkpoint's head
abbrev pub head_of : {S L : Type 0} → Volume S L → Head
head_of v = v.array.head

-- How a call of v ended that left w, by its verdict, both ways: `same` says that all is as it was, `out` what an answer hands out.
abbrev pub CallEnds : {S L A : Type 0} → (S → Meaning) → (L → Geometry) → (L → Label) → Option Refusal → (A → Handed) → Request → (same : Type 0)
    → (v w : Volume S L) → Result A Refused → Type 0
CallEnds mean place name verdict out r same v w result =
    Ended verdict same out r (name (target_of v)) (known place v) (head_of v) (mean (shelf_of v)) (known place w) (head_of w) (mean (shelf_of w)) result

-- the same with what it made of every sector
abbrev pub CallCame : {S L A : Type 0} → (S → Meaning) → (L → Geometry) → (L → Label) → Option Refusal → (A → Handed) → Request → (same : Type 0)
    → (v w : Volume S L) → Result A Refused → Type 0
CallCame mean place name verdict out r same v w result =
    Came verdict same out r (name (target_of v)) (known place v) (head_of v) (mean (shelf_of v)) (known place w) (head_of w) (mean (shelf_of w)) result

-- a checkpoint of v that left w, of which nothing changed but the head and the shelf
pub record CheckpointOf {S L : Type 0} (mean : S → Meaning) (place : L → Geometry) (label : Label) (progress : Progress) (armed : Option ℕ) (v w : Volume S L)
    (result : Result Unit Refused) : Type 0 where
  pub stage : Checkpointed (crew_of place v.array) label progress armed v.array.head w.array.head (mean v.shelf) (mean w.shelf) result
  pub fits : OnOk result (Fits w.array.head)
  pub source : w.array.source ≡ v.array.source
  pub target : w.array.target ≡ v.array.target
  pub phase : w.array.phase ≡ v.array.phase
  pub hand : w.hand ≡ v.hand

-- a layout has room on the shelf, and the volume in it
pub record HasRoom (v : Known) (a : Meaning) (g : Geometry) : Type 0 where
  pub room : Room a.members a.sectors v.backup g
  pub holds : v.size ≤ capacity g

-- the row in hand is the first that is not settled
abbrev pub IsNext : Option ℕ → (settled rows : ℕ) → Type 0
IsNext None settled rows = settled ≤ rows
IsNext (Some row) settled rows = (row ≡ settled) × (settled < rows)

abbrev pub HousedIn : Phase → Known → Meaning → Type 0
HousedIn Before v a = HasRoom v a v.crew.source × (v.hand ≡ None)
HousedIn Moving v a = HasRoom v a v.crew.source × HasRoom v a v.crew.target × IsNext v.hand v.settled v.crew.target.rows
HousedIn After v a = HasRoom v a v.crew.target
HousedIn (Shut why) v a = Unit {0}

-- The layouts in force have room, and no more rows are settled than there are. Create and open see to it, and each call keeps it.
abbrev pub Housed : Known → Meaning → Type 0
Housed v a = HousedIn v.crew.phase v a

abbrev pub StaysHoused : {S L : Type 0} → (S → Meaning) → (L → Geometry) → (v w : Volume S L) → Type 0
StaysHoused mean place v w = Housed (known place v) (mean (shelf_of v)) → Housed (known place w) (mean (shelf_of w))

-- what was met in a call about this row
abbrev pub rowed : ℕ → Result Unit Refused → Result Unit Refused
rowed row (Ok x) = Ok x
rowed row (Err e) = Err (in_row e row)

-- the same volume, on a shelf as large, but for its head's number and what that is armed for
pub record Alike {S L : Type 0} (mean : S → Meaning) (v w : Volume S L) : Type 0 where
  pub source : w.array.source ≡ v.array.source
  pub target : w.array.target ≡ v.array.target
  pub phase : w.array.phase ≡ v.array.phase
  pub hand : w.hand ≡ v.hand
  pub progress : w.array.head.progress ≡ v.array.head.progress
  pub size : w.array.head.size ≡ v.array.head.size
  pub backup : w.array.head.backup ≡ v.array.head.backup
  pub members : (mean w.shelf).members ≡ (mean v.shelf).members
  pub sectors : (mean w.shelf).sectors ≡ (mean v.shelf).sectors

-- power and members that were enough are enough
abbrev pub StaysOn : {S L : Type 0} → (S → Meaning) → (L → Geometry) → (v w : Volume S L) → Type 0
StaysOn mean place v w = GoesOn (crew_of place v.array) (mean v.shelf) (mean w.shelf)

-- parts that followed one another, or were cut in one of them
abbrev pub PartsEnd : Crew → List Part → (h : Head) → (a : Meaning) → (k : Head) → (b : Meaning) → Result Unit Refused → Type 0
PartsEnd w ps h a k b (Ok x) = Through w ps h a k b
PartsEnd w ps h a k b (Err e) = TornIn w ps h a b

-- the parts of a write of sector i, from its places on and all of them
abbrev pub places_parts : {L : Type 0} → (L → Geometry) → Array L → (i : ℕ) → (datum parity : List ℕ) → List Part
places_parts place v i x y = Plain (λ f. home_step place v i x y f) ∷ Checkpoint v.head.source v.head.progress None ∷ []

abbrev pub write_parts : {L : Type 0} → (L → Geometry) → Array L → (i : ℕ) → (datum parity : List ℕ) → List Part
write_parts place v i x y = Plain (λ f. logged x y f) ∷ Checkpoint v.head.source v.head.progress (Some i) ∷ places_parts place v i x y

-- a write of sector i, with its datum and its parity, that was carried out, or met
abbrev pub Carried : {S L : Type 0} → (S → Meaning) → (L → Geometry) → (i : ℕ) → (datum parity : List ℕ) → (v w : Volume S L) → Result Unit Refused → Type 0
Carried mean place i x y v w (Ok u) =
    Rearmed i v.array.head w.array.head × StaysOn mean place v w
    × PartsEnd (crew_of place v.array) (write_parts place v.array i x y) v.array.head (mean v.shelf) w.array.head (mean w.shelf) (Ok u)
Carried mean place i x y v w (Err e) =
    HeadLeft (Write i []) v.array.head w.array.head × Met (crew_of place v.array) (OnMember only_writes (mean v.shelf)) (mean w.shelf) e
    × PartsEnd (crew_of place v.array) (write_parts place v.array i x y) v.array.head (mean v.shelf) w.array.head (mean w.shelf) (Err e)

-- The next source row can be kept: the volume moves, the row is live, the slots take its window, and a number is left.
pub record KeepsNext (v : Known) : Type 0 where
  pub moving : v.crew.phase ≡ Moving
  pub live : v.kept * v.crew.source.row_len < v.size
  pub window : window_after_keep v ≤ v.backup
  pub left : v.number < MOST_NUMBER

-- The next source row was kept, or this was met: nothing has changed but the head.
abbrev pub KeepEnds : {S L : Type 0} → (S → Meaning) → (L → Geometry) → (L → Label) → (v w : Volume S L) → Result Unit Refused → Type 0
KeepEnds mean place name v w (Ok x) =
    HeadAfter Keep (known place v) (name v.array.target) v.array.head w.array.head × StaysOn mean place v w
    × (known place w ≡ known_after Keep (known place v) w.array.head)
    × DoneBy Keep (known place v) (name v.array.target) v.array.head (mean v.shelf) (mean w.shelf) w.array.head
KeepEnds mean place name v w (Err e) =
    (w.array.head ≡ v.array.head) × Met (crew_of place v.array) (OnMember reads_and_writes (mean v.shelf)) (mean w.shelf) e × (known place w ≡ known place v)
    × MetBy Keep (known place v) (name v.array.target) v.array.head (mean v.shelf) (mean w.shelf)

-- nothing has changed but the shelf, the phase and the head
pub record SameLayouts {S L : Type 0} (v w : Volume S L) : Type 0 where
  pub source : w.array.source ≡ v.array.source
  pub target : w.array.target ≡ v.array.target
  pub hand : w.hand ≡ v.hand

-- a volume with no move and its first head
pub record Founded {S L : Type 0} (mean : S → Meaning) (place : L → Geometry) (label : Label) (size backup : ℕ) (v w : Volume S L) : Type 0 where
  pub goes : GoesOn (crew Before (place v.array.source) (place v.array.target)) (mean v.shelf) (mean w.shelf)
  pub first : First label size backup w.array.head
  pub phase : w.array.phase ≡ Before

-- How a volume was laid out on v's shelf, by its verdict, both ways, and what that made of every sector.
abbrev pub LaidOut : {S L : Type 0} → (S → Meaning) → (L → Geometry) → (L → Label) → Option Refusal → (size backup : ℕ) → (v w : Volume S L) → Result Unit Refused → Type 0
LaidOut mean place name verdict size backup v w (Ok x) = (verdict ≡ None) × Founded mean place (name v.array.source) size backup v w
    × CreatedBy (place v.array.source) (name v.array.source) size backup (mean v.shelf) (mean w.shelf) w.array.head
LaidOut mean place name verdict size backup v w (Err e) =
    TurnedAway verdict (w ≡ v) e ⊎ (CreateMet verdict (place v.array.source) (place v.array.target) (mean v.shelf) (mean w.shelf) e
    × CreateTorn (place v.array.source) (name v.array.source) size backup (mean v.shelf) (mean w.shelf))
