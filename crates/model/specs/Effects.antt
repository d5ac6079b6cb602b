-- What each call makes of its shelf, done or met: its parts, one after another, and the head after it.
use Rattle.std.specs.Prelude.{◌≡◌, ℕ, zero, suc, ◌+◌, ◌-◌, ◌<◌, ◌⊎◌, List, [], ◌∷◌, Some, None, Option}
use Rattle.sector.specs.declared.TheConstants.{SECTOR}
use Rattle.answer.specs.declared.Refusal.{Refusal}
use Rattle.layout.specs.Geometry.{Geometry}
use Rattle.layout.specs.declared.label.Label.{Label}
use Rattle.overlap.specs.Homes.{KeepSpan}
use Rattle.shelf.specs.Meaning.{Meaning}
use Rattle.head.specs.Checkpoints.{Next}
use Rattle.head.specs.Heads.{Fits, kept_rows, settled_rows}
use Rattle.head.specs.declared.state.Head.{Head}
use Rattle.head.specs.declared.state.Progress.{Progress}
use Rattle.head.specs.declared.state.Progress.TheVariants.{Idle, Moving}
use Rattle.model.specs.Crew.{crew}
use Rattle.model.specs.May.{May, nothing}
use Rattle.model.specs.declared.phase.Phase.{Phase}
use Rattle.model.specs.declared.phase.Phase.TheVariants.{Before, Moving as UnderWay, After}
use Rattle.model.specs.declared.request.Request.{Request}
use Rattle.model.specs.declared.request.Request.TheVariants.{Read, Write, Begin, Keep, Copy, Settle, HandBack, Finish, Open}
use Rattle.model.specs.Contents.{padded}
use Rattle.model.specs.Images.{applied, created_over, fresh_row, headed, logged, saved, with_places}
use Rattle.model.specs.Knowing.{Volume}
use Rattle.model.specs.Reading.{content_of, home_by, parity_at}
use Rattle.model.specs.Steps.{Looked, Part, Passed, SeenBy, Step, Through, Torn, TornIn}
use Rattle.model.specs.Steps.Part.{Checkpoint, Plain}
use Rattle.model.specs.Verdicts.{begin_verdict, copy_verdict, emptied, finish_verdict, hand_back_verdict, keep_verdict, read_verdict, settle_verdict, write_verdict}

-- a head armed for sector i, and the one after it that is not
pub record Rearmed (i : ℕ) (h k : Head) : Type 0 where
  pub armed : Head
  pub arms : Next h h.source h.progress (Some i) armed
  pub fits : Fits armed
  pub disarms : Next armed h.source h.progress None k

-- what a call's checkpoint says: its source and progress; l is the target's label
abbrev pub source_after : Request → Label → Head → Label
source_after Finish l h = l
source_after r l h = h.source

abbrev pub progress_after : Request → Volume → Label → Head → Progress
progress_after Begin v l h = Moving l 0 0
progress_after Keep v l h = Moving l v.settled (v.kept + 1)
progress_after (Settle row) v l h = Moving l (v.settled + 1) v.kept
progress_after Finish v l h = Idle
progress_after r v l h = h.progress

-- The last head after a done call. Open's is in `Reopening`.
abbrev pub HeadAfter : Request → Volume → Label → Head → Head → Type 0
HeadAfter (Write i x) v l h k = Rearmed i h k
HeadAfter (Read i) v l h k = k ≡ h
HeadAfter Copy v l h k = k ≡ h
HeadAfter (HandBack row) v l h k = k ≡ h
HeadAfter Open v l h k = ⊥
HeadAfter r v l h k = Next h (source_after r l h) (progress_after r v l h) None k

abbrev pub checkpoint_of : Request → Volume → Label → Head → Part
checkpoint_of r v l h = Checkpoint (source_after r l h) (progress_after r v l h) None

-- what was read of each sector
abbrev pub Readings : Volume → (a b : Meaning) → (ℕ → List ℕ) → Type 0
Readings v a b c = (i : ℕ) → i < v.size → SeenBy v.crew a b (λ m. content_of v m i) (c i)

-- A write: the sector and its parity go to the log, a head is armed, they go to their places, and the head is disarmed.
pub record WriteParts (i : ℕ) (x : List ℕ) (v : Volume) (h : Head) (a b : Meaning) (ps : List Part) : Type 0 where
  pub parity : List ℕ
  pub made : SeenBy v.crew a b (λ m. parity_at (home_by v i) v.crew.source v.crew.target m v.backup i x) parity
  pub parts : ps ≡ Plain (λ f. logged x parity f) ∷ Checkpoint h.source h.progress (Some i)
      ∷ Plain (λ f. applied (home_by v i) v.crew.source v.crew.target v.backup i x parity f) ∷ Checkpoint h.source h.progress None ∷ []

-- a step over so many sectors, if there are any
abbrev pub some_first : ℕ → Step → List Part → List Part
some_first zero f ps = ps
some_first (suc many) f ps = Plain f ∷ ps

-- A keep: what was read of the next source row goes to the slots, if any of it has to, and a head follows.
pub record KeepParts (v : Volume) (l : Label) (h : Head) (a b : Meaning) (ps : List Part) : Type 0 where
  pub content : ℕ → List ℕ
  pub given : Readings v a b content
  pub from : ℕ
  pub to : ℕ
  pub span : KeepSpan v.crew.source.row_len v.crew.target.row_len v.settled v.kept v.size from to
  pub parts : ps ≡ some_first (to - from) (λ f. saved v.backup content from (to - from) f) (checkpoint_of Keep v l h ∷ [])

-- A copy: what was read goes to the places of the next target row, zeros from the size on, and no head follows.
pub record CopyParts (v : Volume) (a b : Meaning) (ps : List Part) : Type 0 where
  pub content : ℕ → List ℕ
  pub given : Readings v a b content
  pub parts : ps ≡ Plain (λ f. with_places v.crew.target v.backup (fresh_row v.crew.target v.settled (padded v.size content)) f) ∷ []

-- The parts of a call, in their order. A hand back has no operation.
abbrev pub PartsOf : Request → Volume → Label → Head → (a b : Meaning) → List Part → Type 0
PartsOf (Read i) v l h a b ps = ps ≡ []
PartsOf (Write i x) v l h a b ps = WriteParts i x v h a b ps
PartsOf Keep v l h a b ps = KeepParts v l h a b ps
PartsOf Copy v l h a b ps = CopyParts v a b ps
PartsOf (HandBack row) v l h a b ps = (ps ≡ []) × (b ≡ a)
PartsOf Open v l h a b ps = ⊥
PartsOf r v l h a b ps = ps ≡ checkpoint_of r v l h ∷ []

-- done: it looks, and then its parts follow one another
pub record DoneBy (r : Request) (v : Volume) (l : Label) (h : Head) (a b : Meaning) (k : Head) : Type 0 where
  pub mid : Meaning
  pub looked : Looked v.crew a mid
  pub list : List Part
  pub parts : PartsOf r v l h a b list
  pub through : Through v.crew list h mid k b

-- met in a part
pub record MetInPart (r : Request) (v : Volume) (l : Label) (h : Head) (a b : Meaning) : Type 0 where
  pub mid : Meaning
  pub looked : Looked v.crew a mid
  pub list : List Part
  pub parts : PartsOf r v l h a b list
  pub torn : TornIn v.crew list h mid b

-- met while it looked, or in one of its parts
abbrev pub MetBy : Request → Volume → Label → Head → (a b : Meaning) → Type 0
MetBy r v l h a b = May nothing a b ⊎ MetInPart r v l h a b

-- What each call answers before its first operation, with a buffer of one sector; l is the target's label. (Open has its own.)
abbrev pub verdict_of : Request → Volume → (l : Label) → Meaning → Option Refusal
verdict_of (Read i) v l a = read_verdict v a i SECTOR
verdict_of (Write i x) v l a = write_verdict v a i SECTOR
verdict_of Begin v l a = begin_verdict l v a
verdict_of Keep v l a = keep_verdict v a
verdict_of Copy v l a = copy_verdict v a
verdict_of (Settle row) v l a = settle_verdict v a row
verdict_of (HandBack row) v l a = hand_back_verdict v row
verdict_of Finish v l a = finish_verdict v a
verdict_of Open v l a = None

-- the phase and the hand after a granted call
abbrev pub phase_after : Request → Phase → Phase
phase_after Begin s = UnderWay
phase_after Finish s = After
phase_after r s = s

abbrev pub hand_after : Request → Volume → Option ℕ
hand_after Copy v = Some v.settled
hand_after (Settle row) v = emptied v.hand row
hand_after (HandBack row) v = emptied v.hand row
hand_after Open v = None
hand_after r v = v.hand

-- what the volume knows after a granted call that left this head
abbrev pub known_after : Request → Volume → Head → Volume
known_after r v k = record {
  crew = crew (phase_after r v.crew.phase) v.crew.source v.crew.target;
  number = k.number;
  size = v.size;
  backup = v.backup;
  settled = settled_rows k.progress;
  kept = kept_rows k.progress;
  hand = hand_after r v;
}

-- the first head of a volume
pub record First (l : Label) (volume_size slots : ℕ) (h : Head) : Type 0 where
  pub number : h.number ≡ 1
  pub source : h.source ≡ l
  pub progress : h.progress ≡ Idle
  pub size : h.size ≡ volume_size
  pub backup : h.backup ≡ slots
  pub armed : h.armed ≡ None

-- create, done: zeros in every place of the source that has an owner, and then the first head
pub record CreatedBy (source : Geometry) (l : Label) (size backup : ℕ) (a b : Meaning) (k : Head) : Type 0 where
  pub mid : Meaning
  pub cleared : Passed (crew Before source source) (λ f. created_over source backup f) a mid
  pub first : First l size backup k
  pub fits : Fits k
  pub stands : Passed (crew Before source source) (headed k) mid b

-- torn in its head
pub record FirstTorn (source : Geometry) (l : Label) (size backup : ℕ) (a b : Meaning) : Type 0 where
  pub mid : Meaning
  pub cleared : Passed (crew Before source source) (λ f. created_over source backup f) a mid
  pub head : Head
  pub first : First l size backup head
  pub fits : Fits head
  pub torn : Torn (headed head) mid b

-- torn in its zeros, or in its head
abbrev pub CreateTorn : Geometry → Label → (size backup : ℕ) → (a b : Meaning) → Type 0
CreateTorn source l size backup a b = Torn (λ f. created_over source backup f) a b ⊎ FirstTorn source l size backup a b
