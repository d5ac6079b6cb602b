-- How each call ends, both ways. A refusal without a fault is the verdict's, and leaves all as it was; where the verdict is none, the call is done, or
-- it met power or members lacking at an operation of its own.
use Rattle.std.specs.Prelude.{◌≡◌, ℕ, Bool, true, false, ◌⊎◌, Some, None, Ok, Err, Option, Result}
use Rattle.answer.specs.declared.Fault.{Fault}
use Rattle.answer.specs.declared.Operation.{Operation}
use Rattle.answer.specs.declared.Operation.TheVariants.{Restart, Read as Reads}
use Rattle.answer.specs.declared.Refusal.{Refusal}
use Rattle.answer.specs.declared.Refused.{Refused}
use Rattle.layout.specs.Geometry.{Geometry}
use Rattle.layout.specs.declared.label.Label.{Label}
use Rattle.overlap.specs.Needs.{distance_of}
use Rattle.shelf.specs.Meaning.{Meaning}
use Rattle.head.specs.Checkpoints.{Next}
use Rattle.head.specs.declared.state.Head.{Head}
use Rattle.model.specs.Crew.{crew}
use Rattle.model.specs.Ends.{GoesOn, Met}
use Rattle.model.specs.Faults.{NamesSector}
use Rattle.model.specs.declared.phase.Phase.TheVariants.{Before, Shut}
use Rattle.model.specs.declared.request.Request.{Request}
use Rattle.model.specs.declared.request.Request.TheVariants.{Read, Write, Begin, Keep, Copy, Settle, HandBack, Finish, Open}
use Rattle.model.specs.Effects.{CreateTorn, CreatedBy, DoneBy, First, HeadAfter, MetBy, known_after}
use Rattle.model.specs.Handed.{Handed}
use Rattle.model.specs.Handed.Handed.{Nothing, Buffer, Distance, Row, Counts}
use Rattle.model.specs.Knowing.{Volume, volume}
use Rattle.model.specs.Opening.{GoesDark, Searched, StaysOff, open_verdict}
use Rattle.model.specs.Reading.{content_of}
use Rattle.model.specs.Reopening.{Disarmed, OpenTorn, OpensTo, TakenUp, opened_crew, opened_volume}
use Rattle.model.specs.Steps.{SeenBy}
use Rattle.model.specs.Verdicts.{create_verdict, emptied, shut_for}

-- what a granted call other than a read hands out: an overlap distance, a grant of a row, the settled and the kept rows, or nothing of these
abbrev pub handed_out : Request → Volume → Handed
handed_out Begin v = Distance (distance_of v.crew.source v.crew.target v.size)
handed_out Copy v = Row v.settled
handed_out Finish v = Counts v.crew.target.rows v.kept
handed_out r v = Nothing

-- A read hands out its buffer, with what was seen of the sector.
abbrev pub HandsOver : Request → Volume → (a b : Meaning) → Handed → Type 0
HandsOver (Read i) v a b (Buffer x) = SeenBy v.crew a b (λ m. content_of v m i) x
HandsOver (Read i) v a b hands = ⊥
HandsOver r v a b hands = hands ≡ handed_out r v

-- the row that a call is about
abbrev pub row_about : Request → Volume → Option ℕ
row_about Keep v = Some v.kept
row_about Copy v = Some v.settled
row_about (Settle row) v = Some v.settled
row_about r v = None

-- The operations of a call once its verdict is told. A read only reads, a call that is one checkpoint reads nothing, and none restarts: open does so before.
abbrev pub operates : Request → Operation → Bool
operates (Read i) Reads = true
operates (Read i) o = false
operates (HandBack row) o = false
operates r Restart = false
operates Begin Reads = false
operates (Settle row) Reads = false
operates Finish Reads = false
operates r o = true

-- an operation of a call, with the row that it is about, on a member that was there and a sector that it has
pub record InCall (r : Request) (about : Option ℕ) (a : Meaning) (f : Fault) : Type 0 where
  pub operation : operates r f.operation ≡ true
  pub there : a.present f.member ≡ true
  pub sector : NamesSector f.operation f.sector a
  pub row : f.row ≡ about

-- refused before the first operation, by the verdict
pub record TurnedAway (verdict : Option Refusal) (unchanged : Type 0) (e : Refused) : Type 0 where
  pub by : verdict ≡ Some e.refusal
  pub fault : e.fault ≡ None
  pub same : unchanged

-- a call that was not done empties a hand that its grant matches
abbrev pub hand_left : Request → Option ℕ → Option ℕ
hand_left (Settle row) hand = emptied hand row
hand_left (HandBack row) hand = emptied hand row
hand_left r hand = hand

-- the volume after a call that was not done
abbrev pub known_left : Request → Volume → Head → Volume
known_left r v k = record { crew = v.crew; number = k.number; size = v.size; backup = v.backup; settled = v.settled; kept = v.kept; hand = hand_left r v.hand }

-- The last head after a call that was met: the one before it, or the one that a write was armed by.
abbrev pub HeadLeft : Request → Head → Head → Type 0
HeadLeft (Write i x) h k = (k ≡ h) ⊎ Next h h.source h.progress (Some i) k
HeadLeft Open h k = ⊥
HeadLeft r h k = k ≡ h

-- Done, told without the sectors: the verdict is none, power and members were enough to the end, the head is the next one, and so is what the volume knows
-- and hands out.
pub record GrantedBy (verdict : Option Refusal) (r : Request) (l : Label) (v : Volume) (h : Head) (a : Meaning) (u : Volume) (k : Head) (b : Meaning) (hands : Handed) : Type 0 where
  pub by : verdict ≡ None
  pub goes : GoesOn v.crew a b
  pub head : HeadAfter r v l h k
  pub known : u ≡ known_after r v k
  pub out : HandsOver r v a b hands

-- met, told without the sectors: power or members lack on the shelf, at an operation of the call
pub record MetAt (verdict : Option Refusal) (r : Request) (v : Volume) (h : Head) (a : Meaning) (u : Volume) (k : Head) (b : Meaning) (e : Refused) : Type 0 where
  pub by : verdict ≡ None
  pub met : Met v.crew (InCall r (row_about r v) a) b e
  pub head : HeadLeft r h k
  pub known : u ≡ known_left r v k

-- A call of a volume v with last head h on a shelf a ends with this answer, and with u, k and b. `same` says that all is as it was but for a hand that
-- the grant matches, `out` what an answer hands out.
abbrev pub Ended : {A : Type 0} → Option Refusal → (same : Type 0) → (out : A → Handed) → Request → Label
    → (v : Volume) → (h : Head) → (a : Meaning) → (u : Volume) → (k : Head) → (b : Meaning) → Result A Refused → Type 0
Ended verdict same out r l v h a u k b (Ok x) = GrantedBy verdict r l v h a u k b (out x)
Ended verdict same out r l v h a u k b (Err e) = TurnedAway verdict same e ⊎ MetAt verdict r v h a u k b e

-- the same with the sectors
abbrev pub Came : {A : Type 0} → Option Refusal → (same : Type 0) → (out : A → Handed) → Request → Label
    → (v : Volume) → (h : Head) → (a : Meaning) → (u : Volume) → (k : Head) → (b : Meaning) → Result A Refused → Type 0
Came verdict same out r l v h a u k b (Ok x) = GrantedBy verdict r l v h a u k b (out x) × DoneBy r v l h a b k
Came verdict same out r l v h a u k b (Err e) = TurnedAway verdict same e ⊎ (MetAt verdict r v h a u k b e × MetBy r v l h a b)

-- a create or an open that was refused leaves a volume that is shut
pub record ShutFor (s t : Geometry) (e : Refused) (u : Volume) : Type 0 where
  pub crew : u.crew ≡ crew (Shut (shut_for e.refusal)) s t
  pub hand : u.hand ≡ None

-- done: the first head stands, and power and members were enough to the end
pub record CreateGranted (verdict : Option Refusal) (l : Label) (s t : Geometry) (size backup : ℕ) (a : Meaning) (u : Volume) (k : Head) (b : Meaning) : Type 0 where
  pub by : verdict ≡ None
  pub goes : GoesOn (crew Before s t) a b
  pub first : First l size backup k
  pub known : u ≡ volume Before s t k None

-- met at a write or a flush, which are the operations of a begin
pub record CreateMet (verdict : Option Refusal) (s t : Geometry) (a b : Meaning) (e : Refused) : Type 0 where
  pub by : verdict ≡ None
  pub met : Met (crew Before s t) (InCall Begin None a) b e

-- a create of a volume of this size, with these layouts and so many slots
abbrev pub CreateEnded : (same : Type 0) → Label → (s t : Geometry) → (size backup : ℕ) → (a : Meaning) → (u : Volume) → (k : Head) → (b : Meaning) → Result Unit Refused → Type 0
CreateEnded same l s t size backup a u k b (Ok x) = CreateGranted (create_verdict l s a backup size) l s t size backup a u k b
CreateEnded same l s t size backup a u k b (Err e) =
    ShutFor s t e u × (TurnedAway (create_verdict l s a backup size) same e ⊎ CreateMet (create_verdict l s a backup size) s t a b e)

abbrev pub CreateCame : (same : Type 0) → Label → (s t : Geometry) → (size backup : ℕ) → (a : Meaning) → (u : Volume) → (k : Head) → (b : Meaning) → Result Unit Refused → Type 0
CreateCame same l s t size backup a u k b (Ok x) = CreateGranted (create_verdict l s a backup size) l s t size backup a u k b × CreatedBy s l size backup a b k
CreateCame same l s t size backup a u k b (Err e) =
    ShutFor s t e u × (TurnedAway (create_verdict l s a backup size) same e ⊎ (CreateMet (create_verdict l s a backup size) s t a b e × CreateTorn s l size backup a b))

-- refused by what was found; nothing was written
pub record OpenRefused (sl tl : Label) (s t : Geometry) (a b : Meaning) (e : Refused) : Type 0 where
  pub found : Option Head
  pub mid : Meaning
  pub searched : Searched a mid found
  pub answer : TurnedAway (open_verdict found mid sl tl s t) (b ≡ mid) e

-- done: it went on from the head that was found, and power and members were enough to the end
pub record OpenGranted (sl tl : Label) (s t : Geometry) (a : Meaning) (u : Volume) (k : Head) (b : Meaning) : Type 0 where
  pub head : Head
  pub mid : Meaning
  pub taken : TakenUp sl tl s t a mid head
  pub goes : GoesOn (opened_crew s t head) mid b
  pub last : Disarmed head.armed head k
  pub known : u ≡ opened_volume s t k

-- Met after the verdict, which was told on what was found. An open may read then, as one that redoes a write does.
pub record OpenMet (sl tl : Label) (s t : Geometry) (a b : Meaning) (e : Refused) : Type 0 where
  pub head : Head
  pub mid : Meaning
  pub taken : TakenUp sl tl s t a mid head
  pub met : Met (opened_crew s t head) (InCall Open None mid) b e

abbrev pub OpenEnded : (sl tl : Label) → (s t : Geometry) → (a : Meaning) → (u : Volume) → (k : Head) → (b : Meaning) → Result Unit Refused → Type 0
OpenEnded sl tl s t a u k b (Ok x) = OpenGranted sl tl s t a u k b
OpenEnded sl tl s t a u k b (Err e) = ShutFor s t e u × (StaysOff a b e ⊎ (GoesDark a b e ⊎ (OpenRefused sl tl s t a b e ⊎ OpenMet sl tl s t a b e)))

-- the same with the sectors
pub record OpenDone (sl tl : Label) (s t : Geometry) (a : Meaning) (u : Volume) (k : Head) (b : Meaning) : Type 0 where
  pub head : Head
  pub opens : OpensTo sl tl s t a b head k
  pub known : u ≡ opened_volume s t k

pub record OpenCut (sl tl : Label) (s t : Geometry) (a b : Meaning) (e : Refused) : Type 0 where
  pub head : Head
  pub torn : OpenTorn sl tl s t a b head
  pub met : Met (opened_crew s t head) (InCall Open None torn.mid) b e

abbrev pub OpenCame : (sl tl : Label) → (s t : Geometry) → (a : Meaning) → (u : Volume) → (k : Head) → (b : Meaning) → Result Unit Refused → Type 0
OpenCame sl tl s t a u k b (Ok x) = OpenDone sl tl s t a u k b
OpenCame sl tl s t a u k b (Err e) = ShutFor s t e u × (StaysOff a b e ⊎ (GoesDark a b e ⊎ (OpenRefused sl tl s t a b e ⊎ OpenCut sl tl s t a b e)))
