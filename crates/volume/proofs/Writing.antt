-- How a write ends.
use Rattle.std.proofs.Common.{◌≡◌, ℕ, ◌+◌, ◌<◌, ◌≤◌, Bool, true, List, [], ◌∷◌, Some, None, Ok, Err, Option, Result, inl, inr, refl, sym, ap, ◌∙◌, subst, rules, arith}
use Rattle.answer.specs.declared.Fault.{Fault}
use Rattle.answer.specs.declared.Operation.{Operation}
use Rattle.answer.specs.declared.Operation.TheVariants.{Read as Reads}
use Rattle.answer.specs.declared.Refusal.{Refusal}
use Rattle.answer.specs.declared.Refused.{Refused}
use Rattle.layout.specs.Geometry.{Geometry}
use Rattle.layout.specs.declared.label.Label.{Label}
use Rattle.overlap.specs.declared.walk.Home.{Home}
use Rattle.overlap.specs.declared.walk.Home.TheVariants.{Source, Target, Backup}
use Rattle.head.specs.Checkpoints.{Next}
use Rattle.head.specs.declared.TheConstants.{MOST_NUMBER}
use Rattle.head.specs.declared.state.Head.{Head}
use Rattle.shelf.specs.Meaning.{Meaning}
use Rattle.model.specs.Answers.{InCall, known_left}
use Rattle.model.specs.Effects.{WriteParts, known_after}
use Rattle.model.specs.Handed.Handed.{Nothing}
use Rattle.model.specs.Crew.{Crew, enough}
use Rattle.model.specs.Ends.{GoesOn, Met}
use Rattle.model.specs.Faults.{OnHeads}
use Rattle.model.specs.Images.{logged}
use Rattle.model.specs.May.{May}
use Rattle.model.specs.Reading.{home_by, parity_at}
use Rattle.model.specs.Steps.{Passed}
use Rattle.model.specs.Steps.Part.{Checkpoint}
use Rattle.model.specs.declared.request.Request.TheVariants.{Write}
use Rattle.stage.specs.Arrays.{crew_of}
use Rattle.stage.specs.Endings.{Carries, OnMember, only_writes}
use Rattle.stage.specs.Looks.{HomeHas, OnBody, ShowsParity}
use Rattle.stage.specs.Places.{HasHome, InHome, home_step}
use Rattle.stage.specs.declared.array.Array.{Array}
use Rattle.model.proofs.Seeing.{OfCurrent, seen, seen_until}
use Rattle.stage.proofs.Endings.{member_as, member_same, on_body}
use Rattle.stage.proofs.Loops.{goes_then, was_present}
use Rattle.volume.specs.declared.Volume.{Volume}
use Rattle.volume.specs.Volumes.{Alike, CallCame, Carried, CheckpointOf, PartsEnd, StaysOn, known, places_parts, write_parts}
use Rattle.volume.proofs.Carrying.{anything, checkpoint_last, checkpoint_then, parts_may, plain_then}
use Rattle.volume.proofs.Coming.{torn_at}
use Rattle.volume.proofs.Ending.{checkpoint_met, heads_on_member}
use Rattle.volume.proofs.Looking.{in_call, met_as, operates_writes}

-- the volume on another state of its shelf
abbrev pub onto : {S L : Type 0} → Volume S L → S → Volume S L
onto v shelf = record { shelf = shelf; array = v.array; hand = v.hand }

pub alike_on : {S L : Type 0} (mean : S → Meaning) (v : Volume S L) (shelf : S) {P : ℕ → ℕ → List ℕ → Type 0} → May P (mean v.shelf) (mean shelf) → Alike mean v (onto v shelf)
alike_on mean v shelf m = record {
  source = refl;
  target = refl;
  phase = refl;
  hand = refl;
  progress = refl;
  size = refl;
  backup = refl;
  members = m.members;
  sectors = m.sectors;
}

pub alike_then : {S L : Type 0} (mean : S → Meaning) (u v w : Volume S L) → Alike mean u v → Alike mean v w → Alike mean u w
alike_then mean u v w a b = record {
  source = b.source ∙ a.source;
  target = b.target ∙ a.target;
  phase = b.phase ∙ a.phase;
  hand = b.hand ∙ a.hand;
  progress = b.progress ∙ a.progress;
  size = b.size ∙ a.size;
  backup = b.backup ∙ a.backup;
  members = b.members ∙ a.members;
  sectors = b.sectors ∙ a.sectors;
}

-- a checkpoint that only arms or disarms
pub alike_by : {S L : Type 0} (mean : S → Meaning) (place : L → Geometry) (armed : Option ℕ) (v w : Volume S L) (x : Result Unit Refused)
    → CheckpointOf mean place v.array.head.source v.array.head.progress armed v w x → Alike mean v w
alike_by mean place armed v w (Ok x) c = record {
  source = c.source;
  target = c.target;
  phase = c.phase;
  hand = c.hand;
  progress = c.stage.0.progress;
  size = c.stage.0.size;
  backup = c.stage.0.backup;
  members = c.stage.1.may.members;
  sectors = c.stage.1.may.sectors;
}
alike_by mean place armed v w (Err e) c = record {
  source = c.source;
  target = c.target;
  phase = c.phase;
  hand = c.hand;
  progress = ap (λ h. h.progress) c.stage.0;
  size = ap (λ h. h.size) c.stage.0;
  backup = ap (λ h. h.backup) c.stage.0;
  members = elim c.stage.1 [ inl spent ↦ ap (λ a. a.members) spent.same | inr m ↦ m.torn.members ];
  sectors = elim c.stage.1 [ inl spent ↦ ap (λ a. a.sectors) spent.same | inr m ↦ m.torn.sectors ];
}

-- its layouts and phase are the same
pub same_crew : {L : Type 0} (place : L → Geometry) (x y : Array L) → y.source ≡ x.source → y.target ≡ x.target → y.phase ≡ x.phase → crew_of place y ≡ crew_of place x
same_crew place x y source target phase = cc

-- met in a later stage
pub met_later : {w : Crew} {does : Operation → Bool} {P : ℕ → ℕ → List ℕ → Type 0} {a b c : Meaning} → May P a b
    → (F : Fault → Type 0) → ((f : Fault) → F f → OnMember does b f) → (e : Refused) → Met w F c e → Met w (OnMember does a) c e
met_later {w} {does} {P} {a} {b} {c} m F names e met = met_as F (OnMember does a) (λ f n. member_same m f (names f n)) e met

-- what is known of a volume that is alike
pub alike_known : {S L : Type 0} (mean : S → Meaning) (place : L → Geometry) (i : ℕ) (x : List ℕ) (v w : Volume S L) → Alike mean v w
    → known place w ≡ known_left (Write i x) (known place v) w.array.head
alike_known mean place i x v w a = search rules

pub alike_after : {S L : Type 0} (mean : S → Meaning) (place : L → Geometry) (i : ℕ) (x : List ℕ) (v w : Volume S L) → Alike mean v w
    → known place w ≡ known_after (Write i x) (known place v) w.array.head
alike_after mean place i x v w a = search rules

-- the parts from the places on are those of a volume that is alike
places_alike : {S L : Type 0} (mean : S → Meaning) (place : L → Geometry) (i : ℕ) (x y : List ℕ) (v m : Volume S L) → Alike mean v m → m.array.head.source ≡ v.array.head.source
    → places_parts place m.array i x y ≡ places_parts place v.array i x y
places_alike mean place i x y v m alike source = search rules

-- the log was written, a head was armed, and the rest ended so
written_from : {S L : Type 0} (mean : S → Meaning) (place : L → Geometry) (i : ℕ) (x y : List ℕ) (v m : Volume S L) (before : S) (k : Head) (b : Meaning)
    → Passed (crew_of place v.array) (logged x y) (mean v.shelf) (mean before) → CheckpointOf mean place v.array.head.source v.array.head.progress (Some i) (onto v before) m (Ok tt)
    → (r : Result Unit Refused) → PartsEnd (crew_of place m.array) (places_parts place m.array i x y) m.array.head (mean m.shelf) k b r
    → PartsEnd (crew_of place v.array) (write_parts place v.array i x y) v.array.head (mean v.shelf) k b r
written_from mean place i x y v m before k b log arms r rest =
    let alike = alike_by mean place (Some i) (onto v before) m (Ok tt) arms in
    plain_then (Checkpoint v.array.head.source v.array.head.progress (Some i) ∷ places_parts place v.array i x y) v.array.head k (mean v.shelf) (mean before) b log r
    (checkpoint_then (places_parts place v.array i x y) v.array.head m.array.head k (mean before) (mean m.shelf) b arms.stage arms.fits r
    (subst (λ ps. PartsEnd (crew_of place v.array) ps m.array.head (mean m.shelf) k b r) (places_alike mean place i x y (onto v before) m alike arms.stage.0.source)
    (subst (λ w. PartsEnd w (places_parts place m.array i x y) m.array.head (mean m.shelf) k b r) (same_crew place v.array m.array arms.source arms.target arms.phase) rest)))

-- the home of a sector is the same once the head was armed
pub armed_home : {S L : Type 0} (mean : S → Meaning) (place : L → Geometry) (i : ℕ) (v m : Volume S L) (before : S)
    → CheckpointOf mean place v.array.head.source v.array.head.progress (Some i) (onto v before) m (Ok tt) → HasHome place v.array i → HasHome place m.array i
armed_home mean place i v m before arms has =
    let same = alike_known mean place i [] (onto v before) m (alike_by mean place (Some i) (onto v before) m (Ok tt) arms) in
    subst (λ u. InHome (home_by u i) u.crew.source u.crew.target i) (sym same) has

-- met at the checkpoint that arms
pub arm_met : {S L : Type 0} (mean : S → Meaning) (place : L → Geometry) (i : ℕ) (x y : List ℕ) (v w : Volume S L) (shelf : S) (e : Refused)
    → v.array.head.number + 2 ≤ MOST_NUMBER → Passed (crew_of place v.array) (logged x y) (mean v.shelf) (mean shelf)
    → CheckpointOf mean place v.array.head.source v.array.head.progress (Some i) (onto v shelf) w (Err e) → Carried mean place i x y v w (Err e)
arm_met mean place i x y v w shelf e left log c = (
  inl c.stage.0,
  met_later log.may (OnHeads (mean shelf)) (heads_on_member refl refl (mean shelf)) e (checkpoint_met e (omega (arith, left)) c.stage),
  inr (mean shelf, log, torn_at (places_parts place v.array i x y) e (omega (arith, left)) c.stage),
)

-- armed, and met while the places were written
pub apply_met : {S L : Type 0} (mean : S → Meaning) (place : L → Geometry) (i : ℕ) (x y : List ℕ) (v m : Volume S L) (before after : S) (e : Refused)
    → Passed (crew_of place v.array) (logged x y) (mean v.shelf) (mean before) → CheckpointOf mean place v.array.head.source v.array.head.progress (Some i) (onto v before) m (Ok tt)
    → Carries (crew_of place m.array) only_writes (home_step place m.array i x y) (mean m.shelf) (mean after) (Err e) → Carried mean place i x y v (onto m after) (Err e)
apply_met mean place i x y v m before after e log c s = (
  inr c.stage.0,
  subst (λ w. Met w (OnMember only_writes (mean v.shelf)) (mean after) e) (same_crew place v.array m.array c.source c.target c.phase)
      (met_later log.may (OnMember only_writes (mean m.shelf)) (λ f n. member_same c.stage.1.may f n) e s.1),
  written_from mean place i x y v m before m.array.head (mean after) log c (Err e) (inl s.0),
)

-- power and members were enough through the log, the checkpoint that arms, the places and the one that disarms
stays_through : {S L : Type 0} (mean : S → Meaning) (place : L → Geometry) (i : ℕ) (v m w : Volume S L) (before after : S)
    → GoesOn (crew_of place v.array) (mean v.shelf) (mean before) → CheckpointOf mean place v.array.head.source v.array.head.progress (Some i) (onto v before) m (Ok tt)
    → GoesOn (crew_of place m.array) (mean m.shelf) (mean after) → CheckpointOf mean place m.array.head.source m.array.head.progress None (onto m after) w (Ok tt)
    → StaysOn mean place v w
stays_through mean place i v m w before after logged arms placed disarms =
    goes_then logged (goes_then arms.stage.1.goes
    (subst (λ y. GoesOn y (mean m.shelf) (mean w.shelf)) (same_crew place v.array m.array arms.source arms.target arms.phase) (goes_then placed disarms.stage.1.goes)))

-- the places were written, and the head disarmed, or this was met
placed_ends : {S L : Type 0} (mean : S → Meaning) (place : L → Geometry) (i : ℕ) (x y : List ℕ) (m w : Volume S L) (after : S) → m.array.head.number < MOST_NUMBER
    → Passed (crew_of place m.array) (home_step place m.array i x y) (mean m.shelf) (mean after) → (r : Result Unit Refused)
    → CheckpointOf mean place m.array.head.source m.array.head.progress None (onto m after) w r
    → PartsEnd (crew_of place m.array) (places_parts place m.array i x y) m.array.head (mean m.shelf) w.array.head (mean w.shelf) r
placed_ends mean place i x y m w after left placed r c =
    plain_then (Checkpoint m.array.head.source m.array.head.progress None ∷ []) m.array.head w.array.head (mean m.shelf) (mean after) (mean w.shelf) placed r
    (checkpoint_last (crew_of place m.array) m.array.head.source m.array.head.progress None m.array.head w.array.head (mean after) (mean w.shelf) left r c.stage c.fits)

-- disarmed, or met there
pub disarm_ends : {S L : Type 0} (mean : S → Meaning) (place : L → Geometry) (i : ℕ) (x y : List ℕ) (v m w : Volume S L) (before after : S)
    → v.array.head.number + 2 ≤ MOST_NUMBER → Passed (crew_of place v.array) (logged x y) (mean v.shelf) (mean before)
    → CheckpointOf mean place v.array.head.source v.array.head.progress (Some i) (onto v before) m (Ok tt)
    → Passed (crew_of place m.array) (home_step place m.array i x y) (mean m.shelf) (mean after)
    → (r : Result Unit Refused) → CheckpointOf mean place m.array.head.source m.array.head.progress None (onto m after) w r → Carried mean place i x y v w r
disarm_ends mean place i x y v m w before after left log arms placed (Ok u) c =
    let number = arms.stage.0.number in (
      record {
        armed = m.array.head;
        arms = arms.stage.0;
        fits = arms.fits;
        disarms = record {
          left = c.stage.0.left;
          number = c.stage.0.number;
          source = c.stage.0.source ∙ arms.stage.0.source;
          progress = c.stage.0.progress ∙ arms.stage.0.progress;
          size = c.stage.0.size;
          backup = c.stage.0.backup;
          armed = c.stage.0.armed;
        };
      },
      stays_through mean place i v m w before after log.goes arms placed.goes c,
      written_from mean place i x y v m before w.array.head (mean w.shelf) log arms (Ok u) (placed_ends mean place i x y m w after (omega (arith, left, number)) placed (Ok u) c),
    )
disarm_ends mean place i x y v m w before after left log arms placed (Err e) c =
    let number = arms.stage.0.number in (
      inr (subst (λ k. Next v.array.head v.array.head.source v.array.head.progress (Some i) k) (sym c.stage.0) arms.stage.0),
      subst (λ y. Met y (OnMember only_writes (mean v.shelf)) (mean w.shelf) e) (same_crew place v.array m.array arms.source arms.target arms.phase)
          (met_later log.may (OnMember only_writes (mean before)) (λ f n. n) e
          (met_later arms.stage.1.may (OnMember only_writes (mean m.shelf)) (λ f n. n) e
          (met_later placed.may (OnHeads (mean after)) (heads_on_member refl refl (mean after)) e (checkpoint_met e (omega (arith, left, number)) c.stage)))),
      written_from mean place i x y v m before w.array.head (mean w.shelf) log arms (Err e) (placed_ends mean place i x y m w after (omega (arith, left, number)) placed (Err e) c),
    )

-- what only writes is an operation of a write
of_write : (i : ℕ) (x : List ℕ) (a : Meaning) (f : Fault) → OnMember only_writes a f → InCall (Write i x) None a f
of_write i x a f n = in_call (Write i x) a f (member_as (operates_writes (Write i x) refl refl) a f n)

-- met while it looked
pub parity_met : (h : Home) (w : Crew) (s t : Geometry) (backup i : ℕ) (x : List ℕ) (a b : Meaning) (e : Refused) → ShowsParity h w s t backup i x a b (Err e)
    → Met w (InCall (Write i x) None a) b e
parity_met h w s t backup i x a b e shows =
    met_as (OnBody Reads backup a) (InCall (Write i x) None a) (λ f n. in_call (Write i x) a f (on_body Reads refl backup a f n)) e shows.1

-- a home that can be read has the sector
pub in_home : (h : Home) (w : Crew) (s t : Geometry) (backup i : ℕ) (a : Meaning) → HomeHas h w s t backup i a → InHome h s t i
in_home Source w s t backup i a has = has.below
in_home Target w s t backup i a has = has.below
in_home Backup w s t backup i a has = tt

-- the parity of a sector's group
parity_of : (h : Home) (s t : Geometry) (backup i : ℕ) (x : List ℕ) → OfCurrent (λ m. parity_at h s t m backup i x)
parity_of Source s t backup i x = record { same = λ m. refl }
parity_of Target s t backup i x = record { same = λ m. refl }
parity_of Backup s t backup i x = record { same = λ m. refl }

-- the parts of a write, with the parity that its look gave: it was seen until the parts had ended
write_parts_made : {S L : Type 0} (mean : S → Meaning) (place : L → Geometry) (i : ℕ) (x y : List ℕ) (v w : Volume S L) (shelf : S) → enough (crew_of place v.array) (mean v.shelf) ≡ true
    → (let u = known place v in ShowsParity (home_by u i) u.crew u.crew.source u.crew.target u.backup i x (mean v.shelf) (mean shelf) (Ok y)) → May anything (mean shelf) (mean w.shelf)
    → WriteParts i x (known place v) v.array.head (mean v.shelf) (mean w.shelf) (write_parts place v.array i x y)
write_parts_made mean place i x y v w shelf here shown may =
    let u = known place v in
    let f : Meaning → List ℕ = λ m. parity_at (home_by u i) u.crew.source u.crew.target m u.backup i x in
    record {
      parity = y;
      made = seen_until u.crew f y (was_present may) (seen u.crew f y (parity_of (home_by u i) u.crew.source u.crew.target u.backup i x) here (record { may = shown.0; goes = shown.1 }) shown.2);
      parts = refl;
    }

-- carried out after a look
pub write_ends : {S L : Type 0} (mean : S → Meaning) (place : L → Geometry) (name : L → Label) (verdict : Option Refusal) (same : Type 0) (i : ℕ) (x y : List ℕ) (v w : Volume S L) (shelf : S)
    → verdict ≡ None → enough (crew_of place v.array) (mean v.shelf) ≡ true
    → (let u = known place v in ShowsParity (home_by u i) u.crew u.crew.source u.crew.target u.backup i x (mean v.shelf) (mean shelf) (Ok y)) → Alike mean (onto v shelf) w
    → (r : Result Unit Refused) → Carried mean place i x y (onto v shelf) w r
    → CallCame mean place name verdict (λ u. Nothing) (Write i x) same v w r
write_ends mean place name verdict same i x y v w shelf none here shown alike (Ok u) c = (
  record { by = none; goes = goes_then shown.1 c.1; head = c.0; known = alike_after mean place i x (onto v shelf) w alike; out = refl },
  record {
    mid = mean shelf;
    looked = record { may = shown.0; goes = shown.1 };
    list = write_parts place v.array i x y;
    parts = write_parts_made mean place i x y v w shelf here shown (parts_may (crew_of place v.array) (write_parts place v.array i x y) v.array.head w.array.head (mean shelf) (mean w.shelf) (Ok u) c.2);
    through = c.2;
  },
)
write_ends mean place name verdict same i x y v w shelf none here shown alike (Err e) c = inr (
  record {
    by = none;
    met = met_as (OnMember only_writes (mean shelf)) (InCall (Write i x) None (mean v.shelf)) (λ f n. of_write i x (mean v.shelf) f (member_same shown.0 f n)) e c.1;
    head = c.0;
    known = alike_known mean place i x (onto v shelf) w alike;
  },
  inr (record {
    mid = mean shelf;
    looked = record { may = shown.0; goes = shown.1 };
    list = write_parts place v.array i x y;
    parts = write_parts_made mean place i x y v w shelf here shown (parts_may (crew_of place v.array) (write_parts place v.array i x y) v.array.head w.array.head (mean shelf) (mean w.shelf) (Err e) c.2);
    torn = c.2;
  }),
)
