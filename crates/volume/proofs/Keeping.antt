-- How a keep and a copy end.
use Rattle.std.proofs.Common.{◌≡◌, ℕ, ◌+◌, ◌<◌, List, true, false, Some, None, Ok, Err, Option, Result, inr, refl, sym, ap, ◌∙◌, subst, rules}
use Rattle.std.proofs.lemmas.Bool.{both_ways}
use Rattle.std.specs.Result.{is_ok}
use Rattle.answer.specs.Faults.{fault_in_row}
use Rattle.answer.specs.declared.Fault.{Fault}
use Rattle.answer.specs.declared.Operation.{Operation}
use Rattle.answer.specs.declared.Refusal.{Refusal}
use Rattle.answer.specs.declared.Refused.{Refused}
use Rattle.layout.specs.Geometry.{Geometry}
use Rattle.layout.specs.declared.label.Label.{Label}
use Rattle.head.specs.Heads.{kept_rows, settled_rows}
use Rattle.head.specs.declared.TheConstants.{MOST_NUMBER}
use Rattle.head.specs.declared.state.Progress.TheVariants.{Moving}
use Rattle.shelf.specs.Meaning.{Meaning}
use Rattle.model.specs.Answers.{InCall, operates}
use Rattle.model.specs.Crew.{Crew, enough}
use Rattle.model.specs.Ends.{GoesOn, Met}
use Rattle.model.specs.Faults.{OnHeads}
use Rattle.model.specs.Handed.Handed.{Nothing}
use Rattle.model.specs.declared.request.Request.{Request}
use Rattle.model.specs.declared.request.Request.TheVariants.{Copy, Keep}
use Rattle.stage.specs.Arrays.{crew_of}
use Rattle.stage.specs.Endings.{HasVolume, OnMember, StageEnds, reads_and_writes}
use Rattle.stage.proofs.Endings.{Going, member_as}
use Rattle.stage.proofs.Loops.{goes_then}
use Rattle.volume.specs.declared.Volume.{Volume}
use Rattle.volume.specs.Volumes.{CallCame, CheckpointOf, Housed, KeepEnds, known, rowed}
use Rattle.volume.proofs.Ending.{checkpoint_met, heads_on_member, met_rowed}
use Rattle.volume.proofs.Housing.{home_has}
use Rattle.volume.proofs.Looking.{in_call_of_row, operates_all}
use Rattle.volume.proofs.Slots.{Slotted, keep_done, keep_torn}
use Rattle.volume.proofs.Writing.{met_later, onto}

pub has_volume : {S L : Type 0} (mean : S → Meaning) (place : L → Geometry) (v : Volume S L) → Housed (known place v) (mean v.shelf) → enough (known place v).crew (mean v.shelf) ≡ true
    → HasVolume place v.array (mean v.shelf)
has_volume mean place v housed here = record { each = λ i below. home_has (known place v) (mean v.shelf) i housed here below }

-- the slots were written, and then a checkpoint
pub keep_by : {S L : Type 0} (mean : S → Meaning) (place : L → Geometry) (name : L → Label) (v w : Volume S L) (shelf : S) {P : ℕ → ℕ → List ℕ → Type 0}
    → v.array.head.number < MOST_NUMBER → Going (crew_of place v.array) P (mean v.shelf) (mean shelf) → Slotted (known place v) (mean v.shelf) (mean shelf) → (x : Result Unit Refused)
    → CheckpointOf mean place v.array.head.source (Moving (name v.array.target) (settled_rows v.array.head.progress) (kept_rows v.array.head.progress + 1)) None (onto v shelf) w x
    → KeepEnds mean place name v w x
keep_by mean place name v w shelf left saved slots (Ok x) c = (
  c.stage.0,
  goes_then saved.goes c.stage.1.goes,
  search rules,
  keep_done (name v.array.target) v.array.head w.array.head (mean w.shelf) slots c.stage c.fits,
)
keep_by mean place name v w shelf left saved slots (Err e) c = (
  c.stage.0,
  met_later saved.may (OnHeads (mean shelf)) (heads_on_member refl refl (mean shelf)) e (checkpoint_met e left c.stage),
  search rules,
  keep_torn (name v.array.target) v.array.head w.array.head (mean w.shelf) e slots left c.stage,
)

-- an operation of a keep or a copy, with its row
in_row_of : (r : Request) → ((o : Operation) → reads_and_writes o ≡ true → operates r o ≡ true) → (row : ℕ) (a : Meaning) (f : Fault) → OnMember reads_and_writes a f
    → InCall r (Some row) a (fault_in_row row f)
in_row_of r all row a f n = in_call_of_row r row a f (member_as all a f n)

keep_rowed : {S L : Type 0} (mean : S → Meaning) (place : L → Geometry) (name : L → Label) (verdict : Option Refusal) (same : Type 0) (v w : Volume S L)
    → verdict ≡ None → (x : Result Unit Refused) → KeepEnds mean place name v w x
    → CallCame mean place name verdict (λ u. Nothing) Keep same v w (rowed (kept_rows v.array.head.progress) x)
keep_rowed mean place name verdict same v w none (Ok x) k = (record { by = none; goes = k.1; head = k.0; known = k.2; out = refl }, k.3)
keep_rowed mean place name verdict same v w none (Err e) k = inr (
  record {
    by = none;
    met = met_rowed (kept_rows v.array.head.progress) (OnMember reads_and_writes (mean v.shelf)) (InCall Keep (Some (kept_rows v.array.head.progress)) (mean v.shelf))
        (in_row_of Keep (operates_all Keep refl refl refl) (kept_rows v.array.head.progress) (mean v.shelf)) e k.1;
    head = k.0;
    known = k.2 ∙ search rules;
  },
  k.3,
)

pub keep_ends : {S L : Type 0} (mean : S → Meaning) (place : L → Geometry) (name : L → Label) (verdict : Option Refusal) (same : Type 0) (v w : Volume S L)
    → verdict ≡ None → (x : Result Unit Refused) → KeepEnds mean place name v w x → (about : ℕ) → about ≡ kept_rows v.array.head.progress → (r : Result Unit Refused) → r ≡ rowed about x
    → CallCame mean place name verdict (λ u. Nothing) Keep same v w r
keep_ends mean place name verdict same v w none x k about is r e =
    subst (λ y. CallCame mean place name verdict (λ u. Nothing) Keep same v w y) (sym (e ∙ ap (λ y. rowed y x) is)) (keep_rowed mean place name verdict same v w none x k)

abbrev err_or : Refused → Result Unit Refused → Refused
err_or d (Ok u) = d
err_or d (Err e) = e

-- a row that was not placed was met
pub copy_met : (w : Crew) (P : ℕ → ℕ → List ℕ → Type 0) (a b : Meaning) (row : ℕ) (x : Result Unit Refused) → StageEnds w reads_and_writes P a b x
    → (e : Refused) → Err e ≡ rowed row x → Met w (InCall Copy (Some row) a) b e
copy_met w P a b row (Ok u) s e is = absurd (both_ways false refl (ap is_ok is))
copy_met w P a b row (Err d) s e is =
    subst (λ y. Met w (InCall Copy (Some row) a) b y) (sym (ap (err_or d) is))
    (met_rowed row (OnMember reads_and_writes a) (InCall Copy (Some row) a) (in_row_of Copy (operates_all Copy refl refl refl) row a) d s.1)

-- one that was placed was not
pub copy_goes : (w : Crew) (P : ℕ → ℕ → List ℕ → Type 0) (a b : Meaning) (row : ℕ) (x : Result Unit Refused) → StageEnds w reads_and_writes P a b x
    → Ok tt ≡ rowed row x → GoesOn w a b
copy_goes w P a b row (Ok u) s is = s.1
copy_goes w P a b row (Err d) s is = absurd (both_ways true (ap is_ok is) refl)
