-- What a call answers before its first operation: the first of its refusals that applies, in the order in which they are told.
use Rattle.std.specs.Prelude.{◌≡◌, ℕ, ◌+◌, ◌-◌, ◌*◌, ◌/◌, Bool, true, false, cond, not, ◌&&◌, List, [], ◌∷◌, Some, None, Ok, Err, Option, Result, ◌==◌, nat_le, nat_lt}
use Rattle.sector.specs.declared.TheConstants.{SECTOR}
use Rattle.sector.specs.declared.limits.TheConstants.{FEWEST_MEMBERS, MOST_MEMBERS}
use Rattle.answer.specs.declared.Refusal.{Refusal}
use Rattle.answer.specs.declared.Refused.{Refused}
use Rattle.answer.specs.declared.Refusal.TheVariants.{BufferLength, PastEnd, WrongPhase, RowInHand, NeedNotKept, BackupFull, AllKept, RowsLeft, AllSettled, DistanceAboveBackup, OutOfLimits, MembersLost, PowerLost, NumbersSpent, WrongGrant}
use Rattle.layout.specs.Geometry.{Geometry, capacity}
use Rattle.layout.specs.Labels.{true_label}
use Rattle.layout.specs.declared.label.Label.{Label}
use Rattle.overlap.specs.Homes.{window_of}
use Rattle.overlap.specs.Needs.{distance_of, need_of}
use Rattle.shelf.specs.Meaning.{Meaning}
use Rattle.model.specs.Crew.{borne, enough}
use Rattle.model.specs.declared.phase.Phase.{Phase}
use Rattle.model.specs.declared.phase.Phase.TheVariants.{Before, Moving, Shut}
use Rattle.model.specs.Knowing.{Volume}
use Rattle.model.specs.declared.call.Call.{Call}
use Rattle.model.specs.declared.call.Call.TheVariants.{Read, Write, Begin, Keep, Copy, Settle, Finish}
use Rattle.head.specs.declared.TheConstants.{MOST_BACKUP, MOST_NUMBER, SLOTS_AT}
use Rattle.shelf.specs.declared.TheConstants.{MOST_SECTORS}

-- the first refusal whose condition holds
abbrev pub first_refusal : List (Bool × Refusal) → Option Refusal
first_refusal [] = None
first_refusal (c ∷ rest) = cond c.0 (Some c.1) (first_refusal rest)

-- Each phase has its calls: read and write all three, begin the one before a move, the others the move.
abbrev pub call_of_phase : Call → Phase → Bool
call_of_phase Read phase = true
call_of_phase Write phase = true
call_of_phase Begin Before = true
call_of_phase Begin phase = false
call_of_phase call Moving = true
call_of_phase call phase = false

-- begin's target has to bear the losses before it comes into force
abbrev pub unborne : Call → Geometry → Meaning → Bool
unborne Begin t a = not (borne t a)
unborne call t a = false

-- a volume that is shut answers one thing to all
abbrev pub shut_or : Phase → Option Refusal → Option Refusal
shut_or (Shut why) o = Some why
shut_or phase o = o

-- one verdict, and where it is none, another
abbrev pub earlier : Option Refusal → Option Refusal → Option Refusal
earlier (Some r) o = Some r
earlier None o = o

-- power, members, and whether the call is one for the phase
abbrev pub admission : Call → Volume → Meaning → Option Refusal
admission call v a = shut_or v.crew.phase (first_refusal (
    (not a.on, PowerLost)
    ∷ (not (enough v.crew a), MembersLost)
    ∷ (unborne call v.crew.target a, MembersLost)
    ∷ (not (call_of_phase call v.crew.phase), WrongPhase)
    ∷ []))

-- fewer numbers are left than so many checkpoints take
abbrev pub spent : Volume → ℕ → Bool
spent v checkpoints = nat_lt (MOST_NUMBER - v.number) checkpoints

-- row r of the target is in hand, and sector i is one of it
abbrev pub in_hand : Option ℕ → ℕ → ℕ → Bool
in_hand None len i = false
in_hand (Some row) len i = i / len == row

abbrev pub is_held : Option ℕ → Bool
is_held None = false
is_held (Some row) = true

abbrev pub is_hand : Option ℕ → ℕ → Bool
is_hand None row = false
is_hand (Some held) row = held == row

-- a grant of the row in hand empties the hand
abbrev pub emptied : Option ℕ → ℕ → Option ℕ
emptied hand row = cond (is_hand hand row) None hand

abbrev pub access_verdict : Volume → (i length : ℕ) → Option Refusal
access_verdict v i length = first_refusal ((not (length == SECTOR), BufferLength) ∷ (nat_le v.size i, PastEnd) ∷ [])

abbrev pub read_verdict : Volume → Meaning → (i length : ℕ) → Option Refusal
read_verdict v a i length = earlier (admission Read v a) (access_verdict v i length)

abbrev pub write_verdict : Volume → Meaning → (i length : ℕ) → Option Refusal
write_verdict v a i length = earlier (admission Write v a) (earlier (access_verdict v i length) (first_refusal (
    (in_hand v.hand v.crew.target.row_len i, RowInHand)
    ∷ (spent v 2, NumbersSpent)
    ∷ [])))

-- a shelf in its limits
abbrev pub shelf_in_limits : Meaning → Bool
shelf_in_limits a = (nat_le FEWEST_MEMBERS a.members && nat_le a.members MOST_MEMBERS) && (nat_le 1 a.sectors && nat_le a.sectors MOST_SECTORS)

-- the layout, the slots before it and a volume of this size have room on the shelf
abbrev pub fits : Meaning → Geometry → (backup size : ℕ) → Bool
fits a g backup size = shelf_in_limits a && (nat_le g.members a.members && (nat_le (SLOTS_AT + backup + g.depth) a.sectors && nat_le size (capacity g)))

abbrev pub begin_verdict : Label → Volume → Meaning → Option Refusal
begin_verdict label v a = earlier (admission Begin v a) (first_refusal (
    (not (true_label label v.crew.target && fits a v.crew.target v.backup v.size), OutOfLimits)
    ∷ (nat_lt v.backup (distance_of v.crew.source v.crew.target v.size), DistanceAboveBackup)
    ∷ (spent v 1, NumbersSpent)
    ∷ []))

-- the sectors that stand in slots once the next source row is kept
abbrev pub window_after_keep : Volume → ℕ
window_after_keep v = window_of v.crew.source.row_len v.crew.target.row_len v.settled v.size (v.kept + 1)

abbrev pub keep_verdict : Volume → Meaning → Option Refusal
keep_verdict v a = earlier (admission Keep v a) (first_refusal (
    (nat_le v.size (v.kept * v.crew.source.row_len), AllKept)
    ∷ (nat_lt v.backup (window_after_keep v), BackupFull)
    ∷ (spent v 1, NumbersSpent)
    ∷ []))

abbrev pub copy_verdict : Volume → Meaning → Option Refusal
copy_verdict v a = earlier (admission Copy v a) (first_refusal (
    (is_held v.hand, RowInHand)
    ∷ (nat_le v.crew.target.rows v.settled, AllSettled)
    ∷ (nat_lt v.kept (need_of v.crew.source v.crew.target v.size v.settled), NeedNotKept)
    ∷ []))

abbrev pub settle_verdict : Volume → Meaning → ℕ → Option Refusal
settle_verdict v a row = earlier (admission Settle v a) (first_refusal ((not (is_hand v.hand row), WrongGrant) ∷ (spent v 1, NumbersSpent) ∷ []))

abbrev pub finish_verdict : Volume → Meaning → Option Refusal
finish_verdict v a = earlier (admission Finish v a) (first_refusal ((nat_lt v.settled v.crew.target.rows, RowsLeft) ∷ (spent v 1, NumbersSpent) ∷ []))

abbrev pub hand_back_verdict : Volume → ℕ → Option Refusal
hand_back_verdict v row = first_refusal ((not (is_hand v.hand row), WrongGrant) ∷ [])

-- create judges the source only
abbrev pub create_verdict : Label → Geometry → Meaning → (backup size : ℕ) → Option Refusal
create_verdict label source a backup size = first_refusal (
    (not ((nat_le 1 backup && nat_le backup MOST_BACKUP) && (true_label label source && fits a source backup size)), OutOfLimits)
    ∷ (not a.on, PowerLost)
    ∷ (not (borne source a), MembersLost)
    ∷ [])

-- a judge's answer is the verdict
abbrev pub Judged : {A : Type 0} → Option Refusal → Result A Refusal → Type 0
Judged v (Ok x) = v ≡ None
Judged v (Err e) = v ≡ Some e

-- a call that its verdict refuses answers so, names no operation, and leaves all as it was
abbrev pub RefusedBy : {A : Type 0} → Option Refusal → Type 0 → Result A Refused → Type 0
RefusedBy v same r = (k : Refusal) → v ≡ Some k → (r ≡ Err (record { refusal = k; fault = None })) × same

-- A create or open that was refused shuts its volume, whose calls then answer that power is lost, if that was the reason, and else that
-- this is no phase for them.
abbrev pub shut_for : Refusal → Refusal
shut_for PowerLost = PowerLost
shut_for why = WrongPhase

abbrev pub ShutsBy : Phase → Phase → Result Unit Refused → Type 0
ShutsBy old new (Ok x) = new ≡ old
ShutsBy old new (Err e) = new ≡ Shut (shut_for e.refusal)
