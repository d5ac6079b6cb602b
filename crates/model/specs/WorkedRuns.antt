-- Examples of runs: some that keep the law, and for each of its parts some that break it. Two mirrored sectors move into one row of two stripes,
-- with one backup slot.
use Rattle.std.proofs.Common.{arith}
use Rattle.head.specs.declared.state.Head.{Head}
use Rattle.std.specs.Prelude.{◌≡◌, ℕ, ◌+◌, Bool, true, false, cond, List, [], ◌∷◌, replicate, Some, None, Ok, Err, Option, Result, ◌==◌}
use Rattle.answer.specs.declared.Operation.TheVariants.{Write as Writing}
use Rattle.answer.specs.declared.Refused.{Refused}
use Rattle.answer.specs.declared.Refusal.{Refusal}
use Rattle.answer.specs.declared.Refusal.TheVariants.{LabelsDiffer, NumbersSpent, PowerLost}
use Rattle.shelf.specs.Meaning.{Meaning}
use Rattle.model.specs.declared.phase.Phase.{Phase}
use Rattle.model.specs.declared.phase.Phase.TheVariants.{Before, Moving, After}
use Rattle.model.specs.declared.request.Request.{Request}
use Rattle.model.specs.declared.request.Request.TheVariants.{Read, Write, Begin, Keep, Copy, Settle, Finish, Open}
use Rattle.model.specs.Disks.{Disk, disk_of}
use Rattle.model.specs.Handed.{Handed}
use Rattle.model.specs.Histories.{Account, Called, Creation, Law, LawOfCall, Moment, due, in_use_after, taken_after}
use Rattle.model.specs.Handed.Handed.{Nothing, Buffer, Distance, Row, Counts}
use Rattle.head.specs.Heads.{head_bytes}
use Rattle.model.specs.Worked.{all, example_shelf, last_number, mirror, stripe}
use Rattle.model.specs.WorkedCalls.{underway}

-- both members are there
abbrev pub shelf : (on : Bool) → (ℕ → ℕ → List ℕ) → Meaning
shelf on held = example_shelf on all held

-- the volume with this phase, settled and kept rows, hand and number, and its shelf
abbrev moment_of : (size : ℕ) → Phase → (settled kept : ℕ) → Option ℕ → (number : ℕ) → Meaning → Moment
moment_of size phase p q hand number a = record {
  volume = record {
    crew = record { phase = phase; source = mirror; target = stripe };
    number = number;
    size = size;
    backup = 1;
    settled = p;
    kept = q;
    hand = hand;
  };
  shelf = a;
}

-- before a move
abbrev still : (number : ℕ) → Meaning → Moment
still number a = moment_of 2 Before 0 0 None number a

abbrev call : Request → Result Handed Refused → (before after : Moment) → Called
call request result before after = record { request = request; result = result; before = before; after = after }

abbrev made : (size : ℕ) → Meaning → Creation
made size a = record { source = mirror; target = stripe; backup = 1; size = size; left = moment_of size Before 0 0 None 1 a }

-- refused before any operation, and at one
abbrev not_now : Refusal → Refused
not_now why = record { refusal = why; fault = None }

abbrev cut_at : (sector : ℕ) → Refused
cut_at s = record { refusal = PowerLost; fault = Some (record { operation = Writing; member = 0; sector = s; row = None }) }

-- zeros; then 5 in both copies of sector 1; then 6 in one copy of sector 0 as well, and in both
abbrev pub blank : ℕ → ℕ → List ℕ
blank k s = replicate 512 0

abbrev one_written : ℕ → ℕ → List ℕ
one_written k s = cond (s == 5) (5 ∷ []) (blank k s)

abbrev half_written : ℕ → ℕ → List ℕ
half_written k s = cond (s == 4) (cond (k == 0) (6 ∷ []) (blank k s)) (one_written k s)

abbrev both_written : ℕ → ℕ → List ℕ
both_written k s = cond (s == 4) (6 ∷ []) (one_written k s)

-- zeros, and 5 where the stripes have sector 1
abbrev striped : ℕ → ℕ → List ℕ
striped k s = cond (s == 4) (cond (k == 1) (5 ∷ []) (blank k s)) (blank k s)

-- zeros, and 9 in the second place of the stripes
abbrev rubbish : ℕ → ℕ → List ℕ
rubbish k s = cond (s == 4) (cond (k == 1) (9 ∷ []) (blank k s)) (blank k s)

-- 5 is written to sector 1 and leaves these sectors
abbrev write_one : (ℕ → ℕ → List ℕ) → Called
write_one held = call (Write 1 (5 ∷ [])) (Ok Nothing) (still 1 (shelf true blank)) (still 3 (shelf true held))

abbrev read_one : List ℕ → Called
read_one x = call (Read 1) (Ok (Buffer x)) (still 3 (shelf true one_written)) (still 3 (shelf true one_written))

-- the volume lays itself out as stripes, which it was not given
abbrev as_stripes : Moment
as_stripes = record {
  volume = record {
    crew = record { phase = Before; source = stripe; target = mirror };
    number = 3;
    size = 2;
    backup = 1;
    settled = 0;
    kept = 0;
    hand = None;
  };
  shelf = shelf true striped;
}

-- 6 is written to sector 0, and the power goes when one copy is written; then open leaves these sectors
abbrev cut_write : Called
cut_write = call (Write 0 (6 ∷ [])) (Err (cut_at 4)) (still 3 (shelf true one_written)) (still 3 (shelf false half_written))

abbrev open_with : (ℕ → ℕ → List ℕ) → Called
open_with held = call Open (Ok Nothing) (still 3 (shelf false half_written)) (still 5 (shelf true held))

abbrev read_first : List ℕ → (ℕ → ℕ → List ℕ) → Called
read_first x held = call (Read 0) (Ok (Buffer x)) (still 5 (shelf true held)) (still 5 (shelf true held))

-- a volume of zeros of this size under way
abbrev under_way : (size settled kept : ℕ) → Option ℕ → (number : ℕ) → Moment
under_way size p q hand number = moment_of size Moving p q hand number (shelf true blank)

-- begin with this distance, and this number after it
abbrev begins : (size distance number : ℕ) → Called
begins size distance number = call Begin (Ok (Distance distance)) (moment_of size Before 0 0 None 1 (shelf true blank)) (under_way size 0 0 None number)

-- keep where so many rows are kept
abbrev keeps : (size kept : ℕ) → Called
keeps size q = call Keep (Ok Nothing) (under_way size 0 q None (2 + q)) (under_way size 0 (1 + q) None (3 + q))

-- so copy, with a grant of this row, and settle
abbrev copies : (size kept row : ℕ) → Called
copies size q row = call Copy (Ok (Row row)) (under_way size 0 q None (2 + q)) (under_way size 0 q (Some 0) (2 + q))

abbrev settles : (size kept : ℕ) → Called
settles size q = call (Settle 0) (Ok Nothing) (under_way size 0 q (Some 0) (2 + q)) (under_way size 1 q None (3 + q))

abbrev finishes : (size kept : ℕ) → Result Handed Refused → (ℕ → ℕ → List ℕ) → Called
finishes size q result held = call Finish result (under_way size 1 q None (3 + q)) (moment_of size After 0 0 None (4 + q) (shelf true held))

-- a move to where its row is settled
abbrev goes_on : (size : ℕ) → List Called → List Called
goes_on size rest = begins size 1 2 ∷ keeps size 0 ∷ copies size 1 0 ∷ settles size 1 ∷ rest

-- a whole move, that answers this to finish and leaves these sectors
abbrev move : (size : ℕ) → Result Handed Refused → (ℕ → ℕ → List ℕ) → List Called
move size result held = goes_on size (finishes size 1 result held ∷ [])

-- one that keeps three rows of two
abbrev long_move : List Called
long_move = begins 2 1 2 ∷ keeps 2 0 ∷ keeps 2 1 ∷ keeps 2 2 ∷ copies 2 3 0 ∷ settles 2 3 ∷ finishes 2 3 (Ok (Counts 1 3)) blank ∷ []

-- under way, with the last number; and zeros under that head
abbrev pub last_begun : Head
last_begun = underway last_number (omega arith, omega arith) 0 0

abbrev pub spent : ℕ → ℕ → List ℕ
spent k s = cond (s == 0) (head_bytes last_begun) (blank k s)

-- keep is due on these sectors, is refused, and leaves the power so
abbrev refuses_keep_over : (ℕ → ℕ → List ℕ) → (number : ℕ) → Refused → (on : Bool) → List Called
refuses_keep_over held number why on =
    call Begin (Ok (Distance 1)) (still 1 (shelf true blank)) (moment_of 2 Moving 0 0 None number (shelf true held))
    ∷ call Keep (Err why) (moment_of 2 Moving 0 0 None number (shelf true held)) (moment_of 2 Moving 0 0 None number (shelf on held))
    ∷ []

abbrev refuses_keep : Refused → (on : Bool) → List Called
refuses_keep why on = refuses_keep_over blank 2 why on

-- the same after a read that pleads that the power went, and left it on
abbrev refuses_after_plea : Refused → List Called
refuses_after_plea why =
    begins 2 1 2
    ∷ call (Read 0) (Err (cut_at 4)) (under_way 2 0 0 None 2) (under_way 2 0 0 None 2)
    ∷ call Keep (Err why) (under_way 2 0 0 None 2) (under_way 2 0 0 None 2)
    ∷ []

-- so is copy, with this number before it
abbrev refuses_copy : (number : ℕ) → Refused → List Called
refuses_copy number why =
    begins 2 1 2
    ∷ call Keep (Ok Nothing) (under_way 2 0 0 None 2) (under_way 2 0 1 None number)
    ∷ call Copy (Err why) (under_way 2 0 1 None number) (under_way 2 0 1 None number)
    ∷ []

-- settle of the row in hand
abbrev refuses_settle : Refused → List Called
refuses_settle why = begins 2 1 2 ∷ keeps 2 0 ∷ copies 2 1 0 ∷ call (Settle 0) (Err why) (under_way 2 0 1 (Some 0) 3) (under_way 2 0 1 None 3) ∷ []

-- and finish
abbrev refuses_finish : Refused → List Called
refuses_finish why = goes_on 2 (call Finish (Err why) (under_way 2 1 1 None 4) (under_way 2 1 1 None 4) ∷ [])

-- a disk under way with so many rows settled and kept, and this row in hand
abbrev walking : (settled kept : ℕ) → Option ℕ → Disk
walking p q hand = disk_of ((7 ∷ []) ∷ (8 ∷ []) ∷ []) Moving p q hand

-- a call on a volume before a move, as far as it matters to what is counted
abbrev answers : Request → Result Handed Refused → Called
answers request result = call request result (still 1 (shelf true blank)) (still 1 (shelf true blank))

-- an account of a keep that is due, when as many checkpoints can have been made as there are numbers
abbrev spent_account : Account
spent_account = record { source = mirror; target = stripe; backup = 1; disks = disk_of (replicate 512 0 ∷ replicate 512 0 ∷ []) Moving 0 0 None ∷ []; taken = true; in_use = true; checkpoints = last_number }

-- When the stray count is taken, when the volume is in use, and which call is due.
pub record CourseExamples : Type 0 where
  pub stays : taken_after (answers (Read 1) (Ok (Buffer []))) true ≡ true
  pub met : taken_after (answers (Read 1) (Err (cut_at 5))) true ≡ false
  pub still_off : taken_after (answers (Read 1) (Err (not_now PowerLost))) false ≡ false
  pub opened : taken_after (answers Open (Ok Nothing)) false ≡ true
  pub not_opened : taken_after (answers Open (Err (not_now LabelsDiffer))) true ≡ false
  pub in_use : in_use_after (answers (Read 1) (Err (cut_at 5))) true ≡ true
  pub out_of_use : in_use_after (answers Open (Err (not_now LabelsDiffer))) true ≡ false
  pub keep_due : due Keep mirror stripe (walking 0 0 None)
  pub copy_due : due Copy mirror stripe (walking 0 1 None)
  pub settle_due : due (Settle 0) mirror stripe (walking 0 1 (Some 0))
  pub finish_due : due Finish mirror stripe (walking 1 1 None)
  pub copy_not_due : due Copy mirror stripe (walking 0 0 None) → ⊥
  pub settle_first : due Copy mirror stripe (walking 0 1 (Some 0)) → ⊥

-- a run on two sectors of zeros
abbrev RunOfTwo : List Called → Type 0
RunOfTwo cs = Law (made 2 (shelf true blank)) cs

-- a write, a read, a write that is cut, and what comes after
abbrev cut_and : List Called → List Called
cut_and rest = write_one one_written ∷ read_one (5 ∷ []) ∷ cut_write ∷ rest

pub record RunExamples : Type 0 where
  -- after the cut open shows what the write made, or what was there before
  pub run : RunOfTwo (cut_and (open_with both_written ∷ read_first (6 ∷ []) both_written ∷ []))
  pub run_back : RunOfTwo (cut_and (open_with one_written ∷ read_first (replicate 512 0) one_written ∷ []))
  -- a whole move
  pub moves : RunOfTwo (move 2 (Ok (Counts 1 1)) blank)
  -- A keep that is due may be refused where the power is off after it, met at an operation or before, and where no number is left.
  pub keep_met : RunOfTwo (refuses_keep (cut_at 3) false)
  pub keep_off : RunOfTwo (refuses_keep (not_now PowerLost) false)
  pub keep_spent : LawOfCall (call Keep (Err (not_now NumbersSpent)) (under_way 2 0 0 None last_number) (under_way 2 0 0 None last_number)) spent_account

-- Runs that break the law, each in one part.
pub record BreachExamples : Type 0 where
  -- create leaves other sectors than zeros
  pub create_strays : Law (made 2 (shelf true both_written)) [] → ⊥
  -- a read gives what was there before the write; one hands out nothing
  pub read_other : RunOfTwo (write_one one_written ∷ read_one (replicate 512 0) ∷ []) → ⊥
  pub read_nothing : RunOfTwo (answers (Read 1) (Ok Nothing) ∷ []) → ⊥
  -- a granted write leaves the shelf as it was; one leaves it right for other layouts than those that create was given
  pub write_forgotten : RunOfTwo (write_one blank ∷ []) → ⊥
  pub other_layouts : RunOfTwo (call (Write 1 (5 ∷ [])) (Ok Nothing) (still 1 (shelf true blank)) as_stripes ∷ []) → ⊥
  -- after a cut, open shows a mixture, and neither candidate
  pub open_other : RunOfTwo (cut_and (open_with half_written ∷ [])) → ⊥
  -- Power, members and numbers are there: no refusal of the call that is due is an excuse, with an operation or without, nor is one of a call before it, or a
  -- last number that the volume takes for its own, be it in its head or not. A copy needs no number.
  pub keep_pleads : (why : Refused) → RunOfTwo (refuses_keep why true) → ⊥
  pub keep_claims : (why : Refused) → RunOfTwo (refuses_keep_over blank last_number why true) → ⊥
  pub keep_spends : (why : Refused) → RunOfTwo (refuses_keep_over spent last_number why true) → ⊥
  pub read_pleads : (why : Refused) → RunOfTwo (refuses_after_plea why) → ⊥
  pub settle_pleads : (why : Refused) → RunOfTwo (refuses_settle why) → ⊥
  pub copy_pleads : (number : ℕ) (why : Refused) → RunOfTwo (refuses_copy number why) → ⊥
  pub finish_pleads : (why : Refused) → RunOfTwo (refuses_finish why) → ⊥
  -- begin answers another distance, and copy a grant of another row
  pub distance_other : RunOfTwo (begins 2 2 2 ∷ []) → ⊥
  pub grant_other : RunOfTwo (begins 2 1 2 ∷ keeps 2 0 ∷ copies 2 1 1 ∷ []) → ⊥
  -- finish counts other rows than the target's, other kept rows than were kept, or more than are live
  pub rows_made_up : RunOfTwo (move 2 (Ok (Counts 2 1)) blank) → ⊥
  pub kept_made_up : RunOfTwo (move 2 (Ok (Counts 1 2)) blank) → ⊥
  pub kept_too_many : RunOfTwo long_move → ⊥
  -- after finish a place past the volume's size has no zeros, which is no stray
  pub not_fresh : Law (made 1 (shelf true blank)) (move 1 (Ok (Counts 1 1)) rubbish) → ⊥
  -- a call finds another volume or another shelf than the one before it left
  pub other_volume : RunOfTwo (read_first (replicate 512 0) blank ∷ []) → ⊥
  pub other_shelf : RunOfTwo (call (Read 0) (Ok (Buffer (replicate 512 0))) (still 1 (shelf true both_written)) (still 1 (shelf true blank)) ∷ []) → ⊥
