-- Examples of every definition of this crate. Contents of one byte stand for sectors.
use Rattle.std.specs.Prelude.{◌≡◌, ℕ, ◌≤◌, Bool, true, false, cond, List, [], ◌∷◌, Some, None, Option, ◌==◌, nat_eq}
use Rattle.std.proofs.Common.{arith}
use Rattle.answer.specs.declared.Refusal.{Refusal}
use Rattle.answer.specs.declared.Refusal.TheVariants.{BufferLength, PastEnd, WrongPhase, RowInHand, NeedNotKept, BackupFull, AllKept, RowsLeft, AllSettled, DistanceAboveBackup, OutOfLimits, NoHead, LabelsDiffer, HeadMisfit, MembersLost, PowerLost, NumbersSpent, WrongGrant}
use Rattle.head.specs.declared.state.Head.{Head}
use Rattle.head.specs.declared.state.Progress.{Progress}
use Rattle.head.specs.declared.state.Progress.TheVariants.{Idle, Moving as UnderWay}
use Rattle.layout.specs.Geometry.{Geometry}
use Rattle.layout.specs.declared.label.Label.{Label}
use Rattle.layout.specs.declared.place.Owner.TheVariants.{Datum, Nobody}
use Rattle.overlap.specs.declared.walk.Home.TheVariants.{Source, Target, Backup}
use Rattle.shelf.specs.Meaning.{Meaning}
use Rattle.model.specs.declared.phase.Phase.{Phase}
use Rattle.model.specs.declared.phase.Phase.TheVariants.{Before, Moving, After, Shut}
use Rattle.model.specs.declared.told.Told.{Told}
use Rattle.model.specs.declared.request.Request.TheVariants.{Write, Begin, Copy, Settle, Finish, Open}
use Rattle.model.specs.declared.request.Answered.TheVariants.{Met}
use Rattle.model.specs.Contents.{home_in}
use Rattle.model.specs.Disks.{Disk, after, disk_of, granted, refused}
use Rattle.model.specs.Histories.{chosen}
use Rattle.model.specs.Knowing.{Volume}
use Rattle.model.specs.Opening.{open_verdict}
use Rattle.model.specs.Strays.{misplaced_count, stray_count}
use Rattle.model.specs.Verdicts.{begin_verdict, copy_verdict, create_verdict, finish_verdict, keep_verdict, read_verdict, settle_verdict, write_verdict}
use Rattle.head.specs.declared.TheConstants.{MOST_NUMBER}

-- mirrors: two copies of each of two sectors, on two members
abbrev pub mirror : Geometry
mirror = record {
  members = 2;
  depth = 2;
  copies = 2;
  loss = 1;
  row_len = 1;
  rows = 2;
  groups = 0;
  datum = λ i j. (j, i);
  group = λ i. 0;
  peers = λ x. 0;
  peer = λ x b. 0;
  parity = λ x. (0, 0);
  owner = λ p. Datum p.1 p.0;
}

-- stripes: two sectors in one row, on two members
abbrev pub stripe : Geometry
stripe = record {
  members = 2;
  depth = 1;
  copies = 1;
  loss = 0;
  row_len = 2;
  rows = 1;
  groups = 0;
  datum = λ i j. (i, 0);
  group = λ i. 0;
  peers = λ x. 0;
  peer = λ x b. 0;
  parity = λ x. (0, 0);
  owner = λ p. cond (p.1 == 0) (Datum p.0 0) Nobody;
}

-- a shelf of two members and six sectors, with one backup slot: sector 3 is the slot, and the body is sectors 4 and 5
abbrev pub example_shelf : (on : Bool) → (ℕ → Bool) → (ℕ → ℕ → List ℕ) → Meaning
example_shelf on there held = record { members = 2; sectors = 6; on = on; present = there; durable = held; current = held }

abbrev pub all : ℕ → Bool
all k = true

-- member 0 is gone
abbrev pub last : ℕ → Bool
last k = k == 1

-- sectors 7 and 8 on each member of a mirror; and the same with one copy of the second stale
abbrev pub right : ℕ → ℕ → List ℕ
right k s = cond (s == 4) (7 ∷ []) (cond (s == 5) (8 ∷ []) (9 ∷ []))

abbrev pub stale : ℕ → ℕ → List ℕ
stale k s = cond (k == 0) (right k s) (cond (s == 5) (6 ∷ []) (right k s))

abbrev pub disk : Disk
disk = disk_of ((7 ∷ []) ∷ (8 ∷ []) ∷ []) Before 0 0 None

abbrev pub told : Told
told = record { size = 2; phase = Before; settled = 0; kept = 0; hand = None }

abbrev pub moved : Told
moved = record { size = 2; phase = Before; settled = 1; kept = 0; hand = None }

abbrev pub volume_of : Phase → (settled kept : ℕ) → Option ℕ → ℕ → Volume
volume_of phase p q hand number = record {
  crew = record { phase = phase; source = mirror; target = stripe };
  number = number;
  size = 2;
  backup = 1;
  settled = p;
  kept = q;
  hand = hand;
}

-- two rows of mirrors that move into stripes, and the other way round
abbrev pub volume_back : Volume
volume_back = record {
  crew = record { phase = Before; source = stripe; target = mirror };
  number = 1;
  size = 2;
  backup = 1;
  settled = 0;
  kept = 0;
  hand = None;
}

-- the number of the last checkpoint that there can be
abbrev pub last_number : ℕ
last_number = MOST_NUMBER

abbrev pub label : ℕ → Label
label kind = record { kind = kind; members = 2; copies = 1; reserved = 0; chunk = 1; depth = 1 }

abbrev pub mirror_label : Label
mirror_label = record { kind = 3; members = 2; copies = 2; reserved = 0; chunk = 1; depth = 2 }

abbrev pub mirror_head : (number : ℕ) → (1 ≤ number) × (number ≤ MOST_NUMBER) → Progress → Option ℕ → Head
mirror_head number some progress armed = record {
  number = number;
  source = mirror_label;
  progress = progress;
  size = 2;
  backup = 1;
  armed = armed;
  numbered = some;
  backed = (omega arith, omega arith);
}

-- what open answers to a head of mirrors on the way to stripes
abbrev pub opens : Option Head → (ℕ → Bool) → Label → Option Refusal
opens h there target = open_verdict h (example_shelf true there right) mirror_label target mirror stripe

abbrev pub first_head : Progress → Option ℕ → Option Head
first_head progress armed = Some (mirror_head 1 (omega arith, omega arith) progress armed)

abbrev pub last_head : Progress → Option ℕ → Option Head
last_head progress armed = Some (mirror_head last_number (omega arith, omega arith) progress armed)

pub record CountExamples : Type 0 where
  pub none : stray_count mirror stripe (example_shelf true all right) 1 told disk ≡ 0
  pub stale_copy : stray_count mirror stripe (example_shelf true all stale) 1 told disk ≡ 1
  pub stale_gone : stray_count mirror stripe (example_shelf true (λ k. nat_eq k 0) stale) 1 told disk ≡ 0
  pub tells_other : stray_count mirror stripe (example_shelf true all right) 1 moved disk ≡ 1
  pub no_copy : stray_count stripe mirror (example_shelf true last right) 1 told disk ≡ 2
  pub fresh : misplaced_count mirror (example_shelf true all right) 1 disk ≡ 0
  pub misplaced : misplaced_count mirror (example_shelf true all stale) 1 disk ≡ 1

pub record HomeExamples : Type 0 where
  pub before : home_in Before mirror stripe 0 0 1 ≡ Source
  pub target : home_in Moving mirror stripe 1 2 1 ≡ Target
  pub backup : home_in Moving mirror stripe 0 1 0 ≡ Backup
  pub source : home_in Moving mirror stripe 0 1 1 ≡ Source
  pub after : home_in After mirror stripe 0 0 1 ≡ Target

pub record OpenExamples : Type 0 where
  pub none : opens None all (label 1) ≡ Some NoHead
  pub labels : opens (first_head (UnderWay (label 1) 0 0) None) all (label 4) ≡ Some LabelsDiffer
  pub idle : opens (first_head Idle None) all (label 4) ≡ None
  pub rows : opens (first_head (UnderWay (label 1) 2 0) None) all (label 1) ≡ Some HeadMisfit
  pub logged : opens (first_head Idle (Some 2)) all (label 1) ≡ Some HeadMisfit
  pub lost : opens (first_head (UnderWay (label 1) 0 0) None) last (label 1) ≡ Some MembersLost
  pub borne : opens (first_head Idle None) last (label 1) ≡ None
  pub numbers : opens (last_head Idle (Some 1)) all (label 1) ≡ Some NumbersSpent
  pub unarmed : opens (last_head Idle None) all (label 1) ≡ None

pub record DiskExamples : Type 0 where
  pub written : (granted (Write 1 (5 ∷ [])) disk).content 1 ≡ 5 ∷ []
  pub elsewhere : (granted (Write 1 (5 ∷ [])) disk).content 0 ≡ 7 ∷ []
  pub begun : (granted Begin disk).phase ≡ Moving
  pub held : (granted Copy disk).hand ≡ Some 0
  pub spent : (refused (Settle 0) (granted Copy disk)).hand ≡ None
  pub other_grant : (refused (Settle 1) (granted Copy disk)).hand ≡ Some 0
  pub reopened : (granted Open (granted Finish disk)).phase ≡ Before
  pub two : after (Write 1 (6 ∷ [])) Met (disk ∷ []) ≡ disk ∷ granted (Write 1 (6 ∷ [])) disk ∷ []
  -- after a cut write of 5 to sector 1 the shelf holds the old contents, or the new ones
  pub old_shown : (chosen mirror stripe (example_shelf true all right) 1 told disk (disk ∷ granted (Write 1 (5 ∷ [])) disk ∷ [])).content 1 ≡ 8 ∷ []
  pub new_shown : (chosen mirror stripe (example_shelf true all (λ k s. cond (s == 5) (5 ∷ []) (right k s))) 1 told disk (disk ∷ granted (Write 1 (5 ∷ [])) disk ∷ [])).content 1 ≡ 5 ∷ []

pub record VerdictExamples : Type 0 where
  pub off : read_verdict (volume_of Before 0 0 None 1) (example_shelf false all right) 0 512 ≡ Some PowerLost
  pub few : read_verdict (volume_of Before 0 0 None 1) (example_shelf true (λ k. false) right) 0 512 ≡ Some MembersLost
  pub shut : read_verdict (volume_of (Shut WrongPhase) 0 0 None 1) (example_shelf true all right) 0 512 ≡ Some WrongPhase
  pub phase : keep_verdict (volume_of Before 0 0 None 1) (example_shelf true all right) ≡ Some WrongPhase
  pub grant : settle_verdict (volume_of Moving 0 0 (Some 0) 1) (example_shelf true all right) 1 ≡ Some WrongGrant
  pub length : read_verdict (volume_of Before 0 0 None 1) (example_shelf true all right) 5 511 ≡ Some BufferLength
  pub past : read_verdict (volume_of Before 0 0 None 1) (example_shelf true all right) 2 512 ≡ Some PastEnd
  pub read : read_verdict (volume_of Before 0 0 None 1) (example_shelf true all right) 1 512 ≡ None
  pub row_in_hand : write_verdict (volume_of Moving 0 2 (Some 0) 1) (example_shelf true all right) 1 512 ≡ Some RowInHand
  pub second : copy_verdict (volume_of Moving 0 2 (Some 0) 1) (example_shelf true all right) ≡ Some RowInHand
  pub limits : create_verdict (label 1) mirror (example_shelf true all right) 0 2 ≡ Some OutOfLimits
  pub kept : keep_verdict (volume_of Moving 0 2 None 1) (example_shelf true all right) ≡ Some AllKept
  pub full : keep_verdict (volume_of Moving 0 1 None 1) (example_shelf true all right) ≡ Some BackupFull
  pub settled : copy_verdict (volume_of Moving 1 2 None 1) (example_shelf true all right) ≡ Some AllSettled
  pub need : copy_verdict (volume_of Moving 0 0 None 1) (example_shelf true all right) ≡ Some NeedNotKept
  pub copy : copy_verdict (volume_of Moving 0 1 None 1) (example_shelf true all right) ≡ None
  pub left : finish_verdict (volume_of Moving 0 2 None 1) (example_shelf true all right) ≡ Some RowsLeft
  pub numbers : finish_verdict (volume_of Moving 1 2 None last_number) (example_shelf true all right) ≡ Some NumbersSpent
  pub finish : finish_verdict (volume_of Moving 1 2 None 1) (example_shelf true all right) ≡ None
  pub distance : begin_verdict mirror_label volume_back (example_shelf true all right) ≡ Some DistanceAboveBackup
  pub begin : begin_verdict (label 1) (volume_of Before 0 0 None 1) (example_shelf true all right) ≡ None
