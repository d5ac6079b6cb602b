-- Examples of what is read of a shelf, and of what steps make of single sectors.
use Rattle.std.specs.Prelude.{◌≡◌, ℕ, ◌+◌, ◌*◌, ◌-◌, ◌/◌, ◌%◌, true, cond, List, [], ◌∷◌, replicate, Some, None, ◌==◌, slice_index_or}
use Rattle.std.proofs.Common.{arith}
use Rattle.answer.specs.declared.Refusal.TheVariants.{DistanceAboveBackup}
use Rattle.layout.specs.Geometry.{Geometry}
use Rattle.layout.specs.declared.label.Label.{Label}
use Rattle.layout.specs.declared.place.Owner.TheVariants.{Datum, Nobody, Parity}
use Rattle.overlap.specs.declared.walk.Home.TheVariants.{Source}
use Rattle.shelf.specs.Meaning.{Meaning}
use Rattle.head.specs.declared.state.Progress.TheVariants.{Idle}
use Rattle.model.specs.Crew.{crew}
use Rattle.model.specs.declared.phase.Phase.TheVariants.{Before, Moving}
use Rattle.model.specs.Contents.{padded}
use Rattle.model.specs.Images.{Image, applied, created_over, due_of, fresh_row, headed, logged, saved, with_places}
use Rattle.model.specs.Knowing.{Volume}
use Rattle.model.specs.Reading.{content_of, home_by, parity_with}
use Rattle.model.specs.Reopening.{opened_volume}
use Rattle.model.specs.Verdicts.{begin_verdict}
use Rattle.model.specs.Worked.{all, mirror_head, last, mirror, right, example_shelf, stripe, volume_of}

-- one group: two sectors and their parity, on three members
abbrev pub triple : Geometry
triple = record {
  members = 3;
  depth = 1;
  copies = 1;
  loss = 1;
  row_len = 2;
  rows = 1;
  groups = 1;
  datum = λ i j. (i, 0);
  group = λ i. 0;
  peers = λ x. 2;
  peer = λ x b. b;
  parity = λ x. (2, 0);
  owner = λ p. cond (p.0 == 2) (Parity 0) (Datum p.0 0);
}

-- three members with sectors 7 and 8 and their exclusive-or
abbrev pub grouped : Meaning
grouped = record { members = 3; sectors = 5; on = true; present = all; durable = held; current = held }
  where
    held : ℕ → ℕ → List ℕ
    held k s = cond (k == 0) (7 ∷ []) (cond (k == 1) (8 ∷ []) (15 ∷ []))

-- the contents that a call has read
abbrev pub read : ℕ → List ℕ
read i = cond (i == 0) (7 ∷ []) (8 ∷ [])

-- the mirrors before a move, and on their way to stripes with so many rows kept
abbrev pub resting : Volume
resting = volume_of Before 0 0 None 1

abbrev pub walking_volume : ℕ → Volume
walking_volume kept = volume_of Moving 0 kept None (2 + kept)

-- what a write of 5 to sector 1 with this parity leaves in its home
abbrev pub at_home : Volume → Image → Image
at_home v f = applied (home_by v 1) mirror stripe 1 1 (5 ∷ []) (6 ∷ []) f

-- parity on three members, in chunks of so many sectors, with four used sectors on each
abbrev pub parities : ℕ → Geometry
parities c = record {
  members = 3;
  depth = 4;
  copies = 1;
  loss = 1;
  row_len = c * 2;
  rows = 4 / c;
  groups = 4;
  datum = λ i j. ((2 - i / c / 2 % 3 + 1 + i / c % 2) % 3, i / c / 2 * c + i % c);
  group = λ i. i / c / 2 * c + i % c;
  peers = λ x. 2;
  peer = λ x b. (x / c * 2 + b) * c + x % c;
  parity = λ x. (2 - x / c % 3, x);
  owner = λ p. cond (p.0 == 2 - p.1 / c % 3) (Parity p.1) (Datum ((p.1 / c * 2 + (p.0 + p.1 / c % 3) % 3) * c + p.1 % c) 0);
}

abbrev pub parity_label : Label
parity_label = record { kind = 2; members = 3; copies = 1; reserved = 0; chunk = 2; depth = 4 }

-- a volume of eight sectors that is to move from chunks of one sector to chunks of two
abbrev pub rechunked : ℕ → Volume
rechunked backup = record { crew = crew Before (parities 1) (parities 2); number = 1; size = 8; backup = backup; settled = 0; kept = 0; hand = None }

abbrev pub three_members : Meaning
three_members = record { members = 3; sectors = 11; on = true; present = all; durable = λ k s. []; current = λ k s. [] }

pub record ReadExamples : Type 0 where
  pub content : content_of resting (example_shelf true last right) 1 ≡ 8 ∷ []
  pub slot : content_of (walking_volume 1) (example_shelf true all right) 0 ≡ 9 ∷ []
  -- the other peer is 8, and 5 and 8 make 13
  pub parity : slice_index_or (parity_with triple grouped 1 0 (5 ∷ [])) 0 0 ≡ 13
  pub no_group : slice_index_or (parity_with mirror grouped 1 0 (5 ∷ [])) 0 9 ≡ 0
  pub due : due_of triple read (Datum 1 0) ≡ 8 ∷ []
  pub parity_due : slice_index_or (due_of triple read (Parity 0)) 0 0 ≡ 15
  pub nobody : due_of triple read Nobody ≡ []
  pub padded : padded 1 read 1 ≡ replicate 512 0

pub record StepExamples : Type 0 where
  pub log : logged (5 ∷ []) (6 ∷ []) right 1 1 ≡ 5 ∷ []
  pub logged_parity : logged (5 ∷ []) (6 ∷ []) right 1 2 ≡ 6 ∷ []
  pub log_only : logged (5 ∷ []) (6 ∷ []) right 1 5 ≡ 8 ∷ []
  pub written : at_home resting right 0 5 ≡ 5 ∷ []
  pub both_copies : at_home resting right 1 5 ≡ 5 ∷ []
  pub other_place : at_home resting right 0 4 ≡ 7 ∷ []
  pub to_slot : at_home (walking_volume 2) right 0 3 ≡ 5 ∷ []
  pub group_datum : applied Source triple triple 1 1 (5 ∷ []) (6 ∷ []) right 1 4 ≡ 5 ∷ []
  pub group_parity : applied Source triple triple 1 1 (5 ∷ []) (6 ∷ []) right 2 4 ≡ 6 ∷ []
  pub other_peer : applied Source triple triple 1 1 (5 ∷ []) (6 ∷ []) right 0 4 ≡ 7 ∷ []
  pub headed : slice_index_or (headed (mirror_head 1 (omega arith, omega arith) Idle None) right 1 0) 1 0 ≡ 0x48
  pub kept : saved 1 read 0 1 right 1 3 ≡ 7 ∷ []
  pub none_kept : saved 1 read 0 0 right 1 3 ≡ 9 ∷ []
  pub copied : with_places stripe 1 (fresh_row stripe 0 (padded 2 read)) right 1 4 ≡ 8 ∷ []
  pub other_row : with_places stripe 1 (fresh_row stripe 1 (padded 2 read)) right 1 4 ≡ 7 ∷ []
  pub nobody : with_places stripe 1 (fresh_row stripe 0 (padded 2 read)) right 0 5 ≡ 8 ∷ []
  pub row_parity : slice_index_or (with_places triple 1 (fresh_row triple 0 (padded 1 read)) right 2 4) 0 0 ≡ 7
  pub created : created_over mirror 1 right 1 5 ≡ replicate 512 0
  pub created_part : created_over stripe 1 right 1 5 ≡ 8 ∷ []
  pub redone : applied (home_by (opened_volume mirror stripe (mirror_head 1 (omega arith, omega arith) Idle (Some 1))) 1) mirror stripe 1 1 (5 ∷ []) [] right 0 5 ≡ 5 ∷ []

-- the overlap distance of this move is 4, so that four slots are enough and three are not
pub record BeginExamples : Type 0 where
  pub four : begin_verdict parity_label (rechunked 4) three_members ≡ None
  pub three : begin_verdict parity_label (rechunked 3) three_members ≡ Some DistanceAboveBackup
