-- Examples of calls that are done, of calls that are cut, and of shelves that no such call leaves.
use Rattle.std.specs.Prelude.{◌≡◌, ℕ, ◌≤◌, Bool, true, false, cond, List, [], ◌∷◌, replicate, Some, None, Option, ◌==◌}
use Rattle.std.proofs.Common.{arith}
use Rattle.layout.specs.declared.label.Label.{Label}
use Rattle.overlap.specs.declared.walk.Home.TheVariants.{Source}
use Rattle.shelf.specs.Meaning.{Meaning}
use Rattle.head.specs.declared.state.Head.{Head}
use Rattle.head.specs.declared.state.Progress.{Progress}
use Rattle.head.specs.declared.state.Progress.TheVariants.{Idle, Moving as UnderWay}
use Rattle.model.specs.Crew.{crew}
use Rattle.model.specs.declared.phase.Phase.TheVariants.{Before, Moving}
use Rattle.model.specs.declared.request.Request.TheVariants.{Read, Write, Begin, Keep, Copy, Settle, HandBack, Finish}
use Rattle.model.specs.Contents.{padded}
use Rattle.model.specs.Effects.{CreateTorn, CreatedBy, DoneBy, MetBy, known_after, verdict_of}
use Rattle.model.specs.Images.{applied, created_over, fresh_row, headed, logged, saved, with_places}
use Rattle.model.specs.Knowing.{Volume}
use Rattle.model.specs.Reading.{content_of, parity_with}
use Rattle.model.specs.Reopening.{OpenTorn, OpensTo, opened_volume}
use Rattle.model.specs.Steps.{Passed, Step, Torn}
use Rattle.model.specs.Worked.{all, label, mirror, mirror_label, right, example_shelf, stripe, volume_of}
use Rattle.model.specs.WorkedSteps.{grouped, resting, triple, walking_volume}
use Rattle.head.specs.declared.TheConstants.{MOST_NUMBER}

-- a shelf as a step leaves it that is done, and one as several of them do
abbrev pub passed_by : Step → Meaning → Meaning
passed_by f a = record { members = a.members; sectors = a.sectors; on = a.on; present = a.present; durable = f a.current; current = f a.current }

abbrev pub carried : List Step → Meaning → Meaning
carried [] a = a
carried (f ∷ fs) a = carried fs (passed_by f a)

-- a shelf whose power went in a step that has reached these sectors, none of them durable
abbrev pub cut_in : Step → (ℕ → ℕ → Bool) → Meaning → Meaning
cut_in f reached a = record {
  members = a.members;
  sectors = a.sectors;
  on = false;
  present = a.present;
  durable = a.durable;
  current = λ k s. cond (reached k s) (f a.current k s) (a.current k s);
}

-- on member 0 alone
abbrev pub on_first : ℕ → ℕ → Bool
on_first k s = k == 0

abbrev pub head_by : (number : ℕ) → (1 ≤ number) × (number ≤ MOST_NUMBER) → Label → Progress → Option ℕ → Head
head_by number some source progress armed = record {
  number = number;
  source = source;
  progress = progress;
  size = 2;
  backup = 1;
  armed = armed;
  numbered = some;
  backed = (omega arith, omega arith);
}

abbrev pub first : Head
first = head_by 1 (omega arith, omega arith) mirror_label Idle None

abbrev pub armed : Head
armed = head_by 2 (omega arith, omega arith) mirror_label Idle (Some 1)

abbrev pub disarmed : Head
disarmed = head_by 3 (omega arith, omega arith) mirror_label Idle None

-- under way to stripes, with so many rows settled and kept
abbrev pub underway : (number : ℕ) → (1 ≤ number) × (number ≤ MOST_NUMBER) → (settled kept : ℕ) → Head
underway number some p q = head_by number some mirror_label (UnderWay (label 1) p q) None

abbrev pub begun : Head
begun = underway 2 (omega arith, omega arith) 0 0

abbrev pub kept_one : Head
kept_one = underway 3 (omega arith, omega arith) 0 1

abbrev pub settled_one : Head
settled_one = underway 4 (omega arith, omega arith) 1 1

abbrev pub finished : Head
finished = head_by 5 (omega arith, omega arith) (label 1) Idle None

-- two members with sectors 7 and 8 on each, as mirrors have them
abbrev pub whole : Meaning
whole = example_shelf true all right

-- the same under a head
abbrev pub under : Head → Meaning
under h = passed_by (headed h) whole

abbrev pub zeros : List ℕ
zeros = replicate 512 0

-- a write of 5 to sector 1: mirrors have no parity, and the log zeros in its place
abbrev pub write_home : Step
write_home f = applied Source mirror stripe 1 1 (5 ∷ []) zeros f

abbrev pub write_steps : List Step
write_steps = (λ f. logged (5 ∷ []) zeros f) ∷ headed armed ∷ write_home ∷ headed disarmed ∷ []

-- the same in a group
abbrev pub grouped_volume : Volume
grouped_volume = record { crew = crew Before triple triple; number = 1; size = 2; backup = 1; settled = 0; kept = 0; hand = None }

abbrev pub new_parity : List ℕ
new_parity = parity_with triple grouped 1 1 (5 ∷ [])

abbrev pub group_steps : List Step
group_steps = (λ f. logged (5 ∷ []) new_parity f) ∷ headed armed ∷ (λ f. applied Source triple triple 1 1 (5 ∷ []) new_parity f) ∷ headed disarmed ∷ []

-- The first row is kept, and then the stripes' row is copied: sector 0 from its slot, where 9 stands, and sector 1 from the mirrors.
abbrev pub keep_slots : Step
keep_slots f = saved 1 (content_of (walking_volume 0) whole) 0 1 f

abbrev pub keep_steps : List Step
keep_steps = keep_slots ∷ headed kept_one ∷ []

abbrev pub copy_row : Step
copy_row f = with_places stripe 1 (fresh_row stripe 0 (padded 2 (content_of (walking_volume 1) whole))) f

-- what a create makes of the mirrors' places
abbrev pub clear_places : Step
clear_places f = created_over mirror 1 f

-- an armed head, with 5 and zeros in the log
abbrev pub logged_shelf : Meaning
logged_shelf = carried ((λ f. logged (5 ∷ []) zeros f) ∷ headed armed ∷ []) whole

abbrev pub redo_steps : List Step
redo_steps = headed armed ∷ write_home ∷ headed disarmed ∷ []

pub record WriteExamples : Type 0 where
  pub done : DoneBy (Write 1 (5 ∷ [])) resting (label 1) first whole (carried write_steps whole) disarmed
  pub in_group : DoneBy (Write 1 (5 ∷ [])) grouped_volume (label 1) first grouped (carried group_steps grouped) disarmed
  pub while_reading : MetBy (Write 1 (5 ∷ [])) resting (label 1) first whole (cut_in write_home (λ k s. false) whole)
  pub in_its_places : MetBy (Write 1 (5 ∷ [])) resting (label 1) first whole (cut_in write_home on_first logged_shelf)
  -- the second copy is not written, or something else stands there
  pub one_copy : Passed resting.crew write_home whole (passed_by (λ f k s. cond (k == 0) (write_home f k s) (f k s)) whole) → ⊥
  pub other_content : Torn write_home whole (passed_by (λ f k s. cond (k == 1) (6 ∷ []) (f k s)) whole) → ⊥
  pub read_done : DoneBy (Read 1) resting (label 1) first whole whole first
  pub read_writes : DoneBy (Read 1) resting (label 1) first whole (passed_by write_home whole) first → ⊥

pub record WalkExamples : Type 0 where
  pub begin_done : DoneBy Begin resting (label 1) first whole (carried (headed begun ∷ []) whole) begun
  pub begin_torn : MetBy Begin resting (label 1) first whole (cut_in (headed begun) on_first whole)
  pub begin_without_head : DoneBy Begin resting (label 1) first whole whole begun → ⊥
  pub keep_done : DoneBy Keep (walking_volume 0) (label 1) begun whole (carried keep_steps whole) kept_one
  pub keep_torn : MetBy Keep (walking_volume 0) (label 1) begun whole (cut_in keep_slots on_first whole)
  pub keep_without_slot : Passed (walking_volume 0).crew keep_slots whole whole → ⊥
  pub copy_done : DoneBy Copy (walking_volume 1) (label 1) kept_one whole (carried (copy_row ∷ []) whole) kept_one
  pub copy_torn : MetBy Copy (walking_volume 1) (label 1) kept_one whole (cut_in copy_row on_first whole)
  pub copy_without_row : Passed (walking_volume 1).crew copy_row whole whole → ⊥
  pub settle_done : DoneBy (Settle 0) (walking_volume 1) (label 1) kept_one whole (carried (headed settled_one ∷ []) whole) settled_one
  pub hand_back_done : DoneBy (HandBack 0) (walking_volume 1) (label 1) kept_one whole whole kept_one
  pub finish_done : DoneBy Finish (volume_of Moving 1 1 None 4) (label 1) settled_one whole (carried (headed finished ∷ []) whole) finished
  pub finish_torn : MetBy Finish (volume_of Moving 1 1 None 4) (label 1) settled_one whole (cut_in (headed finished) on_first whole)
  pub finish_without_head : Passed (volume_of Moving 1 1 None 4).crew (headed finished) whole whole → ⊥

pub record KnownExamples : Type 0 where
  pub after_begin : known_after Begin resting begun ≡ walking_volume 0
  pub after_copy : known_after Copy (walking_volume 1) kept_one ≡ volume_of Moving 0 1 (Some 0) 3
  pub after_settle : (known_after (Settle 0) (volume_of Moving 0 1 (Some 0) 3) settled_one).hand ≡ None
  pub after_open : opened_volume mirror stripe settled_one ≡ volume_of Moving 1 1 None 4
  pub admitted : verdict_of Keep (walking_volume 0) (label 1) whole ≡ None

pub record MakingExamples : Type 0 where
  pub created : CreatedBy mirror mirror_label 2 1 whole (carried (clear_places ∷ headed first ∷ []) whole) first
  pub create_torn : CreateTorn mirror mirror_label 2 1 whole (cut_in clear_places on_first whole)
  pub create_without_zeros : Passed (crew Before mirror mirror) clear_places whole whole → ⊥
  pub opened : OpensTo mirror_label (label 1) mirror stripe (under first) (passed_by (headed first) (under first)) first first
  pub redone : OpensTo mirror_label (label 1) mirror stripe logged_shelf (carried redo_steps logged_shelf) armed disarmed
  pub redo_torn : OpenTorn mirror_label (label 1) mirror stripe logged_shelf (cut_in write_home on_first (passed_by (headed armed) logged_shelf)) armed
  -- another head leads, or the write in the log is not carried out
  pub other_head : OpensTo mirror_label (label 1) mirror stripe (under first) (under first) disarmed disarmed → ⊥
  pub not_redone : Passed (crew Before mirror stripe) write_home logged_shelf logged_shelf → ⊥
