-- The trial shelf, by its controls and its two images.
use Rattle.std.specs.Prelude.{◌≡◌, ℕ, ◌+◌, ◌-◌, ◌*◌, ◌<◌, ◌≤◌, Bool, true, false, cond, ◌⊎◌, List, length, get_or, drop, replicate, Ok, Err, Result, ◌==◌, nat_lt, slice_index_or, slice_set}
use Rattle.sector.specs.declared.TheConstants.{SECTOR}
use Rattle.sector.specs.declared.limits.TheConstants.{MOST_MEMBERS}
use Rattle.shelf.specs.Meaning.{Meaning}
use Rattle.shelf.specs.Runs.{Chosen, InRange, Pulled, RunOf, chosen_of, image_of, sector_at, sector_put}
use Rattle.shelf.specs.Answers.{Answer, done}
use Rattle.shelf.specs.declared.Failure.TheVariants.{Absent, Off, OutOfRange}
use Rattle.shelf.specs.declared.controls.Controls.{Controls}
use Rattle.shelf.specs.declared.trial.Control.{Control}
use Rattle.shelf.specs.declared.trial.Control.TheVariants.{Fuse, Choice, Cut, Loss}
use Rattle.answer.specs.declared.Refusal.{Refusal}
use Rattle.answer.specs.declared.Refusal.TheVariants.{OutOfLimits}
use Rattle.shelf.specs.declared.controls.TheConstants.{NEVER}

-- a fuse above 0 is one shorter, unless it never goes
abbrev pub burnt : ℕ → ℕ
burnt fuse = cond (nat_lt fuse NEVER) (fuse - 1) fuse

-- a loss shows
abbrev pub loss_shown : Controls → ℕ → List Bool
loss_shown c m = cond (slice_index_or c.losing m false) (slice_set c.present m false) c.present

-- the controls after one operation on member m
abbrev pub struck : Controls → ℕ → Controls
struck c m = cond c.on (record { on = cond (c.fuse == 0) false true; fuse = cond (c.fuse == 0) 0 (burnt c.fuse); choice = c.choice; present = loss_shown c m; losing = c.losing }) c

-- what an operation answers, by the controls after it
abbrev pub answer_after : Controls → ℕ → Answer
answer_after c m = cond c.on (cond (slice_index_or c.present m false) done (Err Absent)) (Err Off)

-- the durable image comes first, then the current one
abbrev pub trial_meaning : (members sectors : ℕ) → List ℕ → Controls → Meaning
trial_meaning m z run c = record {
  members = m;
  sectors = z;
  on = c.on;
  present = λ k. cond (nat_lt k m) (slice_index_or c.present k false) false;
  durable = image_of m z run 0;
  current = image_of m z run (m * z);
}

-- both images after a restart has come to member `upto`: each sector of a present member is one content, by the choice word, and no other byte was changed
pub record Brought (m z : ℕ) (c : Controls) (upto : ℕ) (old new : List ℕ) : Type 0 where
  pub long : length new ≡ length old
  pub durable : (k s : ℕ) → k < upto → s < z → slice_index_or c.present k false ≡ true → sector_at new (k * z + s) ≡ chosen_of c.choice (m * z) old (k * z + s)
  pub current : (k s : ℕ) → k < upto → s < z → slice_index_or c.present k false ≡ true → sector_at new (m * z + (k * z + s)) ≡ chosen_of c.choice (m * z) old (k * z + s)
  pub rest_durable : (k s : ℕ) → k < m → s < z → (upto ≤ k) ⊎ (slice_index_or c.present k false ≡ false) → sector_at new (k * z + s) ≡ sector_at old (k * z + s)
  pub rest_current : (k s : ℕ) → k < m → s < z → (upto ≤ k) ⊎ (slice_index_or c.present k false ≡ false) → sector_at new (m * z + (k * z + s)) ≡ sector_at old (m * z + (k * z + s))
  pub rest : (i : ℕ) → m * z * 2 * SECTOR ≤ i → drop i new ≡ drop i old

-- what it makes of one member
pub record BroughtOne (m z : ℕ) (c : Controls) (k : ℕ) (old new : List ℕ) : Type 0 where
  pub there : get_or c.present k false ≡ true → Chosen c.choice (m * z) (k * z) (k * z + z) old new
  pub gone : get_or c.present k false ≡ false → new ≡ old

-- the controls after a restart
abbrev pub restarted : Controls → Controls
restarted c = record { on = true; fuse = NEVER; choice = c.choice; present = c.present; losing = c.losing }

-- The whole state of a trial shelf.
pub record Trial : Type 0 where
  pub members : ℕ
  pub sectors : ℕ
  pub run : List ℕ
  pub controls : Controls

abbrev pub trial_of : ℕ → ℕ → List ℕ → Controls → Trial
trial_of m z run c = record { members = m; sectors = z; run = run; controls = c }

-- what it means
abbrev pub means : Trial → Meaning
means t = trial_meaning t.members t.sectors t.run t.controls

-- after an operation on member k that left such a run
abbrev pub struck_with : Trial → ℕ → List ℕ → Trial
struck_with a k run = trial_of a.members a.sectors run (struck a.controls k)

-- what it answers
abbrev pub answer_of : Trial → ℕ → Answer
answer_of a k = answer_after (struck a.controls k) k

-- where the current content of a sector lies
abbrev pub current_cell : Trial → ℕ → ℕ → ℕ
current_cell a k s = a.members * a.sectors + (k * a.sectors + s)

-- the buffer after a read
abbrev pub given_by : Answer → List ℕ → List ℕ → List ℕ
given_by (Ok x) content old = content
given_by (Err e) content old = old

-- a write reaches the current image of a present member, also when the fuse goes at it
abbrev pub written_run : Trial → ℕ → ℕ → List ℕ → List ℕ
written_run a k s content = cond a.controls.on (cond (slice_index_or (struck a.controls k).present k false) (sector_put a.run (current_cell a k s) content) a.run) a.run

-- a done flush persists the member's sectors, and any other nothing
abbrev pub FlushedRun : Answer → Trial → ℕ → List ℕ → Type 0
FlushedRun (Ok x) a k new = Pulled (a.members * a.sectors) (k * a.sectors) (k * a.sectors + a.sectors) a.run new
FlushedRun (Err e) a k new = new ≡ a.run

-- Each operation, for all arguments: what it leaves, what it answers, and what stands in the buffer.
pub record TrialReads (k s : ℕ) (old new : List ℕ) (a b : Trial) (r : Answer) : Type 0 where
  pub inside : InRange a.members a.sectors k s (length old) → (b ≡ struck_with a k a.run) × (r ≡ answer_of a k) × (new ≡ given_by r (sector_at a.run (current_cell a k s)) old)
  pub outside : (InRange a.members a.sectors k s (length old) → ⊥) → (b ≡ a) × (r ≡ Err OutOfRange) × (new ≡ old)

pub record TrialWrites (k s : ℕ) (content : List ℕ) (a b : Trial) (r : Answer) : Type 0 where
  pub inside : InRange a.members a.sectors k s (length content) → (b ≡ struck_with a k (written_run a k s content)) × (r ≡ answer_of a k)
  pub outside : (InRange a.members a.sectors k s (length content) → ⊥) → (b ≡ a) × (r ≡ Err OutOfRange)

pub record TrialFlushes (k : ℕ) (a b : Trial) (r : Answer) : Type 0 where
  pub inside : k < a.members → (b ≡ struck_with a k b.run) × (r ≡ answer_of a k) × FlushedRun r a k b.run
  pub outside : (k < a.members → ⊥) → (b ≡ a) × (r ≡ Err OutOfRange)

pub record TrialRestarts (a b : Trial) (r : Bool) : Type 0 where
  pub answer : r ≡ true
  pub after : b ≡ trial_of a.members a.sectors b.run (restarted a.controls)
  pub brought : Brought a.members a.sectors a.controls a.members a.run b.run

-- the controls of a new shelf
abbrev pub new_controls : Controls
new_controls = record { on = true; fuse = NEVER; choice = 0; present = replicate MOST_MEMBERS true; losing = replicate MOST_MEMBERS false }

-- a new shelf: as asked for where the run fits, else 2 members without sectors
pub record TrialMade (m z : ℕ) (run : List ℕ) (b : Trial) : Type 0 where
  pub fits : RunOf m z 2 (length run) → b ≡ trial_of m z run new_controls
  pub unfit : (RunOf m z 2 (length run) → ⊥) → b ≡ trial_of 2 0 run new_controls

-- one control set
abbrev pub with_fuse : Controls → ℕ → Controls
with_fuse c fuse = record { on = c.on; fuse = fuse; choice = c.choice; present = c.present; losing = c.losing }

abbrev pub with_choice : Controls → ℕ → Controls
with_choice c choice = record { on = c.on; fuse = c.fuse; choice = choice; present = c.present; losing = c.losing }

abbrev pub with_loss : Controls → ℕ → Controls
with_loss c k = record { on = c.on; fuse = c.fuse; choice = c.choice; present = c.present; losing = slice_set c.losing k true }

-- the shelf with such controls
abbrev pub controlled : Trial → Controls → Trial
controlled a c = trial_of a.members a.sectors a.run c

-- a loss of a member that the shelf has not is out of limits
pub record Loses (k : ℕ) (a b : Trial) (r : Result Unit Refusal) : Type 0 where
  pub inside : k < a.members → (b ≡ controlled a (with_loss a.controls k)) × (r ≡ Ok tt)
  pub outside : (k < a.members → ⊥) → (b ≡ a) × (r ≡ Err OutOfLimits)

-- what each control sets, and what it answers
abbrev pub ControlSet : Control → Trial → Trial → Result Unit Refusal → Type 0
ControlSet (Fuse n) a b r = (b ≡ controlled a (with_fuse a.controls n)) × (r ≡ Ok tt)
ControlSet (Choice n) a b r = (b ≡ controlled a (with_choice a.controls n)) × (r ≡ Ok tt)
ControlSet (Cut c) a b r = (b ≡ controlled a (with_choice (with_fuse a.controls c.fuse) c.choice)) × (r ≡ Ok tt)
ControlSet (Loss k) a b r = Loses k a b r
