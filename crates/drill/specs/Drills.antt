-- What a drill shelf means, and what its operations do by the schedule, beside the rules of every shelf.
use Rattle.std.specs.Prelude.{◌≡◌, ℕ, ◌+◌, ◌-◌, ◌^◌, min, Bool, false, cond, List, Result, Ok, Err}
use Rattle.answer.specs.declared.Refusal.{Refusal}
use Rattle.shelf.specs.Meaning.{Meaning}
use Rattle.shelf.specs.Trials.{Trial, means}
use Rattle.shelf.specs.Answers.{Answer}
use Rattle.shelf.specs.declared.Failure.TheVariants.{Off}
use Rattle.drill.specs.Schedules.{goes, goes_before, power_due}
use Rattle.drill.specs.declared.Control.{Control}
use Rattle.drill.specs.declared.Control.TheVariants.{Incidents, Choices}
use Rattle.drill.specs.declared.schedule.Incident.{Incident}
use Rattle.drill.specs.declared.schedule.Power.{Power}
use Rattle.drill.specs.declared.schedule.Power.TheVariants.{GoesBefore}

-- The whole state of a drill shelf: the shelf within, whether it is dark over it, the number of the next operation, the schedule, the choice words, and how many restarts have taken one.
pub record Drill : Type 0 where
  pub inner : Trial
  pub dark : Bool
  pub clock : ℕ
  pub incidents : List Incident
  pub choices : List ℕ
  pub restarts : ℕ

abbrev pub drill_of : Trial → Bool → ℕ → List Incident → List ℕ → ℕ → Drill
drill_of inner dark clock incidents choices restarts = record { inner = inner; dark = dark; clock = clock; incidents = incidents; choices = choices; restarts = restarts }

-- a new one, at operation 0
abbrev pub new_drill : Trial → List Incident → List ℕ → Drill
new_drill inner incidents choices = drill_of inner false 0 incidents choices 0

-- another schedule, from where the clock is
abbrev pub with_incidents : Drill → List Incident → Drill
with_incidents a incidents = drill_of a.inner a.dark a.clock incidents a.choices a.restarts

-- other choice words, from the first one on
abbrev pub with_choices : Drill → List ℕ → Drill
with_choices a choices = drill_of a.inner a.dark a.clock a.incidents choices 0

-- what each control sets
abbrev pub ScheduleSet : Control → Drill → Drill → Result Unit Refusal → Type 0
ScheduleSet (Incidents is) a b r = (b ≡ with_incidents a is.items) × (r ≡ Ok tt)
ScheduleSet (Choices ws) a b r = (b ≡ with_choices a ws.items) × (r ≡ Ok tt)

-- a shelf that is off where it is dark, whatever it is else
abbrev pub darkened : Bool → Meaning → Meaning
darkened dark a = record {
  members = a.members;
  sectors = a.sectors;
  on = cond dark false a.on;
  present = a.present;
  durable = a.durable;
  current = a.current;
}

-- what it means
abbrev pub drill_meaning : Drill → Meaning
drill_meaning d = darkened d.dark (means d.inner)

-- the power is off, and nothing else has changed
pub record Darkens (a b : Meaning) : Type 0 where
  pub members : b.members ≡ a.members
  pub sectors : b.sectors ≡ a.sectors
  pub off : b.on ≡ false
  pub present : (k : ℕ) → b.present k ≡ a.present k
  pub durable : (k s : ℕ) → b.durable k s ≡ a.durable k s
  pub current : (k s : ℕ) → b.current k s ≡ a.current k s

-- an operation has begun: it goes on, and the shelf within is what the drill shelf was; or it is cut off
abbrev pub Begun : Drill → Drill → Answer → Type 0
Begun a b (Ok x) = (b.dark ≡ false) × (means b.inner ≡ drill_meaning a)
Begun a b (Err e) = (e ≡ Off) × Darkens (drill_meaning a) (drill_meaning b)

-- what becomes of the power at the next operation
abbrev pub power_next : Drill → Power
power_next a = power_due a.incidents a.clock

-- the clock one operation on
abbrev pub ticked : ℕ → ℕ
ticked n = min (n + 1) (2 ^ 64 - 1)

-- an operation counts while the power is on
abbrev pub counted : Drill → ℕ
counted a = cond (drill_meaning a).on (ticked a.clock) a.clock

-- the clock stands at n, and the schedule and the choice words are as they were
pub record Timed (n : ℕ) (a b : Drill) : Type 0 where
  pub clock : b.clock ≡ n
  pub incidents : b.incidents ≡ a.incidents
  pub choices : b.choices ≡ a.choices
  pub restarts : b.restarts ≡ a.restarts

-- whether an operation leaves it dark: a dark shelf stays so, and a cut at the end is left to the shelf within
abbrev pub dark_after : Drill → Bool
dark_after a = cond (drill_meaning a).on (goes_before (power_next a)) a.dark

-- an operation by the schedule: in range it counts, and a cut before it lets nothing else happen
pub record Drilled (Inside : Type 0) (a b : Drill) (r : Answer) : Type 0 where
  pub timed : Inside → Timed (counted a) a b
  pub dark : Inside → b.dark ≡ dark_after a
  pub cut : Inside → power_next a ≡ GoesBefore → (r ≡ (Err Off)) × Darkens (drill_meaning a) (drill_meaning b)
  pub refused : (Inside → ⊥) → b ≡ a

-- a restart by the schedule: it always counts, each cut leaves the shelf dark, and one before it lets nothing else happen
pub record DrillRestarts (a b : Drill) : Type 0 where
  pub clock : b.clock ≡ ticked a.clock
  pub restarts : b.restarts ≡ ticked a.restarts
  pub incidents : b.incidents ≡ a.incidents
  pub choices : b.choices ≡ a.choices
  pub dark : b.dark ≡ goes (power_next a)
  pub cut : power_next a ≡ GoesBefore → Darkens (drill_meaning a) (drill_meaning b)
