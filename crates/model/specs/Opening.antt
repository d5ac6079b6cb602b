-- What open finds on a shelf, and what it answers to the head that leads.
use Rattle.std.specs.Prelude.{◌≡◌, ℕ, ◌+◌, ◌-◌, ◌*◌, Bool, true, false, not, ◌&&◌, ◌⊎◌, [], ◌∷◌, Some, None, Ok, Err, Option, Result, ◌==◌, nat_le, nat_lt}
use Rattle.answer.specs.declared.Operation.TheVariants.{Restart, Read}
use Rattle.answer.specs.declared.Refused.{Refused}
use Rattle.answer.specs.declared.Refusal.{Refusal}
use Rattle.answer.specs.declared.Refusal.TheVariants.{NoHead, LabelsDiffer, HeadMisfit, MembersLost, PowerLost, NumbersSpent}
use Rattle.layout.specs.Geometry.{Geometry}
use Rattle.layout.specs.declared.label.Label.{Label}
use Rattle.head.specs.declared.state.Head.{Head}
use Rattle.head.specs.declared.state.Progress.{Progress}
use Rattle.head.specs.declared.state.Progress.TheVariants.{Idle, Moving}
use Rattle.overlap.specs.Homes.{window_of}
use Rattle.shelf.specs.Meaning.{Meaning, Restarts}
use Rattle.model.specs.Crew.{crew, enough}
use Rattle.model.specs.Faults.{OnSector}
use Rattle.model.specs.Ends.{Cut, Names}
use Rattle.model.specs.Heads.{LedBelow, HeadsRead}
use Rattle.model.specs.May.{May, nothing}
use Rattle.model.specs.Knowing.{phase_by}
use Rattle.model.specs.Verdicts.{first_refusal, fits}
use Rattle.head.specs.declared.TheConstants.{HEAD_AT, MOST_NUMBER}

abbrev pub same_label : Label → Label → Bool
same_label l k = (l.kind == k.kind && (l.members == k.members && l.copies == k.copies))
    && (l.reserved == k.reserved && (l.chunk == k.chunk && l.depth == k.depth))

-- an idle head names the source only
abbrev pub target_named : Progress → Label → Bool
target_named Idle target = true
target_named (Moving label p q) target = same_label label target

abbrev pub layouts_named : Head → (source target : Label) → Bool
layouts_named h source target = same_label h.source source && target_named h.progress target

-- p settled and q kept rows can be those of a move
abbrev pub walk_fits : (source target : Geometry) → (size backup p q : ℕ) → Bool
walk_fits s t size backup p q = nat_le p t.rows && (nat_lt (q * s.row_len) (size + s.row_len) && nat_le (window_of s.row_len t.row_len p size q) backup)

abbrev pub progress_fits : Progress → Meaning → (source target : Geometry) → (size backup : ℕ) → Bool
progress_fits Idle a s t size backup = true
progress_fits (Moving label p q) a s t size backup = fits a t backup size && walk_fits s t size backup p q

-- a head is armed for a sector of the volume
abbrev pub logged_fits : Option ℕ → ℕ → Bool
logged_fits None size = true
logged_fits (Some i) size = nat_lt i size

abbrev pub head_fits : Head → Meaning → (source target : Geometry) → Bool
head_fits h a s t = logged_fits h.armed h.size && (fits a s h.backup h.size && progress_fits h.progress a s t h.size h.backup)

-- an armed head needs a number to disarm it
abbrev pub cannot_disarm : Option ℕ → ℕ → Bool
cannot_disarm None number = false
cannot_disarm (Some i) number = nat_lt (MOST_NUMBER - number) 1

-- open's verdict on the head that leads
abbrev pub head_verdict : Head → Meaning → (sourceLabel targetLabel : Label) → (source target : Geometry) → Option Refusal
head_verdict h a sl tl s t = first_refusal (
    (not (layouts_named h sl tl), LabelsDiffer)
    ∷ (not (head_fits h a s t), HeadMisfit)
    ∷ (not (enough (crew (phase_by h.progress) s t) a), MembersLost)
    ∷ (cannot_disarm h.armed h.number, NumbersSpent)
    ∷ [])

-- no member holds a head, or what the one that leads is answered
abbrev pub open_verdict : Option Head → Meaning → (sourceLabel targetLabel : Label) → (source target : Geometry) → Option Refusal
open_verdict None a sl tl s t = Some NoHead
open_verdict (Some h) a sl tl s t = head_verdict h a sl tl s t

-- the shelf came on, and of the heads that its members hold then this one leads
pub record Searched (a b : Meaning) (found : Option Head) : Type 0 where
  pub restarted : Meaning
  pub restarts : Restarts a restarted true
  pub looked : HeadsRead restarted b
  pub led : LedBelow b b.members found

-- the shelf did not come on
pub record StaysOff (a b : Meaning) (e : Refused) : Type 0 where
  pub restarts : Restarts a b false
  pub refused : e ≡ record { refusal = PowerLost; fault = Some (record { operation = Restart; member = 0; sector = 0; row = None }) }

-- it came on, and the power went at a read of a head
pub record GoesDark (a b : Meaning) (e : Refused) : Type 0 where
  pub restarted : Meaning
  pub restarts : Restarts a restarted true
  pub may : May nothing restarted b
  pub cut : Cut b e
  pub fault : Names (OnSector Read restarted HEAD_AT) e.fault

-- a restart and a search for the head that leads
abbrev pub Restarted : Meaning → Meaning → Result (Option Head) Refused → Type 0
Restarted a b (Ok found) = Searched a b found
Restarted a b (Err e) = StaysOff a b e ⊎ GoesDark a b e
