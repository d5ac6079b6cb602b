-- A checkpoint: the next head on every present member, durable.
use Rattle.std.specs.Prelude.{◌≡◌, ℕ, ◌⊎◌, None, Ok, Err, Option, Result}
use Rattle.answer.specs.declared.Refusal.TheVariants.{NumbersSpent}
use Rattle.answer.specs.declared.Refused.{Refused}
use Rattle.layout.specs.declared.label.Label.{Label}
use Rattle.head.specs.Checkpoints.{Next}
use Rattle.head.specs.Heads.{Fits}
use Rattle.head.specs.declared.state.Head.{Head}
use Rattle.head.specs.declared.state.Progress.{Progress}
use Rattle.shelf.specs.Meaning.{Meaning}
use Rattle.model.specs.Crew.{Crew}
use Rattle.model.specs.Faults.{OnHeads}
use Rattle.model.specs.Ends.{Met}
use Rattle.model.specs.Images.{headed}
use Rattle.model.specs.Steps.{Passed, Torn}
use Rattle.head.specs.declared.TheConstants.{MOST_NUMBER}

-- no number is left, and nothing was done
pub record Spent (h : Head) (a b : Meaning) (e : Refused) : Type 0 where
  pub last : h.number ≡ MOST_NUMBER
  pub refused : e ≡ record { refusal = NumbersSpent; fault = None }
  pub same : b ≡ a

-- power or members went while the next head was written
pub record Midway (w : Crew) (h : Head) (s : Label) (p : Progress) (i : Option ℕ) (a b : Meaning) (e : Refused) : Type 0 where
  pub head : Head
  pub next : Next h s p i head
  pub fits : Fits head
  pub torn : Torn (headed head) a b
  pub met : Met w (OnHeads a) b e

-- from the last checkpoint h to k: done, that head stands on every member that is there
abbrev pub Checkpointed : Crew → Label → Progress → Option ℕ → (h k : Head) → (a b : Meaning) → Result Unit Refused → Type 0
Checkpointed w s p i h k a b (Ok x) = Next h s p i k × Passed w (headed k) a b
Checkpointed w s p i h k a b (Err e) = (k ≡ h) × (Spent h a b e ⊎ Midway w h s p i a b e)
