-- Which head follows another, and which of two leads.
use Rattle.std.specs.Prelude.{◌≡◌, ℕ, ◌+◌, ◌<◌, ◌≤◌, Some, None, Option}
use Rattle.layout.specs.declared.label.Label.{Label}
use Rattle.head.specs.declared.state.Head.{Head}
use Rattle.head.specs.declared.state.Progress.{Progress}
use Rattle.head.specs.declared.TheConstants.{MOST_NUMBER}

-- k is the checkpoint after h with this source, this progress and this logged sector
pub record Next (h : Head) (s : Label) (p : Progress) (a : Option ℕ) (k : Head) : Type 0 where
  pub left : h.number < MOST_NUMBER
  pub number : k.number ≡ h.number + 1
  pub source : k.source ≡ s
  pub progress : k.progress ≡ p
  pub size : k.size ≡ h.size
  pub backup : k.backup ≡ h.backup
  pub armed : k.armed ≡ a

-- r is the one with the higher number, the first at a tie
abbrev pub Leads : Option Head → Option Head → Option Head → Type 0
Leads None b r = r ≡ b
Leads (Some h) None r = r ≡ Some h
Leads (Some h) (Some k) r = (h.number < k.number → r ≡ Some k) × (k.number ≤ h.number → r ≡ Some h)
