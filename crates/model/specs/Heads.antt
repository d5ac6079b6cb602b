-- The heads that members hold, and the one that leads.
use Rattle.std.specs.Prelude.{◌≡◌, ℕ, ◌<◌, ◌≤◌, true, Some, None, Ok, Err, Option, Result}
use Rattle.head.specs.declared.TheConstants.{HEAD_AT}
use Rattle.answer.specs.declared.Operation.TheVariants.{Read}
use Rattle.answer.specs.declared.Refused.{Refused}
use Rattle.head.specs.Heads.{Fits, head_bytes}
use Rattle.head.specs.declared.state.Head.{Head}
use Rattle.shelf.specs.Meaning.{Meaning}
use Rattle.model.specs.Faults.{OnCell, OnSector}
use Rattle.model.specs.Ends.{Cut, Names}
use Rattle.model.specs.May.{May, nothing}

-- member k is there, and its first sector is the bytes of h
pub record HoldsHead (b : Meaning) (k : ℕ) (h : Head) : Type 0 where
  pub there : b.present k ≡ true
  pub some : HEAD_AT < b.sectors
  pub bytes : b.current k HEAD_AT ≡ head_bytes h
  pub fits : Fits h

-- h leads among the heads of the first n members: it has the highest number, and at a tie it is the lowest member's
pub record LedBy (b : Meaning) (n : ℕ) (h : Head) : Type 0 where
  pub member : ℕ
  pub below : member < n
  pub held : HoldsHead b member h
  pub highest : (k : ℕ) (g : Head) → k < n → HoldsHead b k g → g.number ≤ h.number
  pub lowest : (k : ℕ) (g : Head) → k < member → HoldsHead b k g → g.number < h.number

-- the head that leads among the first n members, or none of them holds one
abbrev pub LedBelow : Meaning → ℕ → Option Head → Type 0
LedBelow b n (Some h) = LedBy b n h
LedBelow b n None = (k : ℕ) (g : Head) → k < n → HoldsHead b k g → ⊥

-- what member k holds as its head, if it is there and holds one
abbrev pub HeadOf : Meaning → ℕ → Option Head → Type 0
HeadOf b k (Some h) = HoldsHead b k h
HeadOf b k None = (g : Head) → HoldsHead b k g → ⊥

-- heads were read: nothing was written, and power that was on is on
pub record HeadsRead (a b : Meaning) : Type 0 where
  pub may : May nothing a b
  pub on : a.on ≡ true → b.on ≡ true

abbrev pub ReadHead : ℕ → Meaning → Meaning → Result (Option Head) Refused → Type 0
ReadHead k a b (Ok found) = HeadsRead a b × HeadOf b k found
ReadHead k a b (Err e) = May nothing a b × Cut b e × Names (OnCell Read a k HEAD_AT) e.fault

-- The search of all members for the head that leads.
abbrev pub FoundHead : Meaning → Meaning → Result (Option Head) Refused → Type 0
FoundHead a b (Ok found) = HeadsRead a b × LedBelow b b.members found
FoundHead a b (Err e) = May nothing a b × Cut b e × Names (OnSector Read a HEAD_AT) e.fault
