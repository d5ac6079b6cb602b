-- What operations that write by a plan may make of a shelf.
use Rattle.std.specs.Prelude.{◌≡◌, ℕ, ◌+◌, ◌<◌, ◌≤◌, false, ◌⊎◌, List}
use Rattle.head.specs.declared.TheConstants.{SLOTS_AT}
use Rattle.shelf.specs.Meaning.{Meaning}

-- From a to b the shelf saw only operations that write contents that P allows at a member and a sector.
-- The power may have gone, members may have become absent, and anything may have become durable.
pub record May (P : ℕ → ℕ → List ℕ → Type 0) (a b : Meaning) : Type 0 where
  pub members : b.members ≡ a.members
  pub sectors : b.sectors ≡ a.sectors
  pub off_stays : a.on ≡ false → b.on ≡ false
  pub absent_stays : (k : ℕ) → a.present k ≡ false → b.present k ≡ false
  pub current : (k s : ℕ) → (b.current k s ≡ a.current k s) ⊎ P k s (b.current k s)
  pub durable : (k s : ℕ) → (b.durable k s ≡ a.durable k s) ⊎ ((b.durable k s ≡ a.current k s) ⊎ P k s (b.durable k s))

-- plans: nothing, one content at one sector of one member, one content at one sector of any member
abbrev pub nothing : ℕ → ℕ → List ℕ → Type 0
nothing k s x = ⊥

pub record AtCell (m t : ℕ) (c : List ℕ) (k s : ℕ) (x : List ℕ) : Type 0 where
  pub member : k ≡ m
  pub sector : s ≡ t
  pub content : x ≡ c

pub record AtSector (t : ℕ) (c : List ℕ) (k s : ℕ) (x : List ℕ) : Type 0 where
  pub sector : s ≡ t
  pub content : x ≡ c

-- plans of the larger stages: any contents from a sector on, one content there, and any contents in the slots before the body
pub record From (first : ℕ) (k s : ℕ) (x : List ℕ) : Type 0 where
  pub sector : first ≤ s

pub record OneFrom (first : ℕ) (c : List ℕ) (k s : ℕ) (x : List ℕ) : Type 0 where
  pub sector : first ≤ s
  pub content : x ≡ c

pub record InSlots (backup : ℕ) (k s : ℕ) (x : List ℕ) : Type 0 where
  pub sector : SLOTS_AT ≤ s
  pub slot : s < SLOTS_AT + backup

-- by one plan or by another
abbrev pub EitherPlan : (P Q : ℕ → ℕ → List ℕ → Type 0) → ℕ → ℕ → List ℕ → Type 0
EitherPlan P Q k s x = P k s x ⊎ Q k s x
