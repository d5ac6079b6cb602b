-- Looks at a shelf's sectors.
use Rattle.std.specs.Prelude.{◌≡◌, ℕ, ◌<◌, true, false, List, [], Some, None, Option}
use Rattle.shelf.specs.Meaning.{Meaning}
use Rattle.model.specs.Contents.{held, padded}
use Rattle.model.specs.Disks.{Disk}
use Rattle.model.specs.Images.{due_of, is_used}
use Rattle.layout.specs.Geometry.{Geometry, capacity}
use Rattle.layout.specs.declared.place.Owner.{Owner}

abbrev pub Seen : Meaning → ℕ → ℕ → Option (List ℕ) → Type 0
Seen a k s None = held a k s ≡ []
Seen a k s (Some x) = held a k s ≡ x

-- what a fresh placement has for an owner, if anything
abbrev pub FreshAt : Geometry → Disk → Owner → Option (List ℕ) → Type 0
FreshAt g d o None = is_used o ≡ false
FreshAt g d o (Some x) = (is_used o ≡ true) × (x ≡ due_of g (padded d.size d.content) o)

-- the sector is in no group
abbrev pub NoGroup : Geometry → ℕ → Type 0
NoGroup g i = (0 < g.groups) × (i < capacity g) → ⊥
