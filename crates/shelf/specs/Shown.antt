-- What a look at a sector gives.
use Rattle.std.specs.Prelude.{◌≡◌, ℕ, ◌<◌, List, Some, None, Option}
use Rattle.shelf.specs.Meaning.{Meaning}

-- the current content of a sector that the shelf has
abbrev pub Shown : (m s : ℕ) → Meaning → Option (List ℕ) → Type 0
Shown m s a (Some content) = (m < a.members) × (s < a.sectors) × (content ≡ a.current m s)
Shown m s a None = (m < a.members) × (s < a.sectors) → ⊥
