-- Cells of a grid of n members with h rows.
use Rattle.std.specs.Prelude.{◌≡◌, ℕ, ◌+◌, ◌*◌, ◌<◌, Option, MatchOption}

-- the cell is on a member and in a row
abbrev pub Used : ℕ → ℕ → ℕ × ℕ → Type 0
Used n h p = (p.0 < n) × (p.1 < h)

-- its number, where the cells go round the members
abbrev pub CellNumber : ℕ → ℕ → ℕ × ℕ → Option ℕ → Type 0
CellNumber n h p r = MatchOption r (Used n h p → ⊥) (λ y. (y ≡ p.1 * n + p.0) × (y < h * n) × Used n h p)
