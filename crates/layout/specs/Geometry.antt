-- What a layout places where.
use Rattle.std.specs.Prelude.{◌≡◌, ℕ, ◌*◌, ◌<◌, Some, None, Option, ◌≢◌}
use Rattle.layout.specs.declared.place.Owner.{Owner}
use Rattle.layout.specs.declared.place.Owner.TheVariants.{Datum, Parity, Nobody}

-- A place is a member and an offset. Without parity there are no groups.
pub record Geometry : Type 0 where
  -- the members that it lies on, the used sectors of each, the copies of a sector, and how many members may be absent
  pub members : ℕ
  pub depth : ℕ
  pub copies : ℕ
  pub loss : ℕ
  -- the sectors of a row, the rows, and the groups
  pub row_len : ℕ
  pub rows : ℕ
  pub groups : ℕ
  -- where copy j of sector i lies
  pub datum : ℕ → ℕ → ℕ × ℕ
  -- the group of a sector, the number of a group's sectors, and its sectors in rising order
  pub group : ℕ → ℕ
  pub peers : ℕ → ℕ
  pub peer : ℕ → ℕ → ℕ
  -- where the parity of a group lies
  pub parity : ℕ → ℕ × ℕ
  -- what lies at a place
  pub owner : ℕ × ℕ → Owner

abbrev pub capacity : Geometry → ℕ
capacity g = g.rows * g.row_len

-- the copies and parities that the layout has
abbrev pub Is : Geometry → Owner → Type 0
Is g (Datum i j) = (i < capacity g) × (j < g.copies)
Is g (Parity x) = x < g.groups
Is g Nobody = ⊥

abbrev pub place_of : Geometry → Owner → ℕ × ℕ
place_of g (Datum i j) = g.datum i j
place_of g (Parity x) = g.parity x
place_of g Nobody = (0, 0)

-- x where P holds, else d
abbrev pub Only : {A : Type 0} → A → Type 0 → A → A → Type 0
Only r P x d = (P → r ≡ x) × ((P → ⊥) → r ≡ d)

-- the group of a sector, where there is one
abbrev pub GroupAt : Geometry → ℕ → Option ℕ → Type 0
GroupAt g i None = (0 < g.groups) × (i < capacity g) → ⊥
GroupAt g i (Some x) = (0 < g.groups) × (i < capacity g) × (x ≡ g.group i)

-- the group that a sector leads, being the first of its peers
abbrev pub LedAt : Geometry → ℕ → Option ℕ → Type 0
LedAt g i None = (0 < g.groups) × (i < capacity g) → g.peer (g.group i) 0 ≢ i
LedAt g i (Some x) = (0 < g.groups) × (i < capacity g) × (x ≡ g.group i) × (g.peer x 0 ≡ i)
