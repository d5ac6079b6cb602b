-- The laws that every layout keeps.
use Rattle.std.specs.Prelude.{◌≡◌, ℕ, ◌+◌, ◌*◌, ◌/◌, ◌<◌, ◌≤◌, ◌≢◌}
use Rattle.sector.specs.declared.limits.TheConstants.{FEWEST_MEMBERS, MOST_MEMBERS}
use Rattle.layout.specs.declared.place.Owner.{Owner}
use Rattle.layout.specs.declared.place.Owner.TheVariants.{Datum, Parity, Nobody}
use Rattle.layout.specs.Geometry.{Geometry, capacity, Is, place_of}
use Rattle.layout.specs.declared.TheConstants.{MOST_CAPACITY, MOST_DEPTH}

-- the place is on a member and below the depth
pub record Inside (g : Geometry) (p : ℕ × ℕ) : Type 0 where
  pub member : p.0 < g.members
  pub offset : p.1 < g.depth

-- what an owner says of its place
abbrev pub Owns : Geometry → ℕ × ℕ → Owner → Type 0
Owns g p (Datum i j) = Is g (Datum i j) × (g.datum i j ≡ p)
Owns g p (Parity x) = Is g (Parity x) × (g.parity x ≡ p)
Owns g p Nobody = Unit {0}

-- a sector is one of its group's
pub record Joined (g : Geometry) (i : ℕ) : Type 0 where
  pub group : g.group i < g.groups
  pub index : ℕ
  pub index_below : index < g.peers (g.group i)
  pub is : g.peer (g.group i) index ≡ i

-- a sector of a group
pub record Peer (g : Geometry) (x a : ℕ) : Type 0 where
  pub sector : g.peer x a < capacity g
  pub group : g.group (g.peer x a) ≡ x
  pub row : g.peer x a / g.row_len ≡ g.peer x 0 / g.row_len

-- the numbers within which every layout stays
pub record Limits (g : Geometry) : Type 0 where
  pub members_least : FEWEST_MEMBERS ≤ g.members
  pub members_most : g.members ≤ MOST_MEMBERS
  pub depth_most : g.depth ≤ MOST_DEPTH
  pub copies_some : 1 ≤ g.copies
  pub copies_most : g.copies ≤ g.members
  pub row_some : 1 ≤ g.row_len
  pub rows_some : 1 ≤ g.rows
  pub capacity_most : g.rows * g.row_len ≤ MOST_CAPACITY

-- how many members may be absent: one less than the copies, and one with parity
pub record Loss (g : Geometry) : Type 0 where
  pub of_copies : g.groups ≡ 0 → g.loss + 1 ≡ g.copies
  pub of_parity : 0 < g.groups → (g.copies ≡ 1) × (g.loss ≡ 1)

-- each place names its owner back, and the copies of a sector lie on different members
pub record Placing (g : Geometry) : Type 0 where
  pub inside : (o : Owner) → Is g o → Inside g (place_of g o)
  pub back : (o : Owner) → Is g o → g.owner (place_of g o) ≡ o
  pub owned : (p : ℕ × ℕ) → Owns g p (g.owner p)
  pub apart : (i j k : ℕ) → i < g.rows * g.row_len → j < g.copies → k < g.copies → (g.datum i j).0 ≡ (g.datum i k).0 → j ≡ k

-- with parity each sector is in just one group, no group is empty, and its sectors and its parity lie in one row and on different members
pub record Grouping (g : Geometry) : Type 0 where
  pub joined : (i : ℕ) → 0 < g.groups → i < g.rows * g.row_len → Joined g i
  pub some : (x : ℕ) → x < g.groups → 1 ≤ g.peers x
  pub peer_is : (x a : ℕ) → x < g.groups → a < g.peers x → Peer g x a
  pub rise : (x a b : ℕ) → x < g.groups → a < b → b < g.peers x → g.peer x a < g.peer x b
  pub peers_apart : (x a b : ℕ) → x < g.groups → a < g.peers x → b < g.peers x → (g.datum (g.peer x a) 0).0 ≡ (g.datum (g.peer x b) 0).0 → a ≡ b
  pub parity_apart : (x a : ℕ) → x < g.groups → a < g.peers x → (g.parity x).0 ≢ (g.datum (g.peer x a) 0).0

pub record Lawful (g : Geometry) : Type 0 where
  pub limits : Limits g
  pub loss : Loss g
  pub placing : Placing g
  pub grouping : Grouping g
