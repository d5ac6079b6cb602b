-- Rows of two layouts that share a place.
use Rattle.std.specs.Prelude.{◌≡◌, ℕ, ◌+◌, ◌*◌, ◌/◌, ◌<◌, ◌≤◌}
use Rattle.layout.specs.declared.place.Owner.{Owner}
use Rattle.layout.specs.declared.place.Owner.TheVariants.{Datum, Parity, Nobody}
use Rattle.layout.specs.Geometry.{Geometry, Is, place_of}
use Rattle.layout.specs.Lawful.{Lawful}
use Rattle.overlap.specs.Needs.{need_of}

-- a row is live if its first sector is below the size
abbrev pub Live : Geometry → ℕ → ℕ → Type 0
Live g size s = s * g.row_len < size

-- how many rows are live
pub record LiveRows (g : Geometry) (size k : ℕ) : Type 0 where
  pub live : (s : ℕ) → s < k → Live g size s
  pub all : (s : ℕ) → Live g size s → s < k

-- the row of a copy, and of a parity
abbrev pub owner_row : Geometry → Owner → ℕ
owner_row g (Datum i j) = i / g.row_len
owner_row g (Parity x) = g.peer x 0 / g.row_len
owner_row g Nobody = 0

-- source row s and target row r have a place in common
pub record Shared (source target : Geometry) (s r : ℕ) : Type 0 where
  pub old : Owner
  pub new : Owner
  pub old_is : Is source old
  pub new_is : Is target new
  pub old_row : owner_row source old ≡ s
  pub new_row : owner_row target new ≡ r
  pub place : place_of source old ≡ place_of target new

-- one more than the highest live source row that shares a place with target row r, or 0
pub record Highest (source target : Geometry) (size r n : ℕ) : Type 0 where
  pub above : (s : ℕ) → Live source size s → Shared source target s r → s < n
  pub met : (s : ℕ) → n ≡ s + 1 → Live source size s × Shared source target s r

-- For every two lawful layouts the need of a target row is that number,
abbrev pub NeedIsHighest : Type 0
NeedIsHighest = (s t : Geometry) → Lawful s → Lawful t → (size r : ℕ) → Highest s t size r (need_of s t size r)

-- no other number is,
abbrev pub OneHighest : Type 0
OneHighest = (s t : Geometry) (size r m n : ℕ) → Highest s t size r m → Highest s t size r n → m ≡ n

-- and it is at most the number of live rows.
abbrev pub NeedIsLive : Type 0
NeedIsLive = (s t : Geometry) → Lawful s → Lawful t → (size r k : ℕ) → LiveRows s size k → need_of s t size r ≤ k
