-- Whole rows: saved into the backup slots, and placed in the target.
use Rattle.std.specs.Prelude.{◌≡◌, ℕ, ◌+◌, ◌-◌, ◌*◌, ◌/◌, ◌%◌, ◌<◌, ◌≤◌, cond, nat_lt, List, Result}
use Rattle.answer.specs.declared.Refused.{Refused}
use Rattle.head.specs.declared.TheConstants.{SLOTS_AT}
use Rattle.layout.specs.Geometry.{Geometry, Is, place_of}
use Rattle.layout.specs.declared.place.Owner.{Owner}
use Rattle.layout.specs.declared.place.Owner.TheVariants.{Datum, Parity, Nobody}
use Rattle.overlap.specs.Rows.{owner_row}
use Rattle.overlap.specs.declared.walk.Home.{Home}
use Rattle.overlap.specs.declared.walk.Home.TheVariants.{Source, Target, Backup}
use Rattle.shelf.specs.Meaning.{Meaning}
use Rattle.model.specs.Contents.{padded}
use Rattle.model.specs.Effects.{Readings}
use Rattle.model.specs.Ends.{Stage}
use Rattle.model.specs.Images.{due_of, fresh_row, saved, with_places}
use Rattle.model.specs.Knowing.{Volume}
use Rattle.model.specs.May.{AtSector, nothing}
use Rattle.model.specs.Reading.{content_of, home_by}
use Rattle.model.specs.Steps.{SeenBy}
use Rattle.stage.specs.Done.{WrittenAll, WrittenAt}
use Rattle.stage.specs.Endings.{Carries, OnMember, reads_and_writes}

-- a cell of an owner of which W holds, and one of a row
pub record OfOwner (g : Geometry) (backup : ℕ) (W : Owner → Type 0) (k n : ℕ) : Type 0 where
  pub owner : Owner
  pub is : Is g owner
  pub which : W owner
  pub member : k ≡ (place_of g owner).0
  pub sector : n ≡ SLOTS_AT + backup + (place_of g owner).1

abbrev pub InRow : Geometry → (backup row : ℕ) → (k n : ℕ) → Type 0
InRow g backup row k n = OfOwner g backup (λ o. owner_row g o ≡ row) k n

-- A cell that a look at sector i may read: one of its row in its home's layout, or its slot.
abbrev pub MayRead : Home → (source target : Geometry) → (backup i : ℕ) → (k n : ℕ) → Type 0
MayRead Source s t backup i k n = InRow s backup (i / s.row_len) k n
MayRead Target s t backup i k n = InRow t backup (i / t.row_len) k n
MayRead Backup s t backup i k n = n ≡ SLOTS_AT + i % backup

-- what members gave of a sector meanwhile, in its slot on every member
pub record SavesSector (v : Volume) (i : ℕ) (a b : Meaning) (r : Result Unit Refused) : Type 0 where
  pub content : List ℕ
  pub given : SeenBy v.crew a b (λ m. content_of v m i) content
  pub stage : Stage v.crew (AtSector (SLOTS_AT + i % v.backup) content) (OnMember reads_and_writes a) a b (λ u. WrittenAll (SLOTS_AT + i % v.backup) content b) r

-- Sectors that can be saved one after another: they live in the source, of which no place is a slot, and each has a slot of its own.
pub record Savable (v : Volume) (from to : ℕ) : Type 0 where
  pub homes : (i : ℕ) → from ≤ i → i < to → home_by v i ≡ Source
  pub slots : to ≤ from + v.backup

-- saved by contents that members gave meanwhile
pub record SavesBy (v : Volume) (from to : ℕ) (a b : Meaning) (r : Result Unit Refused) : Type 0 where
  pub content : ℕ → List ℕ
  pub given : Readings v a b content
  pub carries : Carries v.crew reads_and_writes (saved v.backup content from (to - from)) a b r

-- a look at what a row is to hold of sector i: its content, and zeros from the size on
abbrev pub LooksAhead : Volume → ℕ → (a b : Meaning) → Result (List ℕ) Refused → Type 0
LooksAhead v i a b r = Stage v.crew nothing (OnMember reads_and_writes a) a b (λ x. x ≡ padded v.size (content_of v b) i) r

-- what these contents make due in cells of owners of which W holds
pub record DueAt (g : Geometry) (backup : ℕ) (W : Owner → Type 0) (c : ℕ → List ℕ) (k n : ℕ) (x : List ℕ) : Type 0 where
  pub cell : OfOwner g backup W k n
  pub content : x ≡ due_of g c cell.owner

-- in the body, and where Q holds, that
pub record PlansDue (Q : Type 0) (g : Geometry) (backup : ℕ) (W : Owner → Type 0) (c : ℕ → List ℕ) (k n : ℕ) (x : List ℕ) : Type 0 where
  pub sector : SLOTS_AT + backup ≤ n
  pub due : Q → DueAt g backup W c k n x

-- it is there in all of them, where their members are there
abbrev pub HoldsDue : Geometry → ℕ → (Owner → Type 0) → (ℕ → List ℕ) → Meaning → Type 0
HoldsDue g backup W c b = (o : Owner) → Is g o → W o → WrittenAt (place_of g o).0 (SLOTS_AT + backup + (place_of g o).1) (due_of g c o) b

-- Places of the target, of the owners of which W holds, are written by contents that members gave meanwhile: where Q holds, and else any of the body.
pub record PlacesWith (v : Volume) (Q : Type 0) (W : Owner → Type 0) (content : ℕ → List ℕ) (a b : Meaning) (r : Result Unit Refused) : Type 0 where
  pub given : Q → Readings v a b content
  pub stage : Stage v.crew (PlansDue Q v.crew.target v.backup W (padded v.size content)) (OnMember reads_and_writes a) a b
      (λ u. Q → HoldsDue v.crew.target v.backup W (padded v.size content) b) r

abbrev pub PlacesBy : Volume → Type 0 → (Owner → Type 0) → (a b : Meaning) → Result Unit Refused → Type 0
PlacesBy v Q W a b r = (content : ℕ → List ℕ) × PlacesWith v Q W content a b r

-- the copies of sector i, and what belongs to group x
abbrev pub CopyOf : ℕ → Owner → Type 0
CopyOf i (Datum n j) = n ≡ i
CopyOf i o = ⊥

abbrev pub InGroup : Geometry → ℕ → Owner → Type 0
InGroup g x (Datum i j) = g.group i ≡ x
InGroup g x (Parity y) = y ≡ x
InGroup g x Nobody = ⊥

-- the sector that leads an owner: the first of its group, or itself
abbrev pub lead_of : Geometry → Owner → ℕ
lead_of g (Datum i j) = cond (nat_lt 0 g.groups) (g.peer (g.group i) 0) i
lead_of g (Parity x) = g.peer x 0
lead_of g Nobody = 0

abbrev pub LedBy : Geometry → ℕ → Owner → Type 0
LedBy g n o = lead_of g o ≡ n

-- A row of the target that can be placed while its sectors are read: no look at one of them reads a cell of the row.
pub record Placeable (v : Volume) (row : ℕ) : Type 0 where
  pub below : row < v.crew.target.rows
  pub apart : (i : ℕ) → i / v.crew.target.row_len ≡ row → i < v.size → (k n : ℕ) → InRow v.crew.target v.backup row k n
      → MayRead (home_by v i) v.crew.source v.crew.target v.backup i k n → ⊥

-- A group that can be written while its sectors are read: its row can be placed.
pub record GroupReady (v : Volume) (x : ℕ) : Type 0 where
  pub below : x < v.crew.target.groups
  pub can : Placeable v (v.crew.target.peer x 0 / v.crew.target.row_len)

-- the same of a row, with the range of its sectors
pub record PlaceableRow (v : Volume) (row from to : ℕ) : Type 0 where
  pub can : Placeable v row
  pub start : from ≡ row * v.crew.target.row_len
  pub end : to ≡ (row + 1) * v.crew.target.row_len

-- a row placed afresh by contents that members gave meanwhile
pub record PlacesRow (v : Volume) (row : ℕ) (a b : Meaning) (r : Result Unit Refused) : Type 0 where
  pub content : ℕ → List ℕ
  pub given : Readings v a b content
  pub carries : Carries v.crew reads_and_writes (λ f. with_places v.crew.target v.backup (fresh_row v.crew.target row (padded v.size content)) f) a b r
