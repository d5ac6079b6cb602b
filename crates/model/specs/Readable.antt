-- When the members that are there have every sector of a layout.
use Rattle.std.specs.Prelude.{◌≡◌, ℕ, ◌+◌, ◌<◌, ◌≤◌, Bool, true, ◌⊎◌, ◌≢◌}
use Rattle.head.specs.declared.TheConstants.{SLOTS_AT}
use Rattle.layout.specs.Geometry.{Geometry, capacity}
use Rattle.layout.specs.Lawful.{Lawful}
use Rattle.shelf.specs.Meaning.{Meaning}
use Rattle.model.specs.Contents.{some}
use Rattle.model.specs.Crew.{Crew, borne, enough}

-- a copy of sector i is there
abbrev pub some_copy : Geometry → (ℕ → Bool) → ℕ → Bool
some_copy g there i = some (λ j. there (g.datum i j).0) g.copies

-- the other peers of its group are there, and the parity
pub record GroupGives (g : Geometry) (there : ℕ → Bool) (i : ℕ) : Type 0 where
  pub any : 0 < g.groups
  pub peers : (b : ℕ) → b < g.peers (g.group i) → (g.peer (g.group i) b ≢ i) → there (g.datum (g.peer (g.group i) b) 0).0 ≡ true
  pub parity : there (g.parity (g.group i)).0 ≡ true

-- every sector has a copy there, or its group gives it
pub record Readable (g : Geometry) (there : ℕ → Bool) : Type 0 where
  pub readable : (i : ℕ) → i < capacity g → (some_copy g there i ≡ true) ⊎ GroupGives g there i

-- a layout and the sectors before it have room
pub record Room (members sectors backup : ℕ) (g : Geometry) : Type 0 where
  pub wide : g.members ≤ members
  pub deep : SLOTS_AT + backup + g.depth ≤ sectors

-- The layout is one of those in force, it has room on the shelf, and the members there are enough: so every sector of it can be had.
pub record InUse (w : Crew) (g : Geometry) (backup : ℕ) (a : Meaning) : Type 0 where
  pub force : (x : Meaning) → enough w x ≡ true → borne g x ≡ true
  pub enough : enough w a ≡ true
  pub room : Room a.members a.sectors backup g

-- Members enough by the test have every sector.
abbrev pub EnoughReads : Type 0
EnoughReads = (g : Geometry) → Lawful g → (a : Meaning) → g.members ≤ a.members → borne g a ≡ true → Readable g a.present
