-- What looks at places and at sectors give.
use Rattle.std.specs.Prelude.{◌≡◌, ℕ, zero, suc, ◌+◌, ◌%◌, ◌<◌, ◌≤◌, Bool, true, false, cond, List, ◌≢◌, nat_eq, Some, None, Option, Result}
use Rattle.answer.specs.declared.Operation.{Operation}
use Rattle.answer.specs.declared.Operation.TheVariants.{Read}
use Rattle.answer.specs.declared.Fault.{Fault}
use Rattle.answer.specs.declared.Refused.{Refused}
use Rattle.sector.specs.Folds.{folded}
use Rattle.layout.specs.Geometry.{Geometry, capacity}
use Rattle.layout.specs.declared.TheConstants.{MOST_DEPTH}
use Rattle.overlap.specs.declared.walk.Home.{Home}
use Rattle.overlap.specs.declared.walk.Home.TheVariants.{Source, Target, Backup}
use Rattle.head.specs.declared.TheConstants.{SLOTS_AT}
use Rattle.head.specs.Heads.{kept_rows, settled_rows}
use Rattle.shelf.specs.Meaning.{Meaning}
use Rattle.model.specs.Contents.{at, home_in}
use Rattle.model.specs.Crew.{Crew}
use Rattle.model.specs.Reading.{content_at, parity_at}
use Rattle.model.specs.Ends.{GoesOn, Stage}
use Rattle.model.specs.Faults.{Either, NamesSector, OnSector}
use Rattle.model.specs.May.{May, nothing}
use Rattle.model.specs.Readable.{InUse, Room, some_copy}
use Rattle.stage.specs.declared.array.Array.{Array}

-- an operation on a sector of the body of a member that was there
pub record OnBody (op : Operation) (backup : ℕ) (a : Meaning) (f : Fault) : Type 0 where
  pub operation : f.operation ≡ op
  pub there : a.present f.member ≡ true
  pub sector : SLOTS_AT + backup ≤ f.sector
  pub inside : NamesSector op f.sector a
  pub row : f.row ≡ None

-- a member is there as long as members are enough
pub record Sure (w : Crew) (m : ℕ) (a : Meaning) : Type 0 where
  pub there : (x : Meaning) → May nothing a x → GoesOn w a x → x.present m ≡ true

-- a sector that each member has, of whom one is there as long as members are enough
pub record OneSure (w : Crew) (t : ℕ) (a : Meaning) : Type 0 where
  pub someone : (x : Meaning) → May nothing a x → GoesOn w a x → ((k : ℕ) → x.present k ≡ false) → ⊥
  pub below : t < a.sectors

-- what lies at a place, read of a member that is there
pub record Lies (backup : ℕ) (p : ℕ × ℕ) (b : Meaning) (content : List ℕ) : Type 0 where
  pub there : b.present p.0 ≡ true
  pub is : p.1 < MOST_DEPTH → SLOTS_AT + backup + p.1 < b.sectors → content ≡ at b backup p

abbrev pub ReadPlace : ℕ → ℕ × ℕ → Meaning → Option (List ℕ) → Type 0
ReadPlace backup p b (Some content) = Lies backup p b content
ReadPlace backup p b None = b.present p.0 ≡ false

-- a content with what lies at a place folded in
pub record FoldsPlace (backup : ℕ) (p : ℕ × ℕ) (b : Meaning) (old new : List ℕ) : Type 0 where
  pub is : p.1 < MOST_DEPTH → SLOTS_AT + backup + p.1 < b.sectors → new ≡ folded old (at b backup p)

-- the first n contents folded into one, those left out that are skipped
abbrev pub gathered_on : (ℕ → Bool) → (ℕ → List ℕ) → List ℕ → ℕ → List ℕ
gathered_on skip f x zero = x
gathered_on skip f x (suc n) = cond (skip n) (gathered_on skip f x n) (folded (gathered_on skip f x n) (f n))

-- what the first copy of a peer holds
abbrev pub peer_at : Geometry → Meaning → (backup x : ℕ) → ℕ → List ℕ
peer_at g a backup x k = at a backup (g.datum (g.peer x k) 0)

-- the first n peers of a group but sector i are there, and folded into a content
pub record OthersFolded (g : Geometry) (backup x i n : ℕ) (b : Meaning) (old new : List ℕ) : Type 0 where
  pub each : (k : ℕ) → k < n → (g.peer x k ≢ i) → b.present (g.datum (g.peer x k) 0).0 ≡ true
  pub is : new ≡ gathered_on (λ k. nat_eq (g.peer x k) i) (peer_at g b backup x) old n

-- another peer is not there
pub record PeerGone (g : Geometry) (x i : ℕ) (b : Meaning) : Type 0 where
  pub index : ℕ
  pub below : index < g.peers x
  pub other : g.peer x index ≢ i
  pub gone : b.present (g.datum (g.peer x index) 0).0 ≡ false

abbrev pub FoldsOthers : Geometry → (backup x i : ℕ) → Meaning → List ℕ → Option (List ℕ) → Type 0
FoldsOthers g backup x i b old (Some new) = OthersFolded g backup x i (g.peers x) b old new
FoldsOthers g backup x i b old None = PeerGone g x i b

-- a group that the layout has, on a shelf that has room for the layout
pub record HasGroup (g : Geometry) (backup x : ℕ) (a : Meaning) : Type 0 where
  pub below : x < g.groups
  pub room : Room a.members a.sectors backup g

-- a sector of a layout in force
pub record HasSector (w : Crew) (g : Geometry) (backup i : ℕ) (a : Meaning) : Type 0 where
  pub of : InUse w g backup a
  pub below : i < capacity g

-- of which no copy is there
pub record NoCopy (w : Crew) (g : Geometry) (backup i : ℕ) (a : Meaning) : Type 0 where
  pub has : HasSector w g backup i a
  pub none : some_copy g a.present i ≡ false

-- of whose group another peer is not there
pub record LostPeer (w : Crew) (g : Geometry) (backup i : ℕ) (a : Meaning) : Type 0 where
  pub has : HasSector w g backup i a
  pub any : 0 < g.groups
  pub lost : PeerGone g (g.group i) i a

-- a look of which each answer is given by the members that are there at its end
abbrev pub Shows : Crew → (Fault → Type 0) → (a b : Meaning) → (Meaning → List ℕ) → Result (List ℕ) Refused → Type 0
Shows w F a b f r = Stage w nothing F a b (λ x. x ≡ f b) r

-- x is the layout of a home; a backup slot is in none
abbrev pub InLayout : Home → (source target x : Geometry) → Type 0
InLayout Source s t x = x ≡ s
InLayout Target s t x = x ≡ t
InLayout Backup s t x = ⊥

-- where the sectors of an array live
abbrev pub homes_of : {L : Type 0} → (L → Geometry) → Array L → ℕ → Home
homes_of place a i = home_in a.phase (place a.source) (place a.target) (settled_rows a.head.progress) (kept_rows a.head.progress) i

-- What a look at sector i needs of its home: the layout is in force and has the sector. The slots stand before the places of a layout in force.
abbrev pub HomeHas : Home → Crew → (source target : Geometry) → (backup i : ℕ) → Meaning → Type 0
HomeHas Source w s t backup i a = HasSector w s backup i a
HomeHas Target w s t backup i a = HasSector w t backup i a
HomeHas Backup w s t backup i a = InUse w s backup a

-- an operation on a place or on a slot
abbrev pub OnHome : Operation → (backup i : ℕ) → Meaning → Fault → Type 0
OnHome op backup i a = Either (OnBody op backup a) (OnSector op a (SLOTS_AT + i % backup))

abbrev pub ShowsSector : Home → Crew → (source target : Geometry) → (backup i : ℕ) → (a b : Meaning) → Result (List ℕ) Refused → Type 0
ShowsSector h w s t backup i a b r = Shows w (OnHome Read backup i a) a b (λ m. content_at h s t m backup i) r

abbrev pub ShowsParity : Home → Crew → (source target : Geometry) → (backup i : ℕ) → (datum : List ℕ) → (a b : Meaning) → Result (List ℕ) Refused → Type 0
ShowsParity h w s t backup i x a b r = Shows w (OnBody Read backup a) a b (λ m. parity_at h s t m backup i x) r
