-- Writes to places of a layout.
use Rattle.std.specs.Prelude.{◌≡◌, ℕ, ◌+◌, ◌<◌, ◌≤◌, List, Result}
use Rattle.answer.specs.declared.Refused.{Refused}
use Rattle.head.specs.declared.TheConstants.{LOGGED_DATUM_AT, LOGGED_PARITY_AT, SLOTS_AT}
use Rattle.layout.specs.Geometry.{Geometry, capacity}
use Rattle.layout.specs.declared.TheConstants.{MOST_DEPTH}
use Rattle.overlap.specs.declared.walk.Home.{Home}
use Rattle.overlap.specs.declared.walk.Home.TheVariants.{Source, Target, Backup}
use Rattle.shelf.specs.Meaning.{Meaning}
use Rattle.model.specs.Crew.{Crew}
use Rattle.model.specs.Ends.{Stage}
use Rattle.model.specs.Images.{applied, set, with_places}
use Rattle.model.specs.May.{EitherPlan, OneFrom}
use Rattle.model.specs.Reading.{common}
use Rattle.model.specs.Steps.{SeenBy, Step, WrittenBy}
use Rattle.stage.specs.Arrays.{crew_of}
use Rattle.stage.specs.Done.{FlushedAll, FlushedAt, WrittenAt}
use Rattle.stage.specs.Endings.{Carries, OnMember, only_writes, reads_and_writes}
use Rattle.stage.specs.Looks.{homes_of}
use Rattle.stage.specs.declared.array.Array.{Array}

-- one content at a place, which lies in the body
pub record AtPlace (backup : ℕ) (p : ℕ × ℕ) (c : List ℕ) (k s : ℕ) (x : List ℕ) : Type 0 where
  pub member : k ≡ p.0
  pub sector : SLOTS_AT + backup ≤ s
  pub offset : p.1 < MOST_DEPTH → s ≡ SLOTS_AT + backup + p.1
  pub content : x ≡ c

-- the place holds the content, if its member is there
abbrev pub PlaceHolds : ℕ → ℕ × ℕ → List ℕ → Meaning → Type 0
PlaceHolds backup p c b = p.1 < MOST_DEPTH → WrittenAt p.0 (SLOTS_AT + backup + p.1) c b

-- one content in the body, at a copy of sector i where the layout has that sector
pub record AtCopies (g : Geometry) (backup i : ℕ) (c : List ℕ) (k s : ℕ) (x : List ℕ) : Type 0 where
  pub sector : SLOTS_AT + backup ≤ s
  pub content : x ≡ c
  pub copy : i < capacity g → (j : ℕ) × (j < g.copies) × AtPlace backup (g.datum i j) c k s x

-- the first n copies of sector i hold the content, on the members that are there
abbrev pub CopiesHold : Geometry → (backup i n : ℕ) → List ℕ → Meaning → Type 0
CopiesHold g backup i n c b = i < capacity g → (j : ℕ) → j < n → PlaceHolds backup (g.datum i j) c b

-- by a plan, and where Q holds by a step
pub record InStep (Q : Type 0) (P : ℕ → ℕ → List ℕ → Type 0) (f : Step) (a : Meaning) (k s : ℕ) (x : List ℕ) : Type 0 where
  pub plan : P k s x
  pub step : Q → x ≡ f a.current k s

-- a stage that only writes, and where Q holds writes all of a step
abbrev pub WritesStep : Crew → (Q : Type 0) → (ℕ → ℕ → List ℕ → Type 0) → Step → (a b : Meaning) → Result Unit Refused → Type 0
WritesStep w Q P f a b r = Stage w (InStep Q P f a) (OnMember only_writes a) a b (λ u. Q → WrittenBy f a b) r

-- from a sector on, one of two contents
abbrev pub EitherOf : ℕ → (x y : List ℕ) → ℕ → ℕ → List ℕ → Type 0
EitherOf first x y = EitherPlan (OneFrom first x) (OneFrom first y)

-- a write of sector i, and of the parity of its group, to the places of a layout
abbrev pub WritesPlaces : Crew → Geometry → (backup i : ℕ) → (datum parity : List ℕ) → (a b : Meaning) → Result Unit Refused → Type 0
WritesPlaces w g backup i x y a b r =
    WritesStep w (i < capacity g) (EitherOf (SLOTS_AT + backup) x y) (λ f. with_places g backup (set g i x y) f) a b r

-- a sector that its home has; a slot is there for each
abbrev pub InHome : Home → (source target : Geometry) → ℕ → Type 0
InHome Source s t i = i < capacity s
InHome Target s t i = i < capacity t
InHome Backup s t i = Unit {0}

-- a sector that its home on an array has, and a write there
abbrev pub HasHome : {L : Type 0} → (L → Geometry) → Array L → ℕ → Type 0
HasHome place v i = InHome (homes_of place v i) (place v.source) (place v.target) i

abbrev pub home_step : {L : Type 0} → (L → Geometry) → Array L → (i : ℕ) → (datum parity : List ℕ) → Step
home_step place v i x y f = applied (homes_of place v i) (place v.source) (place v.target) v.head.backup i x y f

-- what is current is durable on the members of the first n copies of sector i, of all its places, and of all that a write at its home reaches
abbrev pub CopiesFlushed : Geometry → (i n : ℕ) → Meaning → Type 0
CopiesFlushed g i n b = i < capacity g → (j : ℕ) → j < n → FlushedAt (g.datum i j).0 b

pub record PlacesFlushed (g : Geometry) (i : ℕ) (b : Meaning) : Type 0 where
  pub copies : CopiesFlushed g i g.copies b
  pub parity : i < capacity g → 0 < g.groups → FlushedAt (g.parity (g.group i)).0 b

abbrev pub HomeFlushed : Home → (source target : Geometry) → ℕ → Meaning → Type 0
HomeFlushed Source s t i b = PlacesFlushed s i b
HomeFlushed Target s t i b = PlacesFlushed t i b
HomeFlushed Backup s t i b = FlushedAll b

-- A logged write was carried out again, as the log was read of members that were there at the time.
pub record RedoneBy {L : Type 0} (place : L → Geometry) (v : Array L) (i : ℕ) (a b : Meaning) (r : Result Unit Refused) : Type 0 where
  pub datum : List ℕ
  pub parity : List ℕ
  pub logged_datum : SeenBy (crew_of place v) a b (λ m. common m LOGGED_DATUM_AT) datum
  pub logged_parity : SeenBy (crew_of place v) a b (λ m. common m LOGGED_PARITY_AT) parity
  pub carries : Carries (crew_of place v) reads_and_writes (home_step place v i datum parity) a b r
