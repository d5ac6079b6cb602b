-- A volume whose layouts in force have room.
use Rattle.std.proofs.Common.{◌≡◌, ℕ, ◌<◌, ◌≤◌, Bool, true, false, ◌&&◌, Some, None, Option, refl, sym, ◌∙◌, subst, arith}
use Rattle.std.proofs.lemmas.Bool.{both_ways}
use Rattle.layout.specs.Geometry.{Geometry}
use Rattle.overlap.specs.Homes.{home_of}
use Rattle.overlap.specs.declared.walk.Home.{Home}
use Rattle.overlap.specs.declared.walk.Home.TheVariants.{Source, Target, Backup}
use Rattle.shelf.specs.Meaning.{Meaning}
use Rattle.model.specs.Contents.{home_in}
use Rattle.model.specs.Crew.{Crew, borne, crew, enough}
use Rattle.model.specs.Knowing.{Volume as Known}
use Rattle.model.specs.Readable.{InUse}
use Rattle.model.specs.Reading.{home_by}
use Rattle.model.specs.declared.phase.Phase.{Phase}
use Rattle.model.specs.declared.phase.Phase.TheVariants.{Before, Moving, After, Shut}
use Rattle.stage.specs.Looks.{HasSector, HomeHas}
use Rattle.volume.specs.Volumes.{HasRoom, Housed, HousedIn, IsNext}

pub next_below : (hand : Option ℕ) (settled rows : ℕ) → IsNext hand settled rows → settled ≤ rows
next_below None settled rows n = n
next_below (Some row) settled rows n = let lt = n.1 in omega (arith, lt)

pub housed_moving : (v : Known) (a : Meaning) → v.crew.phase ≡ Moving → Housed v a → HasRoom v a v.crew.source × HasRoom v a v.crew.target × IsNext v.hand v.settled v.crew.target.rows
housed_moving v a e h = subst (λ p. HousedIn p v a) e h

pub room_as : {v u : Known} {a b : Meaning} (g : Geometry) → u.size ≡ v.size → u.backup ≡ v.backup → b.members ≡ a.members → b.sectors ≡ a.sectors
    → HasRoom v a g → HasRoom u b g
room_as g size backup members sectors has = record {
  room = record {
    wide = (let wide = has.room.wide in omega (arith, members, wide));
    deep = (let deep = has.room.deep in omega (arith, backup, sectors, deep));
  };
  holds = (let holds = has.holds in omega (arith, size, holds));
}

next_as : (x y : Option ℕ) (p q rows : ℕ) → y ≡ x → q ≡ p → IsNext x p rows → IsNext y q rows
next_as x y p q rows e f n = subst (λ z. IsNext z q rows) (sym e) (subst (λ z. IsNext x z rows) (sym f) n)

housed_in_as : (phase : Phase) (v u : Known) (a b : Meaning) → u.crew ≡ v.crew → u.size ≡ v.size → u.backup ≡ v.backup → u.settled ≡ v.settled → u.hand ≡ v.hand
    → b.members ≡ a.members → b.sectors ≡ a.sectors → HousedIn phase v a → HousedIn phase u b
housed_in_as Before v u a b crew size backup settled hand members sectors h =
    (subst (λ c. HasRoom u b c.source) (sym crew) (room_as v.crew.source size backup members sectors h.0), hand ∙ h.1)
housed_in_as Moving v u a b crew size backup settled hand members sectors h = (
  subst (λ c. HasRoom u b c.source) (sym crew) (room_as v.crew.source size backup members sectors h.0),
  subst (λ c. HasRoom u b c.target) (sym crew) (room_as v.crew.target size backup members sectors h.1),
  subst (λ c. IsNext u.hand u.settled c.target.rows) (sym crew) (next_as v.hand u.hand v.settled u.settled v.crew.target.rows hand settled h.2),
)
housed_in_as After v u a b crew size backup settled hand members sectors h = subst (λ c. HasRoom u b c.target) (sym crew) (room_as v.crew.target size backup members sectors h)
housed_in_as (Shut why) v u a b crew size backup settled hand members sectors h = tt

-- the same volume on a shelf as large
pub housed_as : (v u : Known) (a b : Meaning) → u.crew ≡ v.crew → u.size ≡ v.size → u.backup ≡ v.backup → u.settled ≡ v.settled → u.hand ≡ v.hand
    → b.members ≡ a.members → b.sectors ≡ a.sectors → Housed v a → Housed u b
housed_as v u a b crew size backup settled hand members sectors h =
    subst (λ c. HousedIn c.phase u b) (sym crew) (housed_in_as v.crew.phase v u a b crew size backup settled hand members sectors h)

-- a layout in force, for a sector below the size
in_force : {w : Crew} {g : Geometry} {v : Known} {a : Meaning} → ((x : Meaning) → enough w x ≡ true → borne g x ≡ true) → enough w a ≡ true → HasRoom v a g → InUse w g v.backup a
in_force force here has = record { force = force; enough = here; room = has.room }

has_sector : {w : Crew} {g : Geometry} {v : Known} {a : Meaning} {i : ℕ} → ((x : Meaning) → enough w x ≡ true → borne g x ≡ true) → enough w a ≡ true → HasRoom v a g → i < v.size
    → HasSector w g v.backup i a
has_sector force here has below = let holds = has.holds in record { of = in_force force here has; below = omega (arith, below, holds) }

pub both_left : (x y : Bool) → (x && y) ≡ true → x ≡ true
both_left true y e = refl
both_left false y e = e

pub both_right : (x y : Bool) → (x && y) ≡ true → y ≡ true
both_right true y e = e
both_right false y e = absurd (both_ways false refl e)

-- while the volume moves both layouts are in force
moving_has : (h : Home) (s t : Geometry) (v : Known) (a : Meaning) (i : ℕ) → enough (crew Moving s t) a ≡ true → HasRoom v a s → HasRoom v a t → i < v.size
    → HomeHas h (crew Moving s t) s t v.backup i a
moving_has Source s t v a i here source target below = has_sector (λ x e. both_left (borne s x) (borne t x) e) here source below
moving_has Target s t v a i here source target below = has_sector (λ x e. both_right (borne s x) (borne t x) e) here target below
moving_has Backup s t v a i here source target below = in_force (λ x e. both_left (borne s x) (borne t x) e) here source

has_in : (phase : Phase) (v : Known) (a : Meaning) (i : ℕ) → HousedIn phase v a → enough (crew phase v.crew.source v.crew.target) a ≡ true → i < v.size
    → HomeHas (home_in phase v.crew.source v.crew.target v.settled v.kept i) (crew phase v.crew.source v.crew.target) v.crew.source v.crew.target v.backup i a
has_in Before v a i h here below = has_sector (λ x e. e) here h.0 below
has_in Moving v a i h here below =
    moving_has (home_of v.crew.source.row_len v.crew.target.row_len v.settled v.kept i) v.crew.source v.crew.target v a i here h.0 h.1 below
has_in After v a i h here below = has_sector (λ x e. e) here h below
has_in (Shut why) v a i h here below = absurd (both_ways false refl here)

-- each sector below the size has a home that can be read
pub home_has : (v : Known) (a : Meaning) (i : ℕ) → Housed v a → enough v.crew a ≡ true → i < v.size
    → HomeHas (home_by v i) v.crew v.crew.source v.crew.target v.backup i a
home_has v a i h here below = has_in v.crew.phase v a i h here below
