-- Whether enough members are present.
use Rattle.std.specs.Prelude.{ℕ, zero, suc, ◌+◌, min, Bool, false, cond, not, ◌&&◌, nat_le}
use Rattle.layout.specs.Geometry.{Geometry}
use Rattle.shelf.specs.Meaning.{Meaning}
use Rattle.model.specs.declared.phase.Phase.{Phase}
use Rattle.model.specs.declared.phase.Phase.TheVariants.{Before, Moving, After, Shut}

-- how many of the first n
abbrev pub count : (ℕ → Bool) → ℕ → ℕ
count f zero = 0
count f (suc n) = count f n + cond (f n) 1 0

abbrev pub absent : (ℕ → Bool) → ℕ → Bool
absent present k = not (present k)

-- A layout has every sector with the members that are absent. Members that the shelf has not are not absent.
abbrev pub borne : Geometry → Meaning → Bool
borne g a = nat_le (count (absent a.present) (min g.members a.members)) g.loss

-- the layouts of a volume, and the phase that says which are in force
pub record Crew : Type 0 where
  pub phase : Phase
  pub source : Geometry
  pub target : Geometry

abbrev pub enough_by : Phase → Geometry → Geometry → Meaning → Bool
enough_by Before s t a = borne s a
enough_by Moving s t a = borne s a && borne t a
enough_by After s t a = borne t a
enough_by (Shut why) s t a = false

-- the members present are enough for the layouts in force
abbrev pub enough : Crew → Meaning → Bool
enough c a = enough_by c.phase c.source c.target a

abbrev pub crew : Phase → Geometry → Geometry → Crew
crew phase s t = record { phase = phase; source = s; target = t }
