-- Where a sector lives while its volume moves.
use Rattle.std.specs.Prelude.{◌≡◌, ℕ, ◌+◌, ◌-◌, ◌*◌, ◌<◌, ◌≤◌, min, cond, nat_lt}
use Rattle.overlap.specs.declared.walk.Home.{Home}
use Rattle.overlap.specs.declared.walk.Home.TheVariants.{Source, Target, Backup}

-- On numbers, not on a walk: the layers above say it of a volume before there is one.
-- The home of sector i, where p target rows of c sectors are settled and q source rows of a sectors are kept, from the first one up.
abbrev pub home_of : (a c p q : ℕ) → ℕ → Home
home_of a c p q i = cond (nat_lt i (p * c)) Target (cond (nat_lt i (q * a)) Backup Source)

-- how many sectors stand in backup slots once q source rows are kept
abbrev pub window_of : (a c p size q : ℕ) → ℕ
window_of a c p size q = min (q * a) size - p * c

-- the sectors of source row q below the size that lie in no settled row
pub record KeepSpan (a c p q size from to : ℕ) : Type 0 where
  pub end : to ≡ min ((q + 1) * a) size
  pub start : (i : ℕ) → i < to → from ≤ i → (q * a ≤ i) × (p * c ≤ i)
  pub whole : (i : ℕ) → i < to → q * a ≤ i → p * c ≤ i → from ≤ i
