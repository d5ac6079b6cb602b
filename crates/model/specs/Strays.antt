-- The stray count, and the count of places that differ from a fresh placement.
use Rattle.std.specs.Prelude.{ℕ, zero, suc, ◌+◌, Bool, true, false, cond, ◌&&◌, Some, None, Option, ◌==◌}
use Rattle.layout.specs.Geometry.{Geometry}
use Rattle.shelf.specs.Meaning.{Meaning}
use Rattle.model.specs.declared.phase.Phase.{Phase}
use Rattle.model.specs.declared.phase.Phase.TheVariants.{Before, Moving, After}
use Rattle.model.specs.Crew.{count}
use Rattle.model.specs.Contents.{differs, home_shows_other, home_in, padded}
use Rattle.model.specs.Disks.{Disk}
use Rattle.model.specs.Images.{due_of, is_used}
use Rattle.model.specs.declared.told.Told.{Told}

-- sector i is not shown as the disk has it
abbrev pub is_stray : (source target : Geometry) → Meaning → ℕ → Disk → ℕ → Bool
is_stray s t a backup d i = home_shows_other (home_in d.phase s t d.settled d.kept i) s t a backup (d.content i) i

abbrev pub stray_below : (source target : Geometry) → Meaning → ℕ → Disk → ℕ → ℕ
stray_below s t a backup d n = count (is_stray s t a backup d) n

abbrev pub same_phase : Phase → Phase → Bool
same_phase Before Before = true
same_phase Moving Moving = true
same_phase After After = true
same_phase one other = false

abbrev pub same_hand : Option ℕ → Option ℕ → Bool
same_hand None None = true
same_hand (Some h) (Some k) = h == k
same_hand one other = false

abbrev pub same_told : Told → Disk → Bool
same_told v d = (v.size == d.size && same_phase v.phase d.phase) && (v.settled == d.settled && (v.kept == d.kept && same_hand v.hand d.hand))

-- The stray count: the sectors that the shelf shows otherwise than the disk, and one more if the volume tells otherwise.
abbrev pub stray_count : (source target : Geometry) → Meaning → ℕ → Told → Disk → ℕ
stray_count s t a backup v d = stray_below s t a backup d d.size + cond (same_told v d) 0 1

-- a used place that is there and differs from a fresh placement
abbrev pub is_misplaced : Geometry → Meaning → ℕ → Disk → ℕ → ℕ → Bool
is_misplaced g a backup d k o = is_used (g.owner (k, o)) && differs a backup (due_of g (padded d.size d.content) (g.owner (k, o))) (k, o)

abbrev pub misplaced_below : Geometry → Meaning → ℕ → Disk → ℕ → ℕ
misplaced_below g a backup d zero = 0
misplaced_below g a backup d (suc k) = misplaced_below g a backup d k + count (is_misplaced g a backup d k) g.depth

-- how many places differ from a fresh placement
abbrev pub misplaced_count : Geometry → Meaning → ℕ → Disk → ℕ
misplaced_count g a backup d = misplaced_below g a backup d g.members
