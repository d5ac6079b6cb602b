-- Lists of disks that a program holds.
use Rattle.std.specs.Prelude.{◌≡◌, ℕ, ◌+◌, ◌^◌, ◌<◌, Bool, true, false, length, get_or, List, [], ◌∷◌, Some, None, Option, vec_items}
use Rattle.model.specs.Disks.{Disk, SameDisk, disk_of}
use Rattle.oracle.specs.declared.disk.Disk.{Disk as Held}
use Rattle.oracle.specs.declared.candidates.Candidates.{Candidates}

-- what a disk that a program holds shows
abbrev pub shown : Held → Disk
shown d = disk_of (vec_items d.sectors) d.phase d.settled d.kept d.hand

abbrev pub each_shown : List Held → List Disk
each_shown [] = []
each_shown (d ∷ ds) = shown d ∷ each_shown ds

-- the disks that a volume may show
abbrev pub candidates_of : Candidates → List Disk
candidates_of c = shown c.first ∷ each_shown (vec_items c.further)

abbrev pub shown_option : Option Held → List Disk
shown_option None = []
shown_option (Some d) = shown d ∷ []

-- one by one they show the same
abbrev pub SameDisks : List Disk → List Disk → Type 0
SameDisks [] [] = Unit {0}
SameDisks [] (e ∷ es) = ⊥
SameDisks (d ∷ ds) [] = ⊥
SameDisks (d ∷ ds) (e ∷ es) = SameDisk d e × SameDisks ds es

-- the rows of each can be counted one further
pub record CanCount (d : Disk) : Type 0 where
  pub settled : d.settled + 1 < 2 ^ 64
  pub kept : d.kept + 1 < 2 ^ 64

abbrev pub CanCountAll : List Disk → Type 0
CanCountAll [] = Unit {0}
CanCountAll (d ∷ ds) = CanCount d × CanCountAll ds

-- the first that passes a test, or none does
abbrev pub FirstShown : (Held → Bool) → List Held → Option ℕ → Type 0
FirstShown p ds None = (k : ℕ) (d : Held) → k < length ds → p (get_or ds k d) ≡ false
FirstShown p ds (Some i) = (i < length ds) × ((d : Held) → p (get_or ds i d) ≡ true) × ((k : ℕ) (d : Held) → k < i → p (get_or ds k d) ≡ false)
