-- What a shelf shows of a sector: each present copy in its home, and without one what the rest of its group makes it.
use Rattle.std.specs.Prelude.{ℕ, zero, suc, ◌+◌, ◌%◌, Bool, true, false, cond, not, ◌&&◌, ◌||◌, List, [], replicate, ◌==◌, nat_eq, nat_lt}
use Rattle.head.specs.declared.TheConstants.{SLOTS_AT}
use Rattle.sector.specs.declared.TheConstants.{SECTOR}
use Rattle.std.specs.Str.{bytes_eq}
use Rattle.sector.specs.Folds.{folded}
use Rattle.layout.specs.Geometry.{Geometry, capacity}
use Rattle.overlap.specs.Homes.{home_of}
use Rattle.overlap.specs.declared.walk.Home.{Home}
use Rattle.overlap.specs.declared.walk.Home.TheVariants.{Source, Target, Backup}
use Rattle.shelf.specs.Meaning.{Meaning}
use Rattle.model.specs.declared.phase.Phase.{Phase}
use Rattle.model.specs.declared.phase.Phase.TheVariants.{Before, Moving, After, Shut}

-- one of the first n
abbrev pub some : (ℕ → Bool) → ℕ → Bool
some f zero = false
some f (suc n) = cond (some f n) true (f n)

-- the first n contents folded into one, those left out that are skipped
abbrev pub gathered : (ℕ → Bool) → (ℕ → List ℕ) → ℕ → List ℕ
gathered skip f zero = replicate SECTOR 0
gathered skip f (suc n) = cond (skip n) (gathered skip f n) (folded (gathered skip f n) (f n))

-- the sectors of a volume of this size, and zeros from there on
abbrev pub padded : ℕ → (ℕ → List ℕ) → ℕ → List ℕ
padded size c i = cond (nat_lt i size) (c i) (replicate SECTOR 0)

-- what a member holds; nothing past its end
abbrev pub held : Meaning → ℕ → ℕ → List ℕ
held a k s = cond (nat_lt k a.members && nat_lt s a.sectors) (a.current k s) []

-- where on the shelf a place of the body lies, after the head, the log and the backup slots
abbrev pub on_shelf : ℕ → ℕ × ℕ → ℕ × ℕ
on_shelf backup p = (p.0, SLOTS_AT + backup + p.1)

-- what lies there
abbrev pub at : Meaning → ℕ → ℕ × ℕ → List ℕ
at a backup p = held a (on_shelf backup p).0 (on_shelf backup p).1

abbrev pub is_there : Meaning → ℕ × ℕ → Bool
is_there a p = a.present p.0

-- a sector of a member that is there and holds another content
abbrev pub held_other : Meaning → List ℕ → ℕ → ℕ → Bool
held_other a x k s = a.present k && not (bytes_eq (held a k s) x)

-- the same of a place
abbrev pub differs : Meaning → ℕ → List ℕ → ℕ × ℕ → Bool
differs a backup x p = held_other a x (on_shelf backup p).0 (on_shelf backup p).1

-- What a group gives for sector i: its other peers and its parity, folded. It gives nothing where one of them is gone.
abbrev pub rebuilt : Geometry → Meaning → (backup x i : ℕ) → List ℕ
rebuilt g a backup x i = folded (gathered (λ b. nat_eq (g.peer x b) i) (λ b. at a backup (g.datum (g.peer x b) 0)) (g.peers x)) (at a backup (g.parity x))

abbrev pub peer_gone : Geometry → Meaning → (x i : ℕ) → ℕ → Bool
peer_gone g a x i b = not (g.peer x b == i) && not (is_there a (g.datum (g.peer x b) 0))

abbrev pub group_gone : Geometry → Meaning → (x i : ℕ) → Bool
group_gone g a x i = some (peer_gone g a x i) (g.peers x) || not (is_there a (g.parity x))

-- the group of sector i gives another content, or none
abbrev pub group_shows_other : Geometry → Meaning → ℕ → List ℕ → ℕ → Bool
group_shows_other g a backup x i = cond (nat_lt 0 g.groups) (group_gone g a (g.group i) i || not (bytes_eq (rebuilt g a backup (g.group i) i) x)) true

-- by a layout: some copy that is there differs, or, where none is there, what the group gives
abbrev pub copies_differ : Geometry → Meaning → ℕ → List ℕ → ℕ → Bool
copies_differ g a backup x i =
    cond (some (λ j. is_there a (g.datum i j)) g.copies) (some (λ j. differs a backup x (g.datum i j)) g.copies) (group_shows_other g a backup x i)

-- a sector past the capacity has no place
abbrev pub layout_shows_other : Geometry → Meaning → ℕ → List ℕ → ℕ → Bool
layout_shows_other g a backup x i = cond (nat_lt i (capacity g)) (copies_differ g a backup x i) true

-- in the backup slots: some member that is there differs, or none is there
abbrev pub slot_shows_other : Meaning → ℕ → List ℕ → ℕ → Bool
slot_shows_other a backup x i = cond (some a.present a.members) (some (λ k. held_other a x k (SLOTS_AT + i % backup)) a.members) true

-- where sector i lives in a phase
abbrev pub home_in : Phase → (source target : Geometry) → (p q : ℕ) → ℕ → Home
home_in Before s t p q i = Source
home_in Moving s t p q i = home_of s.row_len t.row_len p q i
home_in After s t p q i = Target
home_in (Shut why) s t p q i = Source

-- the shelf shows another content than x at sector i's home
abbrev pub home_shows_other : Home → (source target : Geometry) → Meaning → ℕ → List ℕ → ℕ → Bool
home_shows_other Source s t a backup x i = layout_shows_other s a backup x i
home_shows_other Target s t a backup x i = layout_shows_other t a backup x i
home_shows_other Backup s t a backup x i = slot_shows_other a backup x i
