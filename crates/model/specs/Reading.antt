-- What a call reads of a shelf: a sector by its home, and the parity of a group.
use Rattle.std.specs.Prelude.{ℕ, zero, suc, ◌+◌, ◌%◌, Bool, false, cond, List, replicate, ◌==◌, nat_lt}
use Rattle.head.specs.declared.TheConstants.{SLOTS_AT}
use Rattle.sector.specs.declared.TheConstants.{SECTOR}
use Rattle.layout.specs.Geometry.{Geometry}
use Rattle.overlap.specs.declared.walk.Home.{Home}
use Rattle.overlap.specs.declared.walk.Home.TheVariants.{Source, Target, Backup}
use Rattle.shelf.specs.Meaning.{Meaning}
use Rattle.model.specs.Contents.{at, gathered, held, home_in, is_there, rebuilt, some}
use Rattle.model.specs.Knowing.{Volume}

-- the first of n numbers of which f holds
abbrev pub lowest : (ℕ → Bool) → ℕ → ℕ
lowest f zero = 0
lowest f (suc n) = cond (some f n) (lowest f n) n

-- sector i as a layout's places give it: its lowest copy that is there, and without one what the rest of its group makes it
abbrev pub laid : Geometry → Meaning → (backup i : ℕ) → List ℕ
laid g a backup i =
    cond (some (λ j. is_there a (g.datum i j)) g.copies) (at a backup (g.datum i (lowest (λ j. is_there a (g.datum i j)) g.copies))) (rebuilt g a backup (g.group i) i)

-- a sector that every member holds, by the lowest one that is there
abbrev pub common : Meaning → ℕ → List ℕ
common a s = held a (lowest a.present a.members) s

abbrev pub content_at : Home → (source target : Geometry) → Meaning → (backup i : ℕ) → List ℕ
content_at Source s t a backup i = laid s a backup i
content_at Target s t a backup i = laid t a backup i
content_at Backup s t a backup i = common a (SLOTS_AT + i % backup)

abbrev pub home_by : Volume → ℕ → Home
home_by v i = home_in v.crew.phase v.crew.source v.crew.target v.settled v.kept i

-- sector i of a volume, as its home gives it
abbrev pub content_of : Volume → Meaning → ℕ → List ℕ
content_of v a i = content_at (home_by v i) v.crew.source v.crew.target a v.backup i

-- The parity of sector i's group once it holds x: of what the layout's places give of the other peers, which need not be what the peers' homes give.
abbrev pub parity_with : Geometry → Meaning → (backup i : ℕ) → List ℕ → List ℕ
parity_with g a backup i x =
    cond (nat_lt 0 g.groups) (gathered (λ b. false) (λ b. cond (g.peer (g.group i) b == i) x (laid g a backup (g.peer (g.group i) b))) (g.peers (g.group i))) (replicate SECTOR 0)

-- slots have no parity
abbrev pub parity_at : Home → (source target : Geometry) → Meaning → (backup i : ℕ) → List ℕ → List ℕ
parity_at Source s t a backup i x = parity_with s a backup i x
parity_at Target s t a backup i x = parity_with t a backup i x
parity_at Backup s t a backup i x = replicate SECTOR 0
