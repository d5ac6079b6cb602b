-- Images: what stands in each sector of each member, and what the steps of calls make of it.
use Rattle.std.specs.Prelude.{ℕ, zero, suc, ◌+◌, ◌-◌, ◌%◌, Bool, true, false, cond, ◌&&◌, List, [], replicate, ◌==◌, nat_le, nat_lt}
use Rattle.head.specs.declared.TheConstants.{HEAD_AT, LOGGED_DATUM_AT, LOGGED_PARITY_AT, SLOTS_AT}
use Rattle.sector.specs.declared.TheConstants.{SECTOR}
use Rattle.layout.specs.Geometry.{Geometry}
use Rattle.layout.specs.declared.place.Owner.{Owner}
use Rattle.layout.specs.declared.place.Owner.TheVariants.{Datum, Parity, Nobody}
use Rattle.overlap.specs.Rows.{owner_row}
use Rattle.overlap.specs.declared.walk.Home.{Home}
use Rattle.overlap.specs.declared.walk.Home.TheVariants.{Source, Target, Backup}
use Rattle.head.specs.Heads.{head_bytes}
use Rattle.head.specs.declared.state.Head.{Head}
use Rattle.model.specs.Contents.{gathered}

abbrev pub Image : Type 0
Image = ℕ → ℕ → List ℕ

-- one content in the same sector of every member
abbrev pub with_sector : ℕ → List ℕ → Image → Image
with_sector t x f k s = cond (s == t) x (f k s)

-- the places of a layout, each by its owner and by what lay there; everything else stays
abbrev pub with_places : Geometry → ℕ → (Owner → List ℕ → List ℕ) → Image → Image
with_places g backup F f k s =
    cond (nat_lt k g.members && (nat_le (SLOTS_AT + backup) s && nat_lt s (SLOTS_AT + backup + g.depth))) (F (g.owner (k, s - (SLOTS_AT + backup))) (f k s)) (f k s)

-- a checkpoint: one head on every member
abbrev pub headed : Head → Image → Image
headed h f = with_sector HEAD_AT (head_bytes h) f

-- the log of a write
abbrev pub logged : (datum parity : List ℕ) → Image → Image
logged x y f = with_sector LOGGED_PARITY_AT y (with_sector LOGGED_DATUM_AT x f)

-- a write in a layout: every copy of sector i, and the parity of its group
abbrev pub set : Geometry → ℕ → (datum parity : List ℕ) → Owner → List ℕ → List ℕ
set g i x y (Datum j copy) old = cond (j == i) x old
set g i x y (Parity group) old = cond (group == g.group i) y old
set g i x y Nobody old = old

-- the places of sector i's home
abbrev pub applied : Home → (source target : Geometry) → (backup i : ℕ) → (datum parity : List ℕ) → Image → Image
applied Source s t backup i x y f = with_places s backup (set s i x y) f
applied Target s t backup i x y f = with_places t backup (set t i x y) f
applied Backup s t backup i x y f = with_sector (SLOTS_AT + i % backup) x f

-- so many sectors from the first one on, each in its slot on every member
abbrev pub saved : ℕ → (ℕ → List ℕ) → (from many : ℕ) → Image → Image
saved backup c from zero f = f
saved backup c from (suc n) f = with_sector (SLOTS_AT + (from + n) % backup) (c (from + n)) (saved backup c from n f)

-- somebody owns the place
abbrev pub is_used : Owner → Bool
is_used Nobody = false
is_used o = true

-- what a layout places for an owner when these are the contents
abbrev pub due_of : Geometry → (ℕ → List ℕ) → Owner → List ℕ
due_of g c (Datum i copy) = c i
due_of g c (Parity group) = gathered (λ b. false) (λ b. c (g.peer group b)) (g.peers group)
due_of g c Nobody = []

-- a row of a layout, placed afresh from these contents
abbrev pub fresh_row : Geometry → ℕ → (ℕ → List ℕ) → Owner → List ℕ → List ℕ
fresh_row g row c o old = cond (is_used o && owner_row g o == row) (due_of g c o) old

abbrev pub cleared : Owner → List ℕ → List ℕ
cleared o old = cond (is_used o) (replicate SECTOR 0) old

-- zeros in every place of the source that has an owner
abbrev pub created_over : Geometry → ℕ → Image → Image
created_over source backup f = with_places source backup cleared f
