-- The flat disk: what a volume shows, and what each call makes of it.
use Rattle.std.specs.Prelude.{◌≡◌, ℕ, ◌+◌, ◌<◌, cond, List, [], ◌∷◌, ◌++◌, length, replicate, Some, None, Option, ◌==◌, slice_index_or}
use Rattle.sector.specs.declared.TheConstants.{SECTOR}
use Rattle.model.specs.declared.phase.Phase.{Phase}
use Rattle.model.specs.declared.phase.Phase.TheVariants.{Before, Moving, After}
use Rattle.model.specs.declared.request.Request.{Request}
use Rattle.model.specs.declared.request.Request.TheVariants.{Read, Write, Begin, Keep, Copy, Settle, HandBack, Finish, Open}
use Rattle.model.specs.declared.request.Answered.{Answered}
use Rattle.model.specs.declared.request.Answered.TheVariants.{Granted, Refused, Met}
use Rattle.model.specs.Contents.{padded}
use Rattle.model.specs.Verdicts.{emptied}

-- the size, the sectors below it, the phase, the settled and the kept rows, and the row in hand
pub record Disk : Type 0 where
  pub size : ℕ
  pub content : ℕ → List ℕ
  pub phase : Phase
  pub settled : ℕ
  pub kept : ℕ
  pub hand : Option ℕ

-- the disk of these sectors
abbrev pub disk_of : List (List ℕ) → Phase → (p q : ℕ) → Option ℕ → Disk
disk_of sectors phase p q hand = record { size = length sectors; content = λ i. slice_index_or sectors i []; phase = phase; settled = p; kept = q; hand = hand }

abbrev pub with_content : Disk → (ℕ → List ℕ) → Disk
with_content d f = record { size = d.size; content = f; phase = d.phase; settled = d.settled; kept = d.kept; hand = d.hand }

-- the disk with zeros from its size on
abbrev pub filled : Disk → Disk
filled d = with_content d (padded d.size d.content)

-- two disks that show the same
pub record SameDisk (d e : Disk) : Type 0 where
  pub size : e.size ≡ d.size
  pub content : (i : ℕ) → i < d.size → e.content i ≡ d.content i
  pub phase : e.phase ≡ d.phase
  pub settled : e.settled ≡ d.settled
  pub kept : e.kept ≡ d.kept
  pub hand : e.hand ≡ d.hand

-- a volume that was just created
abbrev pub created : ℕ → Disk
created size = record { size = size; content = λ i. replicate SECTOR 0; phase = Before; settled = 0; kept = 0; hand = None }

abbrev pub with_walk : Disk → Phase → (p q : ℕ) → Option ℕ → Disk
with_walk d phase p q hand = record { size = d.size; content = d.content; phase = phase; settled = p; kept = q; hand = hand }

abbrev pub disk_written : ℕ → List ℕ → Disk → Disk
disk_written i x d = with_content d (λ k. cond (k == i) x (d.content k))

-- a finished move ends when the volume is opened
abbrev pub opened : Phase → Phase
opened After = Before
opened s = s

-- what a granted call makes of it
abbrev pub granted : Request → Disk → Disk
granted (Read i) d = d
granted (Write i x) d = disk_written i x d
granted Begin d = with_walk d Moving 0 0 d.hand
granted Keep d = with_walk d d.phase d.settled (d.kept + 1) d.hand
granted Copy d = with_walk d d.phase d.settled d.kept (Some d.settled)
granted (Settle row) d = with_walk d d.phase (d.settled + 1) d.kept None
granted (HandBack row) d = with_walk d d.phase d.settled d.kept None
granted Finish d = with_walk d After 0 0 d.hand
granted Open d = with_walk d (opened d.phase) d.settled d.kept None

-- a grant of the row in hand empties the hand also where the call is refused
abbrev pub released : ℕ → Disk → Disk
released row d = with_walk d d.phase d.settled d.kept (emptied d.hand row)

abbrev pub refused : Request → Disk → Disk
refused (Settle row) d = released row d
refused (HandBack row) d = released row d
refused r d = d

-- open adds no candidate: what it does anew was there to be shown before
abbrev pub candidates : Request → Disk → List Disk
candidates (Settle row) d = released row d ∷ granted (Settle row) d ∷ []
candidates Open d = d ∷ []
candidates r d = d ∷ granted r d ∷ []

abbrev pub each : (Disk → Disk) → List Disk → List Disk
each f [] = []
each f (d ∷ ds) = f d ∷ each f ds

abbrev pub each_of : (Disk → List Disk) → List Disk → List Disk
each_of f [] = []
each_of f (d ∷ ds) = f d ++ each_of f ds

-- The disks that a volume may show after a call with its answer. Only after power or members were met lacking are there several.
abbrev pub after : Request → Answered → List Disk → List Disk
after r Granted ds = each (granted r) ds
after r Refused ds = each (refused r) ds
after r Met ds = each_of (candidates r) ds
