-- The law over whole runs. A run is a granted create and the calls that follow it, as they were made; what the law judges is computed from those.
use Rattle.std.specs.Prelude.{◌≡◌, ℕ, ◌+◌, ◌<◌, ◌≤◌, Bool, true, false, cond, not, ◌&&◌, Any, List, [], ◌∷◌, ◌++◌, Some, None, Ok, Err, Option, Result, ◌==◌}
use Rattle.answer.specs.declared.Fault.{Fault}
use Rattle.answer.specs.declared.Refused.{Refused as Refusing}
use Rattle.layout.specs.Geometry.{Geometry}
use Rattle.overlap.specs.Needs.{distance_of, need_of}
use Rattle.overlap.specs.Rows.{LiveRows}
use Rattle.shelf.specs.Meaning.{Meaning}
use Rattle.model.specs.Crew.{borne}
use Rattle.model.specs.declared.phase.Phase.TheVariants.{Moving}
use Rattle.model.specs.declared.told.Told.{Told}
use Rattle.model.specs.declared.request.Request.{Request}
use Rattle.model.specs.declared.request.Request.TheVariants.{Read, Write, Begin, Keep, Copy, Settle, HandBack, Finish, Open}
use Rattle.model.specs.declared.request.Answered.{Answered}
use Rattle.model.specs.declared.request.Answered.TheVariants.{Granted, Refused, Met}
use Rattle.model.specs.Disks.{Disk, after, created, each, granted}
use Rattle.model.specs.Handed.{Handed}
use Rattle.model.specs.Handed.Handed.{Nothing, Buffer, Distance, Row, Counts}
use Rattle.model.specs.Knowing.{Volume}
use Rattle.model.specs.Strays.{misplaced_count, stray_count}
use Rattle.head.specs.declared.TheConstants.{MOST_NUMBER}

-- a volume, by what it knows of itself, and its shelf at one moment
pub record Moment : Type 0 where
  pub volume : Volume
  pub shelf : Meaning

-- A call as it was made: what was asked, how it was answered, and volume and shelf before it and after it. The volume after an open is the
-- one that it made, with the layouts that it was given; where the open was refused, that volume is shut.
pub record Called : Type 0 where
  pub request : Request
  pub result : Result Handed Refusing
  pub before : Moment
  pub after : Moment

-- a granted create, by its arguments and what it left
pub record Creation : Type 0 where
  pub source : Geometry
  pub target : Geometry
  pub backup : ℕ
  pub size : ℕ
  pub left : Moment

-- each call finds volume and shelf as the one before it left them
abbrev pub Linked : Moment → List Called → Type 0
Linked m [] = Unit {0}
Linked m (c ∷ cs) = (c.before ≡ m) × Linked c.after cs

abbrev pub by_fault : Option Fault → Answered
by_fault None = Refused
by_fault (Some fault) = Met

-- Done is granted; a refusal that names an operation met power or members lacking, and another one came before any operation.
abbrev pub answered_of : {A : Type 0} → Result A Refusing → Answered
answered_of (Ok x) = Granted
answered_of (Err e) = by_fault e.fault

-- what a volume tells of itself
abbrev pub told_of : Volume → Told
told_of v = record { size = v.size; phase = v.crew.phase; settled = v.settled; kept = v.kept; hand = v.hand }

-- the disk that a run goes on from
abbrev pub first_disk : List Disk → Disk
first_disk [] = created 0
first_disk (d ∷ ds) = d

-- the first of the candidates that the shelf shows, else the first of all
abbrev pub chosen : (source target : Geometry) → Meaning → ℕ → Told → Disk → List Disk → Disk
chosen s t a backup v first [] = first
chosen s t a backup v first (d ∷ ds) = cond (stray_count s t a backup v d == 0) d (chosen s t a backup v first ds)

-- What an onlooker keeps of a run: the layouts that create or a granted open was given last, the backup slots, the disks that the volume
-- may show, whether the stray count is taken, whether the volume is in use, and how many checkpoints it can have made at most.
pub record Account : Type 0 where
  pub source : Geometry
  pub target : Geometry
  pub backup : ℕ
  pub disks : List Disk
  pub taken : Bool
  pub in_use : Bool
  pub checkpoints : ℕ

abbrev pub account_of : Creation → Account
account_of c = record { source = c.source; target = c.target; backup = c.backup; disks = created c.size ∷ []; taken = true; in_use = true; checkpoints = 1 }

abbrev pub is_open : Request → Bool
is_open Open = true
is_open r = false

abbrev pub is_granted : Answered → Bool
is_granted Granted = true
is_granted r = false

abbrev pub is_met : Answered → Bool
is_met Met = true
is_met r = false

-- a granted open goes on from the one candidate that its shelf shows
abbrev pub shown_by : Called → ℕ → List Disk → Disk
shown_by c backup ds = chosen c.after.volume.crew.source c.after.volume.crew.target c.after.shelf backup (told_of c.after.volume) (first_disk ds) ds

abbrev pub disks_by : Request → Answered → Called → ℕ → List Disk → List Disk
disks_by Open Granted c backup ds = shown_by c backup (each (granted Open) ds) ∷ []
disks_by r answered c backup ds = after r answered ds

abbrev pub disks_after : Called → ℕ → List Disk → List Disk
disks_after c backup ds = disks_by c.request (answered_of c.result) c backup ds

-- The count is taken from a granted create or open on, until a call meets power or members lacking or an open is not granted.
abbrev pub taken_after : Called → Bool → Bool
taken_after c taken = cond (is_open c.request) (is_granted (answered_of c.result)) (taken && not (is_met (answered_of c.result)))

-- The volume is in use from a granted create or open on, until an open is not granted.
abbrev pub in_use_after : Called → Bool → Bool
in_use_after c in_use = cond (is_open c.request) (is_granted (answered_of c.result)) in_use

abbrev pub granted_open : Called → Bool
granted_open c = is_open c.request && is_granted (answered_of c.result)

-- no call makes more checkpoints than a write
abbrev pub most_checkpoints : ℕ
most_checkpoints = 2

abbrev pub account_after : Called → Account → Account
account_after c a = record {
  source = cond (granted_open c) c.after.volume.crew.source a.source;
  target = cond (granted_open c) c.after.volume.crew.target a.target;
  backup = a.backup;
  disks = disks_after c a.backup a.disks;
  taken = taken_after c a.taken;
  in_use = in_use_after c a.in_use;
  checkpoints = a.checkpoints + most_checkpoints;
}

-- The call that a move needs next: settle while a row is in hand; else finish when every row is settled, copy unless the next row needs one more kept, and
-- keep if it does.
abbrev pub due : Request → (source target : Geometry) → Disk → Type 0
due (Settle row) s t d = d.hand ≡ Some row
due Finish s t d = (d.hand ≡ None) × (d.settled ≡ t.rows)
due Copy s t d = (d.hand ≡ None) × (d.settled < t.rows) × (need_of s t d.size d.settled ≤ d.kept)
due Keep s t d = (d.hand ≡ None) × (d.settled < t.rows) × (d.kept < need_of s t d.size d.settled)
due r s t d = ⊥

-- a copy writes no head
abbrev pub takes_number : Request → Bool
takes_number Copy = false
takes_number r = true

-- The call is the one that is due, and nothing lacks, whatever it pleads: after it power is on and both layouts bear the losses, and before it
-- fewer checkpoints can have been made than there are numbers.
pub record CallDue (c : Called) (a : Account) (d : Disk) : Type 0 where
  pub moving : d.phase ≡ Moving
  pub next : due c.request a.source a.target d
  pub on : c.after.shelf.on ≡ true
  pub source : borne a.source c.after.shelf ≡ true
  pub target : borne a.target c.after.shelf ≡ true
  pub number : takes_number c.request ≡ true → a.checkpoints < MOST_NUMBER

-- a finish counts the rows of the disk: all of the target's are settled, and no more are kept than are live
pub record CountsRows (rows kept : ℕ) (a : Account) (d : Disk) : Type 0 where
  pub settled : rows ≡ d.settled
  pub keeps : kept ≡ d.kept
  pub all : rows ≡ a.target.rows
  pub live : (k : ℕ) → LiveRows a.source d.size k → kept ≤ k

-- what a granted call hands out is the disk's
abbrev pub HandsOut : Request → Handed → Account → Disk → Type 0
HandsOut (Read i) (Buffer x) a d = (i < d.size) × (x ≡ d.content i)
HandsOut Begin (Distance n) a d = n ≡ distance_of a.source a.target d.size
HandsOut Copy (Row row) a d = row ≡ d.settled
HandsOut Finish (Counts rows kept) a d = CountsRows rows kept a d
HandsOut (Write i x) Nothing a d = Unit {0}
HandsOut Keep Nothing a d = Unit {0}
HandsOut (Settle row) Nothing a d = Unit {0}
HandsOut (HandBack row) Nothing a d = Unit {0}
HandsOut Open Nothing a d = Unit {0}
HandsOut r handed a d = ⊥

abbrev pub HandedOut : Request → Result Handed Refusing → Account → Disk → Type 0
HandedOut r (Ok handed) a d = HandsOut r handed a d
HandedOut r (Err e) a d = Unit {0}

-- after a granted finish no place differs from a fresh placement; by the account after it
abbrev pub FreshAtEnd : Request → Answered → Called → Account → Type 0
FreshAtEnd Finish Granted c a = misplaced_count a.target c.after.shelf a.backup (first_disk a.disks) ≡ 0
FreshAtEnd r answered c a = Unit {0}

-- the stray count after a call, by the account after it
abbrev pub strays_after : Called → Account → ℕ
strays_after c a = stray_count a.source a.target c.after.shelf a.backup (told_of c.after.volume) (first_disk a.disks)

-- One call keeps the law, by the account before it.
pub record LawOfCall (c : Called) (a : Account) : Type 0 where
  pub count : taken_after c a.taken ≡ true → strays_after c (account_after c a) ≡ 0
  pub hands : HandedOut c.request c.result a (first_disk a.disks)
  pub progress : a.in_use ≡ true → CallDue c a (first_disk a.disks) → answered_of c.result ≡ Granted
  pub fresh : FreshAtEnd c.request (answered_of c.result) c (account_after c a)

-- each call of a list keeps it
abbrev pub LawFrom : Account → List Called → Type 0
LawFrom a [] = Unit {0}
LawFrom a (c ∷ cs) = LawOfCall c a × LawFrom (account_after c a) cs

-- The law of a run that a granted create began: its calls are joined, and after create and after every call the stray count is 0 wherever it is
-- taken, so that after a cut the next granted open shows the disk before the call or the one after it; what granted calls hand out is the disk's;
-- a move goes on, and ends fresh.
pub record Law (c : Creation) (cs : List Called) : Type 0 where
  pub linked : Linked c.left cs
  pub starts : stray_count c.source c.target c.left.shelf c.backup (told_of c.left.volume) (created c.size) ≡ 0
  pub calls : LawFrom (account_of c) cs

-- the account after some calls, and volume and shelf after them
abbrev pub account_from : Account → List Called → Account
account_from a [] = a
account_from a (c ∷ cs) = account_from (account_after c a) cs

abbrev pub moment_from : Moment → List Called → Moment
moment_from m [] = m
moment_from m (c ∷ cs) = moment_from c.after cs

-- A list of calls keeps the law where its first calls do, and the others from the account that those leave. So a run can be shown call by call.
pub record CallByCall : Type 0 where
  pub parts : (a : Account) (cs ds : List Called) → LawFrom a (cs ++ ds) → LawFrom a cs × LawFrom (account_from a cs) ds
  pub whole : (a : Account) (cs ds : List Called) → LawFrom a cs → LawFrom (account_from a cs) ds → LawFrom a (cs ++ ds)
  pub further : (c : Creation) (cs : List Called) (e : Called) → Law c cs → e.before ≡ moment_from c.left cs
      → LawOfCall e (account_from (account_of c) cs) → Law c (cs ++ e ∷ [])

-- A granted open of a lawful run goes on from one of the candidates, as open makes it, and shows it.
pub record OpenShows (c : Called) (a : Account) : Type 0 where
  pub one : Any (λ d. disks_after c a.backup a.disks ≡ granted Open d ∷ []) (first_disk a.disks ∷ a.disks)
  pub shown : strays_after c (account_after c a) ≡ 0

abbrev pub OpensShow : Type 0
OpensShow = (c : Called) (a : Account) → c.request ≡ Open → answered_of c.result ≡ Granted → LawOfCall c a → OpenShows c a
