-- What the relation of a shelf's operations amounts to.
use Rattle.std.specs.Prelude.{◌≡◌, ℕ, ◌<◌, Bool, true, false, cond, List, length, ◌≢◌, ◌==◌, Err}
use Rattle.shelf.specs.Meaning.{Flushed, Meaning, OperationInRange, Reads, Restarts, Writes}
use Rattle.shelf.specs.Answers.{Answer, done}
use Rattle.shelf.specs.declared.Failure.TheVariants.{Absent, Off, OutOfRange}

-- An operation twice in a row does no more than once, whatever the first one answered. A member that is lost at the second of two writes may hold what the first one wrote.
pub record Repeats : Type 0 where
  pub read : (m s : ℕ) (old mid other new : List ℕ) (a b c : Meaning) (r t : Answer) → length other ≡ length old
      → Reads m s old mid a b r → Reads m s other new b c t → Reads m s other new a c t
  pub write : (m s : ℕ) (content : List ℕ) (a b c : Meaning) (r t : Answer) → (t ≢ Err Absent)
      → Writes m s content a b r → Writes m s content b c t → Writes m s content a c t
  pub flush : (m : ℕ) (a b c : Meaning) (r t : Answer) → Flushed m a b r → Flushed m b c t → Flushed m a c t
  pub restart : (a b c : Meaning) (r t : Bool) → Restarts a b r → Restarts b c t → Restarts a c t

-- both contents of a sector
abbrev pub Both : Meaning → ℕ → ℕ → List ℕ → Type 0
Both a m s content = (a.durable m s ≡ content) × (a.current m s ≡ content)

-- off stays off, and who is absent stays absent
pub record Stays (a b : Meaning) : Type 0 where
  pub off : a.on ≡ false → b.on ≡ false
  pub absent : (k : ℕ) → a.present k ≡ false → b.present k ≡ false

-- Strong enough: no shelf forgets what it has done, or takes a loss back.
pub record Remembers : Type 0 where
  pub written_read : (m s : ℕ) (content old new : List ℕ) (a b c : Meaning) → Writes m s content a b done → Reads m s old new b c done → new ≡ content
  pub read_again : (m s : ℕ) (old mid other new : List ℕ) (a b c : Meaning) → Reads m s old mid a b done → Reads m s other new b c done → new ≡ mid
  pub flushed_lasts : (m s : ℕ) (a b c : Meaning) (r : Bool) → Flushed m a b done → Restarts b c r → Both c m s (a.current m s)
  pub written_lasts : (m s : ℕ) (content : List ℕ) (a b c d : Meaning) (r : Bool) → Writes m s content a b done → Flushed m b c done → Restarts c d r → Both d m s content
  pub read_stays : (m s : ℕ) (old new : List ℕ) (a b : Meaning) (r : Answer) → Reads m s old new a b r → Stays a b
  pub write_stays : (m s : ℕ) (content : List ℕ) (a b : Meaning) (r : Answer) → Writes m s content a b r → Stays a b
  pub flush_stays : (m : ℕ) (a b : Meaning) (r : Answer) → Flushed m a b r → Stays a b
  pub restart_absent : (a b : Meaning) (r : Bool) → Restarts a b r → (k : ℕ) → a.present k ≡ false → b.present k ≡ false

-- the power goes, and nothing else happens
abbrev pub cut : Meaning → Meaning
cut a = record { members = a.members; sectors = a.sectors; on = false; present = a.present; durable = a.durable; current = a.current }

-- for each sector one of two contents: the second where `pick` says yes
abbrev pub picked : (ℕ → ℕ → Bool) → (ℕ → ℕ → List ℕ) → (ℕ → ℕ → List ℕ) → ℕ → ℕ → List ℕ
picked pick first second k s = cond (pick k s) (second k s) (first k s)

-- some sectors become durable, on any members
abbrev pub some_durable : (ℕ → ℕ → Bool) → Meaning → Meaning
some_durable pick a = record { members = a.members; sectors = a.sectors; on = a.on; present = a.present; durable = picked pick a.durable a.current; current = a.current }

-- one sector's current content is replaced
abbrev pub with_current : ℕ → ℕ → List ℕ → Meaning → Meaning
with_current m t content a = record {
  members = a.members;
  sectors = a.sectors;
  on = a.on;
  present = a.present;
  durable = a.durable;
  current = λ k s. cond (k == m) (cond (s == t) content (a.current k s)) (a.current k s);
}

-- the same, while some sectors become durable before it and some after
abbrev pub with_current_amid : (before after : ℕ → ℕ → Bool) → ℕ → ℕ → List ℕ → Meaning → Meaning
with_current_amid before after m t content a = some_durable after (with_current m t content (some_durable before a))

-- every sector of one member becomes durable
abbrev pub member_durable : ℕ → Meaning → Meaning
member_durable m a = some_durable (λ k s. k == m) a

-- one member is gone
abbrev pub without_member : ℕ → Meaning → Meaning
without_member m a = record { members = a.members; sectors = a.sectors; on = a.on; present = λ k. cond (k == m) false (a.present k); durable = a.durable; current = a.current }

-- The power comes back: each sector of a present member has one content, the current one where `pick` says yes, else the durable one.
abbrev pub brought_out : (ℕ → ℕ → Bool) → Meaning → Meaning
brought_out pick a = record {
  members = a.members;
  sectors = a.sectors;
  on = true;
  present = a.present;
  durable = λ k s. cond (a.present k) (picked pick a.durable a.current k s) (a.durable k s);
  current = λ k s. cond (a.present k) (picked pick a.durable a.current k s) (a.current k s);
}

-- the same for some sectors only, and the power stays away
abbrev pub partly_out : (some pick : ℕ → ℕ → Bool) → Meaning → Meaning
partly_out some pick a = record {
  members = a.members;
  sectors = a.sectors;
  on = false;
  present = a.present;
  durable = picked some a.durable (brought_out pick a).durable;
  current = picked some a.current (brought_out pick a).current;
}

-- Weak enough. From every meaning each operation has an outcome, and a shelf that is always off keeps the rules. Where the power is on and the member
-- there, each operation may be done. It may be cut from every meaning; a write that is cut may have set its sector. Both ways any sectors may become durable.
-- Where the power is on, the member may be found absent with nothing else changed. A restart may bring out either content of each sector, and may fail
-- when it has done so for some.
pub record Allows : Type 0 where
  pub read : (m s : ℕ) (old : List ℕ) (a : Meaning) → OperationInRange a m s (length old) → Reads m s old old a (cut a) (Err Off)
  pub write : (m s : ℕ) (content : List ℕ) (a : Meaning) → OperationInRange a m s (length content) → Writes m s content a (cut a) (Err Off)
  pub flush : (m : ℕ) (a : Meaning) → m < a.members → Flushed m a (cut a) (Err Off)
  pub restart : (a : Meaning) → Restarts a (cut a) false
  pub read_refused : (m s : ℕ) (old : List ℕ) (a : Meaning) → (OperationInRange a m s (length old) → ⊥) → Reads m s old old a a (Err OutOfRange)
  pub write_refused : (m s : ℕ) (content : List ℕ) (a : Meaning) → (OperationInRange a m s (length content) → ⊥) → Writes m s content a a (Err OutOfRange)
  pub flush_refused : (m : ℕ) (a : Meaning) → (m < a.members → ⊥) → Flushed m a a (Err OutOfRange)
  pub read_done : (pick : ℕ → ℕ → Bool) (m s : ℕ) (old : List ℕ) (a : Meaning) → OperationInRange a m s (length old) → a.on ≡ true → a.present m ≡ true
      → Reads m s old (a.current m s) a (some_durable pick a) done
  pub write_done : (before after : ℕ → ℕ → Bool) (m s : ℕ) (content : List ℕ) (a : Meaning) → OperationInRange a m s (length content) → a.on ≡ true → a.present m ≡ true
      → Writes m s content a (with_current_amid before after m s content a) done
  pub read_cut : (pick : ℕ → ℕ → Bool) (m s : ℕ) (old : List ℕ) (a : Meaning) → OperationInRange a m s (length old) → Reads m s old old a (cut (some_durable pick a)) (Err Off)
  pub write_cut : (before after : ℕ → ℕ → Bool) (m s : ℕ) (content : List ℕ) (a : Meaning) → OperationInRange a m s (length content)
      → Writes m s content a (cut (with_current_amid before after m s content a)) (Err Off)
  pub flush_done : (pick : ℕ → ℕ → Bool) (m : ℕ) (a : Meaning) → m < a.members → a.on ≡ true → a.present m ≡ true
      → Flushed m a (member_durable m (some_durable pick a)) done
  pub flush_cut : (pick : ℕ → ℕ → Bool) (m : ℕ) (a : Meaning) → m < a.members → Flushed m a (cut (some_durable pick a)) (Err Off)
  pub read_absent : (m s : ℕ) (old : List ℕ) (a : Meaning) → OperationInRange a m s (length old) → a.on ≡ true → Reads m s old old a (without_member m a) (Err Absent)
  pub write_absent : (m s : ℕ) (content : List ℕ) (a : Meaning) → OperationInRange a m s (length content) → a.on ≡ true → Writes m s content a (without_member m a) (Err Absent)
  pub flush_absent : (m : ℕ) (a : Meaning) → m < a.members → a.on ≡ true → Flushed m a (without_member m a) (Err Absent)
  pub restart_on : (pick : ℕ → ℕ → Bool) (a : Meaning) → Restarts a (brought_out pick a) true
  pub restart_off : (some pick : ℕ → ℕ → Bool) (a : Meaning) → Restarts a (partly_out some pick a) false
