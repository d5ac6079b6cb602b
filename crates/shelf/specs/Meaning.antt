-- What a shelf means, and what each operation makes of it.
use Rattle.std.specs.Prelude.{◌≡◌, ℕ, ◌<◌, Bool, true, false, ◌⊎◌, List, length, ◌≢◌, nat_lt, Ok, Err}
use Rattle.shelf.specs.Runs.{InRange, image_of}
use Rattle.shelf.specs.Answers.{Answer}
use Rattle.shelf.specs.declared.Failure.TheVariants.{Absent, Off, OutOfRange}

-- On or off, which members are there, and for each sector what is durable and what is current. Sectors that a shelf has not hold nothing.
pub record Meaning : Type 0 where
  pub members : ℕ
  pub sectors : ℕ
  pub on : Bool
  pub present : ℕ → Bool
  pub durable : ℕ → ℕ → List ℕ
  pub current : ℕ → ℕ → List ℕ

-- the arguments of an operation are in range
abbrev pub OperationInRange : Meaning → ℕ → ℕ → ℕ → Type 0
OperationInRange a member sector size = InRange a.members a.sectors member sector size

-- what happens to members and to power at an operation that names member m: it may become absent, and the power may go
pub record OthersStay (m : ℕ) (a b : Meaning) : Type 0 where
  pub members : b.members ≡ a.members
  pub sectors : b.sectors ≡ a.sectors
  pub off_stays : a.on ≡ false → b.on ≡ false
  pub absent_stays : a.present m ≡ false → b.present m ≡ false
  pub others : (k : ℕ) → (k ≢ m) → b.present k ≡ a.present k

-- at each operation any sector may become durable: as what was current before or is after it
pub record Persists (a b : Meaning) : Type 0 where
  pub durable : (k s : ℕ) → (b.durable k s ≡ a.durable k s) ⊎ ((b.durable k s ≡ a.current k s) ⊎ (b.durable k s ≡ b.current k s))

-- no current content changes
abbrev pub SameCurrent : Meaning → Meaning → Type 0
SameCurrent a b = (k s : ℕ) → b.current k s ≡ a.current k s

-- none but that of one sector
abbrev pub SameElsewhere : ℕ → ℕ → Meaning → Meaning → Type 0
SameElsewhere m t a b = (k s : ℕ) → ((k ≡ m) × (s ≡ t) → ⊥) → b.current k s ≡ a.current k s

-- the answer tells the state afterwards
abbrev pub AnswerTells : Answer → ℕ → Meaning → Type 0
AnswerTells (Ok x) m b = (b.on ≡ true) × (b.present m ≡ true)
AnswerTells (Err Absent) m b = (b.on ≡ true) × (b.present m ≡ false)
AnswerTells (Err Off) m b = b.on ≡ false
AnswerTells (Err OutOfRange) m b = ⊥

-- a done read gives the current content, and any other leaves the buffer
abbrev pub LeavesBuffer : Answer → List ℕ → List ℕ → List ℕ → Type 0
LeavesBuffer (Ok x) content old new = new ≡ content
LeavesBuffer (Err e) content old new = new ≡ old

-- a done write sets the current content; off leaves the old or the new, absent the old
abbrev pub Sets : Answer → List ℕ → List ℕ → List ℕ → Type 0
Sets (Ok x) content old new = new ≡ content
Sets (Err Absent) content old new = new ≡ old
Sets (Err Off) content old new = (new ≡ old) ⊎ (new ≡ content)
Sets (Err OutOfRange) content old new = new ≡ old

-- a done flush persists what is current on the member
abbrev pub Flushes : Answer → ℕ → Meaning → Type 0
Flushes (Ok x) m b = (s : ℕ) → b.durable m s ≡ b.current m s
Flushes (Err e) m b = Unit {0}

pub record ReadIn (m s : ℕ) (old new : List ℕ) (a b : Meaning) (r : Answer) : Type 0 where
  pub others : OthersStay m a b
  pub persists : Persists a b
  pub current : SameCurrent a b
  pub tells : AnswerTells r m b
  pub gives : LeavesBuffer r (a.current m s) old new

pub record WriteIn (m s : ℕ) (content : List ℕ) (a b : Meaning) (r : Answer) : Type 0 where
  pub others : OthersStay m a b
  pub persists : Persists a b
  pub elsewhere : SameElsewhere m s a b
  pub tells : AnswerTells r m b
  pub sets : Sets r content (a.current m s) (b.current m s)

pub record FlushIn (m : ℕ) (a b : Meaning) (r : Answer) : Type 0 where
  pub others : OthersStay m a b
  pub persists : Persists a b
  pub current : SameCurrent a b
  pub tells : AnswerTells r m b
  pub flushes : Flushes r m b

-- each operation, in range or refused
pub record Reads (m s : ℕ) (old new : List ℕ) (a b : Meaning) (r : Answer) : Type 0 where
  pub inside : OperationInRange a m s (length old) → ReadIn m s old new a b r
  pub outside : (OperationInRange a m s (length old) → ⊥) → (r ≡ Err OutOfRange) × (b ≡ a) × (new ≡ old)

pub record Writes (m s : ℕ) (content : List ℕ) (a b : Meaning) (r : Answer) : Type 0 where
  pub inside : OperationInRange a m s (length content) → WriteIn m s content a b r
  pub outside : (OperationInRange a m s (length content) → ⊥) → (r ≡ Err OutOfRange) × (b ≡ a)

pub record Flushed (m : ℕ) (a b : Meaning) (r : Answer) : Type 0 where
  pub inside : m < a.members → FlushIn m a b r
  pub outside : (m < a.members → ⊥) → (r ≡ Err OutOfRange) × (b ≡ a)

-- what a restart makes of one sector of a present member: one content, as both
pub record OneContent (a b : Meaning) (k s : ℕ) : Type 0 where
  pub both : b.durable k s ≡ b.current k s
  pub one : (b.current k s ≡ a.durable k s) ⊎ (b.current k s ≡ a.current k s)

-- or nothing
pub record Untouched (a b : Meaning) (k s : ℕ) : Type 0 where
  pub durable : b.durable k s ≡ a.durable k s
  pub current : b.current k s ≡ a.current k s

pub record Restarts (a b : Meaning) (r : Bool) : Type 0 where
  pub members : b.members ≡ a.members
  pub sectors : b.sectors ≡ a.sectors
  pub answer : r ≡ b.on
  pub present : (k : ℕ) → b.present k ≡ a.present k
  pub absent : (k s : ℕ) → a.present k ≡ false → Untouched a b k s
  pub on : b.on ≡ true → (k s : ℕ) → a.present k ≡ true → OneContent a b k s
  pub off : b.on ≡ false → (k s : ℕ) → a.present k ≡ true → OneContent a b k s ⊎ Untouched a b k s

-- The plain shelf over a run of bytes: on, all members there, and every sector durable.
abbrev pub plain_meaning : (members sectors : ℕ) → List ℕ → Meaning
plain_meaning m z run = record {
  members = m;
  sectors = z;
  on = true;
  present = λ k. nat_lt k m;
  durable = image_of m z run 0;
  current = image_of m z run 0;
}
