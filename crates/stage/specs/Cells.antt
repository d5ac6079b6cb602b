-- One operation on one member, by its answer.
use Rattle.std.specs.Prelude.{◌≡◌, ℕ, ◌<◌, true, false, List, ◌≢◌, Ok, Err}
use Rattle.shelf.specs.Meaning.{Meaning}
use Rattle.shelf.specs.Answers.{Answer}
use Rattle.shelf.specs.declared.Failure.TheVariants.{Absent, Off, OutOfRange}
use Rattle.model.specs.May.{AtCell, May, nothing}

-- who is present afterwards, and whether power is
abbrev pub Left : Answer → ℕ → Meaning → Meaning → Type 0
Left (Ok x) m a b = (b.on ≡ true) × (b.present ≡ a.present)
Left (Err Absent) m a b = (b.on ≡ true) × (b.present m ≡ false)
Left (Err Off) m a b = b.on ≡ false
Left (Err OutOfRange) m a b = (b.on ≡ a.on) × (b.present ≡ a.present)

-- the members that are not named stay as they are
abbrev pub Others : ℕ → Meaning → Meaning → Type 0
Others m a b = (k : ℕ) → (k ≢ m) → b.present k ≡ a.present k

-- a sector t that a present member has
abbrev pub HasCell : Meaning → ℕ → ℕ → Type 0
HasCell a m t = (a.present m ≡ true) × (t < a.sectors)

-- Sector t is one that the shelf has, unless the answer is that the operation was out of range.
abbrev pub Inside : Answer → ℕ → Meaning → Type 0
Inside (Err OutOfRange) t a = Unit {0}
Inside r t a = t < a.sectors

abbrev pub Puts : Answer → ℕ → ℕ → List ℕ → Meaning → Meaning → Type 0
Puts (Ok x) m t c a b = b.current m t ≡ c
Puts (Err Absent) m t c a b = Unit {0}
Puts (Err Off) m t c a b = Unit {0}
Puts (Err OutOfRange) m t c a b = HasCell a m t → ⊥

abbrev pub Gets : Answer → ℕ → ℕ → List ℕ → List ℕ → Meaning → Meaning → Type 0
Gets (Ok x) m t old new a b = new ≡ b.current m t
Gets (Err Absent) m t old new a b = new ≡ old
Gets (Err Off) m t old new a b = new ≡ old
Gets (Err OutOfRange) m t old new a b = (new ≡ old) × (HasCell a m t → ⊥)

abbrev pub FlushLeaves : Answer → ℕ → Meaning → Meaning → Type 0
FlushLeaves (Ok x) m a b = (s : ℕ) → b.durable m s ≡ b.current m s
FlushLeaves (Err Absent) m a b = Unit {0}
FlushLeaves (Err Off) m a b = Unit {0}
FlushLeaves (Err OutOfRange) m a b = a.present m ≡ true → ⊥

pub record PutAt (m t : ℕ) (c : List ℕ) (a b : Meaning) (r : Answer) : Type 0 where
  pub may : May (AtCell m t c) a b
  pub others : Others m a b
  pub left : Left r m a b
  pub inside : Inside r t a
  pub put : Puts r m t c a b

pub record GotAt (m t : ℕ) (old new : List ℕ) (a b : Meaning) (r : Answer) : Type 0 where
  pub may : May nothing a b
  pub others : Others m a b
  pub left : Left r m a b
  pub inside : Inside r t a
  pub got : Gets r m t old new a b

pub record FlushedBy (m : ℕ) (a b : Meaning) (r : Answer) : Type 0 where
  pub may : May nothing a b
  pub others : Others m a b
  pub left : Left r m a b
  pub durable : FlushLeaves r m a b
