-- The plain shelf, by its run of bytes.
use Rattle.std.specs.Prelude.{◌≡◌, ℕ, ◌+◌, ◌*◌, ◌<◌, Bool, true, List, length, Err}
use Rattle.shelf.specs.Meaning.{Meaning, plain_meaning}
use Rattle.shelf.specs.Runs.{InRange, RunOf, sector_at, sector_put}
use Rattle.shelf.specs.Answers.{Answer, done}
use Rattle.shelf.specs.declared.Failure.TheVariants.{OutOfRange}

-- The whole state of a plain shelf.
pub record Plain : Type 0 where
  pub members : ℕ
  pub sectors : ℕ
  pub run : List ℕ

abbrev pub plain_of : ℕ → ℕ → List ℕ → Plain
plain_of m z run = record { members = m; sectors = z; run = run }

-- what it means
abbrev pub plain_means : Plain → Meaning
plain_means p = plain_meaning p.members p.sectors p.run

-- Each operation, for all arguments: what it leaves, what it answers, and what stands in the buffer.
pub record PlainReads (k s : ℕ) (old new : List ℕ) (a b : Plain) (r : Answer) : Type 0 where
  pub inside : InRange a.members a.sectors k s (length old) → (b ≡ a) × (r ≡ done) × (new ≡ sector_at a.run (k * a.sectors + s))
  pub outside : (InRange a.members a.sectors k s (length old) → ⊥) → (b ≡ a) × (r ≡ Err OutOfRange) × (new ≡ old)

pub record PlainWrites (k s : ℕ) (content : List ℕ) (a b : Plain) (r : Answer) : Type 0 where
  pub inside : InRange a.members a.sectors k s (length content) → (b ≡ plain_of a.members a.sectors (sector_put a.run (k * a.sectors + s) content)) × (r ≡ done)
  pub outside : (InRange a.members a.sectors k s (length content) → ⊥) → (b ≡ a) × (r ≡ Err OutOfRange)

pub record PlainFlushes (k : ℕ) (a b : Plain) (r : Answer) : Type 0 where
  pub same : b ≡ a
  pub inside : k < a.members → r ≡ done
  pub outside : (k < a.members → ⊥) → r ≡ Err OutOfRange

pub record PlainRestarts (a b : Plain) (r : Bool) : Type 0 where
  pub same : b ≡ a
  pub answer : r ≡ true

-- the power stays on, no member is lost, and every sector is durable
pub record Steady (a b : Meaning) : Type 0 where
  pub on : b.on ≡ true
  pub present : (k : ℕ) → b.present k ≡ a.present k
  pub durable : (k s : ℕ) → b.durable k s ≡ b.current k s

-- a new shelf: as asked for where the run fits, else 2 members without sectors
pub record PlainMade (m z : ℕ) (run : List ℕ) (b : Plain) : Type 0 where
  pub fits : RunOf m z 1 (length run) → b ≡ plain_of m z run
  pub unfit : (RunOf m z 1 (length run) → ⊥) → b ≡ plain_of 2 0 run
