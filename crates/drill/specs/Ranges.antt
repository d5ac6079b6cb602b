-- Whether an operation is in range.
use Rattle.std.specs.Prelude.{◌≡◌, ℕ, ◌<◌, Ok, Err}
use Rattle.shelf.specs.Answers.{Answer}
use Rattle.shelf.specs.Meaning.{Meaning, OperationInRange}
use Rattle.shelf.specs.declared.Failure.TheVariants.{OutOfRange}

-- a read or a write of sector s of member m with a buffer of length n
abbrev pub InRangeIs : Meaning → ℕ → ℕ → ℕ → Answer → Type 0
InRangeIs a m s n (Ok x) = OperationInRange a m s n
InRangeIs a m s n (Err e) = (e ≡ OutOfRange) × (OperationInRange a m s n → ⊥)

-- a flush of member m
abbrev pub MemberIs : Meaning → ℕ → Answer → Type 0
MemberIs a m (Ok x) = m < a.members
MemberIs a m (Err e) = (e ≡ OutOfRange) × (m < a.members → ⊥)
