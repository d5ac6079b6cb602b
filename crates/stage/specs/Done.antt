-- What the stages leave when they are done, and the operations that they name when they are not.
use Rattle.std.specs.Prelude.{◌≡◌, ℕ, ◌<◌, ◌≤◌, Bool, true, false, List, replicate, Some, None, Ok, Err, Option, Result}
use Rattle.answer.specs.declared.Refusal.TheVariants.{MembersLost, PowerLost}
use Rattle.answer.specs.declared.Fault.{Fault}
use Rattle.answer.specs.declared.Refused.{Refused}
use Rattle.sector.specs.declared.TheConstants.{SECTOR}
use Rattle.shelf.specs.Answers.{Answer}
use Rattle.shelf.specs.Meaning.{Meaning}
use Rattle.shelf.specs.declared.Failure.TheVariants.{Absent, Off, OutOfRange}
use Rattle.model.specs.Crew.{Crew, enough}

-- a stage goes on without a member that is gone, or too few are left
abbrev pub Bears : Crew → Fault → Meaning → Result Bool Refused → Type 0
Bears w f a (Ok here) = (here ≡ false) × (enough w a ≡ true)
Bears w f a (Err e) = (enough w a ≡ false) × (e ≡ record { refusal = MembersLost; fault = Some f })

-- what an operation's answer makes of a stage: it goes on with the member or without it, or ends here
abbrev pub Weighed : Crew → Answer → Fault → Meaning → Result Bool Refused → Type 0
Weighed w (Ok x) f a r = r ≡ Ok true
Weighed w (Err OutOfRange) f a r = r ≡ Ok true
Weighed w (Err Off) f a r = r ≡ Err (record { refusal = PowerLost; fault = Some f })
Weighed w (Err Absent) f a r = Bears w f a r

-- the sector of that member holds the content, if it is there and has such a sector
abbrev pub WrittenAt : (m t : ℕ) → List ℕ → Meaning → Type 0
WrittenAt m t c b = b.present m ≡ true → t < b.sectors → b.current m t ≡ c

-- what is current on the member is durable, if it is there
abbrev pub FlushedAt : ℕ → Meaning → Type 0
FlushedAt m b = b.present m ≡ true → (s : ℕ) → b.durable m s ≡ b.current m s

-- what is current in a sector, and zeros from the shelf's sectors on
pub record Holds (m t : ℕ) (b : Meaning) (content : List ℕ) : Type 0 where
  pub inside : t < b.sectors → content ≡ b.current m t
  pub past : b.sectors ≤ t → content ≡ replicate SECTOR 0

-- a read gives what is current there, or the member is not there
abbrev pub ReadAt : (m t : ℕ) → Meaning → Option (List ℕ) → Type 0
ReadAt m t b (Some content) = (b.present m ≡ true) × Holds m t b content
ReadAt m t b None = b.present m ≡ false

-- the same of every member
abbrev pub WrittenAll : ℕ → List ℕ → Meaning → Type 0
WrittenAll t c b = (k : ℕ) → WrittenAt k t c b

abbrev pub FlushedAll : Meaning → Type 0
FlushedAll b = (k : ℕ) → FlushedAt k b

-- member k is there, and none below it
pub record LowestMember (b : Meaning) (k : ℕ) : Type 0 where
  pub there : b.present k ≡ true
  pub below : (j : ℕ) → j < k → b.present j ≡ false

-- what the lowest member that is there holds
pub record FromLowest (t : ℕ) (new : List ℕ) (b : Meaning) : Type 0 where
  pub member : ℕ
  pub lowest : LowestMember b member
  pub content : Holds member t b new

-- a read from the lowest member, or none is there
abbrev pub ReadAny : ℕ → Meaning → Option (List ℕ) → Type 0
ReadAny t b (Some content) = FromLowest t content b
ReadAny t b None = (k : ℕ) → b.present k ≡ false
