-- Sectors in a run of bytes.
use Rattle.std.specs.Prelude.{◌≡◌, ℕ, ◌+◌, ◌-◌, ◌*◌, ◌/◌, ◌%◌, ◌^◌, ◌<◌, ◌≤◌, Bool, cond, List, [], length, replicate, take, drop, Some, None, Option, Ok, Err, Result, ◌==◌, bit_and, nat_lt}
use Rattle.sector.specs.declared.TheConstants.{SECTOR}
use Rattle.sector.specs.declared.limits.TheConstants.{FEWEST_MEMBERS, MOST_MEMBERS}
use Rattle.answer.specs.declared.Refusal.{Refusal}
use Rattle.answer.specs.declared.Refusal.TheVariants.{OutOfLimits}
use Rattle.shelf.specs.declared.Failure.{Failure}
use Rattle.shelf.specs.declared.Failure.TheVariants.{OutOfRange}
use Rattle.std.proofs.Math.Seq.{paste}
use Rattle.shelf.specs.declared.TheConstants.{MOST_SECTORS}

-- sector `at` of a run
abbrev pub sector_at : List ℕ → ℕ → List ℕ
sector_at run at = take SECTOR (drop (at * SECTOR) run)

-- the run with other bytes in sector `at`
abbrev pub sector_put : List ℕ → ℕ → List ℕ → List ℕ
sector_put run at bytes = paste run (at * SECTOR) bytes SECTOR

-- The sectors of an image that begins at sector `base` of a run: member 0's first, then member 1's, and so on; elsewhere nothing.
abbrev pub image_of : (members sectors : ℕ) → List ℕ → ℕ → ℕ → ℕ → List ℕ
image_of m z run base k s = cond (nat_lt k m) (cond (nat_lt s z) (sector_at run (base + (k * z + s))) []) []

-- members and sectors within the limits
pub record Within (members sectors : ℕ) : Type 0 where
  pub least : FEWEST_MEMBERS ≤ members
  pub few : members ≤ MOST_MEMBERS
  pub some : 1 ≤ sectors
  pub short : sectors ≤ MOST_SECTORS

-- the same, and a run of just so many images
pub record RunOf (members sectors images bytes : ℕ) : Type 0 where
  pub within : Within members sectors
  pub whole : bytes ≡ members * sectors * images * SECTOR

-- done if it is such a run, else out of limits
abbrev pub FitsRun : ℕ → ℕ → ℕ → ℕ → Result Unit Refusal → Type 0
FitsRun m z k b (Ok x) = RunOf m z k b
FitsRun m z k b (Err e) = (e ≡ OutOfLimits) × (RunOf m z k b → ⊥)

-- what a shelf over a run has: what was asked for where the run fits, else 2 members without sectors
pub record MadeOf (members sectors images bytes m z : ℕ) : Type 0 where
  pub fits : RunOf members sectors images bytes → (m ≡ members) × (z ≡ sectors)
  pub unfit : (RunOf members sectors images bytes → ⊥) → (m ≡ 2) × (z ≡ 0)

-- a new shelf of zeros: what was asked for where it is within the limits, else 2 members without sectors, over no bytes
pub record BlankOf (members sectors images m z : ℕ) (run : List ℕ) : Type 0 where
  pub fits : Within members sectors → (m ≡ members) × (z ≡ sectors) × (run ≡ replicate (members * sectors * images * SECTOR) 0)
  pub unfit : (Within members sectors → ⊥) → (m ≡ 2) × (z ≡ 0) × (run ≡ [])

-- a member, a sector and a buffer in range
pub record InRange (members sectors member sector length : ℕ) : Type 0 where
  pub member_below : member < members
  pub sector_below : sector < sectors
  pub long : length ≡ SECTOR

-- the place of a sector in an image: member 0's sectors first, then member 1's, and so on
pub record CellAt (members sectors member sector at : ℕ) : Type 0 where
  pub is : at ≡ member * sectors + sector
  pub inside : at < members * sectors

abbrev pub Cell : ℕ → ℕ → ℕ → ℕ → ℕ → Result ℕ Failure → Type 0
Cell m z k s n (Ok a) = InRange m z k s n × CellAt m z k s a
Cell m z k s n (Err e) = (e ≡ OutOfRange) × (InRange m z k s n → ⊥)

-- what stands in a sector of the last of so many images, if it is in range
abbrev pub InLastImage : (m z images : ℕ) → List ℕ → ℕ → ℕ → Option (List ℕ) → Type 0
InLastImage m z n run k s (Some content) = (k < m) × (s < z) × (content ≡ image_of m z run ((n - 1) * (m * z)) k s)
InLastImage m z n run k s None = (k < m) × (s < z) → ⊥

-- a sector q of a run
abbrev pub RunHasSector : List ℕ → ℕ → Type 0
RunHasSector run q = q * SECTOR + SECTOR ≤ length run

-- after the sectors from `first` up to `end` were copied there from `image` sectors further on, and no other byte was changed
pub record Pulled (image first end : ℕ) (old new : List ℕ) : Type 0 where
  pub long : length new ≡ length old
  pub pulled : (q : ℕ) → first ≤ q → q < end → sector_at new q ≡ sector_at old (image + q)
  pub below : (q : ℕ) → q < first → sector_at new q ≡ sector_at old q
  pub rest : (i : ℕ) → end * SECTOR ≤ i → drop i new ≡ drop i old

-- bit q mod 32 of the choice word
abbrev pub chosen_bit : ℕ → ℕ → Bool
chosen_bit choice q = bit_and (choice / 2 ^ (q % 32)) 1 == 1

-- of sector q and the one `image` sectors further on, the one that the choice word takes
abbrev pub chosen_of : (choice image : ℕ) → List ℕ → ℕ → List ℕ
chosen_of choice image run q = cond (chosen_bit choice q) (sector_at run (image + q)) (sector_at run q)

-- after each of the sectors from `first` up to `end` was made one with its other, and no other byte was changed
pub record Chosen (choice image first end : ℕ) (old new : List ℕ) : Type 0 where
  pub long : length new ≡ length old
  pub here : (q : ℕ) → first ≤ q → q < end → sector_at new q ≡ chosen_of choice image old q
  pub there : (q : ℕ) → first ≤ q → q < end → sector_at new (image + q) ≡ chosen_of choice image old q
  pub below : (q : ℕ) → q < first → sector_at new q ≡ sector_at old q
  pub between : (q : ℕ) → end ≤ q → q < image + first → sector_at new q ≡ sector_at old q
  pub rest : (i : ℕ) → (image + end) * SECTOR ≤ i → drop i new ≡ drop i old
