-- The operations that a fault names.
use Rattle.std.specs.Prelude.{◌≡◌, ℕ, ◌<◌, true, ◌⊎◌, None}
use Rattle.head.specs.declared.TheConstants.{HEAD_AT}
use Rattle.answer.specs.declared.Operation.{Operation}
use Rattle.answer.specs.declared.Operation.TheVariants.{Read, Write, Flush}
use Rattle.answer.specs.declared.Fault.{Fault}
use Rattle.shelf.specs.Meaning.{Meaning}

-- The sector that a fault of an operation names: one that the shelf has. A flush and a restart are of none, and name 0.
abbrev pub NamesSector : Operation → ℕ → Meaning → Type 0
NamesSector Read t a = t < a.sectors
NamesSector Write t a = t < a.sectors
NamesSector o t a = t ≡ 0

-- an operation on a sector of a member that was there
pub record OnCell (op : Operation) (a : Meaning) (m t : ℕ) (f : Fault) : Type 0 where
  pub operation : f.operation ≡ op
  pub member : f.member ≡ m
  pub there : a.present f.member ≡ true
  pub sector : f.sector ≡ t
  pub inside : NamesSector op t a
  pub row : f.row ≡ None

-- an operation on a sector of some member that the shelf has, and that was there
pub record OnSector (op : Operation) (a : Meaning) (t : ℕ) (f : Fault) : Type 0 where
  pub operation : f.operation ≡ op
  pub member : f.member < a.members
  pub there : a.present f.member ≡ true
  pub sector : f.sector ≡ t
  pub inside : NamesSector op t a
  pub row : f.row ≡ None

-- an operation of one kind or of another
abbrev pub Either : (Fault → Type 0) → (Fault → Type 0) → Fault → Type 0
Either F G f = F f ⊎ G f

-- a head on its way to every member
abbrev pub OnHeads : Meaning → Fault → Type 0
OnHeads a = Either (OnSector Write a HEAD_AT) (OnSector Flush a 0)
