-- Calls on the plain shelf, which stays on and loses no member: none of them is met. So, by how they end, one that its verdict does not refuse is done.
use Rattle.std.specs.Prelude.{ℕ, List, Option}
use Rattle.answer.specs.declared.Refusal.{Refusal}
use Rattle.answer.specs.declared.Refused.{Refused}
use Rattle.layout.specs.Geometry.{Geometry}
use Rattle.layout.specs.declared.label.Label.{Label}
use Rattle.head.specs.declared.state.Head.{Head}
use Rattle.shelf.specs.Meaning.{plain_meaning}
use Rattle.model.specs.declared.request.Request.{Request}
use Rattle.model.specs.Answers.{CreateMet, MetAt, OpenMet}
use Rattle.model.specs.Knowing.{Volume}
use Rattle.model.specs.Opening.{GoesDark, StaysOff}

-- on a plain shelf of m members with z sectors each, from one run of bytes to another
abbrev pub NoCallMet : Type 0
NoCallMet = (verdict : Option Refusal) (r : Request) (v : Volume) (h : Head) (u : Volume) (k : Head) (m z : ℕ) (old new : List ℕ) (e : Refused)
    → MetAt verdict r v h (plain_meaning m z old) u k (plain_meaning m z new) e → ⊥

abbrev pub NoCreateMet : Type 0
NoCreateMet = (verdict : Option Refusal) (s t : Geometry) (m z : ℕ) (old new : List ℕ) (e : Refused) → CreateMet verdict s t (plain_meaning m z old) (plain_meaning m z new) e → ⊥

-- its restart turns it on, and power does not go in the search or after it
pub record NoOpenMet : Type 0 where
  pub restart : (m z : ℕ) (old new : List ℕ) (e : Refused) → StaysOff (plain_meaning m z old) (plain_meaning m z new) e → ⊥
  pub search : (m z : ℕ) (old new : List ℕ) (e : Refused) → GoesDark (plain_meaning m z old) (plain_meaning m z new) e → ⊥
  pub after : (sl tl : Label) (s t : Geometry) (m z : ℕ) (old new : List ℕ) (e : Refused) → OpenMet sl tl s t (plain_meaning m z old) (plain_meaning m z new) e → ⊥
