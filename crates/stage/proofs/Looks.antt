-- Looks at places and at sectors.
use Rattle.std.proofs.Common.{◌≡◌, ℕ, ◌<◌, false, List, Ok, Err, Result}
use Rattle.answer.specs.declared.Fault.{Fault}
use Rattle.answer.specs.declared.Operation.{Operation}
use Rattle.answer.specs.declared.Refused.{Refused}
use Rattle.layout.specs.Geometry.{Geometry, capacity}
use Rattle.shelf.specs.Meaning.{Meaning}
use Rattle.model.specs.Crew.{Crew}
use Rattle.model.specs.Ends.{GoesOn, Met, Stage}
use Rattle.model.specs.May.{May, nothing}
use Rattle.stage.specs.Looks.{HasGroup, OnBody, OthersFolded}
use Rattle.stage.proofs.Chains.{names_as}
use Rattle.stage.proofs.Loops.{goes_then, names_same, was_present}
use Rattle.model.proofs.Mays.{may_then}

-- a look that has come so far
pub record Looking (w : Crew) (a b : Meaning) : Type 0 where
  pub may : May nothing a b
  pub goes : GoesOn w a b

-- none of the first n copies of sector i is there
pub record NoneBelow (g : Geometry) (i n : ℕ) (b : Meaning) : Type 0 where
  pub none : i < capacity g → (j : ℕ) → j < n → j < g.copies → b.present (g.datum i j).0 ≡ false

-- the first n peers of a group are folded in
abbrev pub FoldedSofar : Geometry → (backup x i n : ℕ) → (a b : Meaning) → (old new : List ℕ) → Type 0
FoldedSofar g backup x i n a b old new = HasGroup g backup x a → OthersFolded g backup x i n b old new

pub body_same : (op : Operation) (backup : ℕ) {a b : Meaning} → May nothing a b → (f : Fault) → OnBody op backup b f → OnBody op backup a f
body_same op backup m f n = record {
  operation = n.operation;
  there = was_present m f.member n.there;
  sector = n.sector;
  inside = names_same op f.sector _ _ m.sectors n.inside;
  row = n.row;
}

-- a look after another
pub look_after : {A : Type 0} {w : Crew} (F G : Fault → Type 0) {a b c : Meaning} (D E : A → Type 0)
    → Looking w a b → ((f : Fault) → F f → G f) → ((x : A) → Looking w b c → D x → E x)
    → (r : Result A Refused) → Stage w nothing F b c D r → Stage w nothing G a c E r
look_after F G D E l names done (Ok x) s = (may_then l.may s.0, goes_then l.goes s.1, done x (record { may = s.0; goes = s.1 }) s.2)
look_after F G D E l names done (Err e) s = (may_then l.may s.0, record { why = s.1.why; fault = names_as F G names e.fault s.1.fault })

-- met at a later look
pub look_met : (w : Crew) (F G : Fault → Type 0) {a b c : Meaning} → Looking w a b → ((f : Fault) → F f → G f) → (e : Refused) → May nothing b c × Met w F c e
    → May nothing a c × Met w G c e
look_met w F G l names e s = (may_then l.may s.0, record { why = s.1.why; fault = names_as F G names e.fault s.1.fault })

pub looking_then : {w : Crew} {a b c : Meaning} → Looking w a b → May nothing b c → GoesOn w b c → Looking w a c
looking_then l m go = record { may = may_then l.may m; goes = goes_then l.goes go }
