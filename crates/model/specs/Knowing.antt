-- What a volume knows of itself.
use Rattle.std.specs.Prelude.{ℕ, Option}
use Rattle.layout.specs.Geometry.{Geometry}
use Rattle.head.specs.Heads.{kept_rows, settled_rows}
use Rattle.head.specs.declared.state.Head.{Head}
use Rattle.head.specs.declared.state.Progress.{Progress}
use Rattle.head.specs.declared.state.Progress.TheVariants.{Idle, Moving}
use Rattle.model.specs.Crew.{Crew, crew}
use Rattle.model.specs.declared.phase.Phase.{Phase}
use Rattle.model.specs.declared.phase.Phase.TheVariants.{Before, Moving as UnderWay}

-- its layouts and phase, the last checkpoint's number, its size, its backup slots, how far a move has come, and the row in hand
pub record Volume : Type 0 where
  pub crew : Crew
  pub number : ℕ
  pub size : ℕ
  pub backup : ℕ
  pub settled : ℕ
  pub kept : ℕ
  pub hand : Option ℕ

-- the phase that a volume with such a head is opened in
abbrev pub phase_by : Progress → Phase
phase_by Idle = Before
phase_by (Moving l p q) = UnderWay

abbrev pub volume : Phase → Geometry → Geometry → Head → Option ℕ → Volume
volume phase source target h hand = record {
  crew = crew phase source target;
  number = h.number;
  size = h.size;
  backup = h.backup;
  settled = settled_rows h.progress;
  kept = kept_rows h.progress;
  hand = hand;
}
