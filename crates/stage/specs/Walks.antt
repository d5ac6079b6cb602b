-- How far a move has come, as the last checkpoint has it.
use Rattle.std.specs.Prelude.{◌≡◌}
use Rattle.layout.specs.Geometry.{Geometry}
use Rattle.head.specs.Heads.{kept_rows, settled_rows}
use Rattle.head.specs.declared.state.Head.{Head}
use Rattle.overlap.specs.declared.walk.Walk.{Walk}

pub record WalkOf (source target : Geometry) (h : Head) (w : Walk) : Type 0 where
  pub source_len : w.source_len ≡ source.row_len
  pub target_len : w.target_len ≡ target.row_len
  pub settled : w.settled ≡ settled_rows h.progress
  pub kept : w.kept ≡ kept_rows h.progress
  pub size : w.size ≡ h.size
  pub backup : w.backup ≡ h.backup
