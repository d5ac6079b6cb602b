use mathlib.Core.Path.{refl}
use lib.Dec.{lit<, lit≤}
use Rattle.cases.proofs.Empty.{empty}
use Rattle.cases.proofs.Valued.{limits}
use Rattle.cases.proofs.worked_examples.Goals as goal

pub returns-clause-examples : goal.returns-clause-examples
returns-clause-examples c = record {
  striped = λ h. refl;
  left_datum = λ h. refl;
  left_parity = λ h. refl;
  near = λ h. (refl, refl);
  far = (refl, refl);
  widened = refl;
  in_target = refl;
  in_backup = refl;
  in_source = refl;
  rechunked = refl;
  four_slots = (lit≤ tt, lit< tt);
  narrowed = refl;
  at_row = (refl, refl);
  empty = empty;
}

pub returns-clause-limits : goal.returns-clause-limits
returns-clause-limits c = limits
