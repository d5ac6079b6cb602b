-- The constants that the code declares are the numbers of the limits.
use mathlib.Core.Path.{refl}
use Rattle.cases.specs.LimitValues.{LimitValues}

pub limits : LimitValues
limits = record {
  sector = refl;
  label = refl;
  members = (refl, refl);
  sectors = refl;
  depth = refl;
  capacity = refl;
  chunk = refl;
  with_parity = refl;
  copies = (refl, refl);
  custom = refl;
  slots = refl;
  numbers = refl;
  head_at = refl;
  log_at = (refl, refl);
  slots_at = refl;
  never = refl;
}
