use Rattle.shelf.proofs.Burning.{controls_stand_lem}
use Rattle.shelf.proofs.trial.controls_stand.Goals as goal

pub returns : goal.returns
returns c = controls_stand_lem
