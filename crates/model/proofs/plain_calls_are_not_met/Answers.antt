use Rattle.model.proofs.Plainly.{no_call_met, no_create_met, no_open_met}
use Rattle.model.proofs.plain_calls_are_not_met.Goals as goal

pub returns : goal.returns
returns c = record { calls = no_call_met; creates = no_create_met; opens = no_open_met }
