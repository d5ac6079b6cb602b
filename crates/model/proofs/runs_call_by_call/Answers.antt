use Rattle.model.proofs.Runs.{call_by_call, opens_show}
use Rattle.model.proofs.runs_call_by_call.Goals as goal

pub returns : goal.returns
returns c = record { calls = call_by_call; opens = opens_show }
