use Rattle.std.proofs.Common.{vec_items, true, rules}
use Rattle.shelf.specs.Trials.{restarted, trial_of}
use Rattle.shelf.proofs.Bringing.{restarts}
use Rattle.shelf.proofs.trial.TrialShelfShelf.restart.Goals as goal

pub returns-clause-restarts : goal.returns-clause-restarts
returns-clause-restarts c =
    let images = c.bring_out.new.self in
    restarts c.args.self.now (trial_of images.extent.members images.extent.sectors (vec_items images.bytes) (restarted c.self.inside.controls)) true (search rules)
