use Rattle.std.proofs.Common.{vec_items, rules}
use Rattle.shelf.specs.Answers.{done}
use Rattle.shelf.specs.Trials.{trial_of}
use Rattle.shelf.proofs.Trially.{trial_flushes}
use Rattle.shelf.proofs.trial.TrialShelfShelf.flush.Goals as goal

pub returns-clause-flushed : goal.returns-clause-flushed
returns-clause-flushed c =
    let images = c.persist.new.self in
    trial_flushes c.args.member c.args.self.now (trial_of images.extent.members images.extent.sectors (vec_items images.bytes) c.strike.new.self) done (search rules)
