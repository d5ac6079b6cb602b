use Rattle.std.proofs.Common.{vec_items, rules, arith}
use Rattle.shelf.specs.Trials.{trial_of}
use Rattle.shelf.proofs.Trially.{trial_writes}
use Rattle.shelf.proofs.trial.TrialShelfShelf.write.Goals as goal

pub returns-then-self-member-clause-writes : goal.returns-then-self-member-clause-writes
returns-then-self-member-clause-writes c =
    let images = c.store.new.self in
    trial_writes c.args.member c.args.sector c.args.buffer.now c.args.self.now (trial_of images.extent.members images.extent.sectors (vec_items images.bytes) c.strike-answer.new.self) c.strike-answer.result (rw (← c.self.view_is) (omega (arith, c.self.inside.images.held))) (search rules)
