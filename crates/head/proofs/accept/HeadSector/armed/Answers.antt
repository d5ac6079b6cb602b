use Rattle.std.proofs.Common.{rules, tests}
use Rattle.head.proofs.Arming.{armed_is}
use Rattle.head.proofs.accept.HeadSector.armed.Goals as goal

pub returns-clause-logged : goal.returns-clause-logged
returns-clause-logged c =
    armed_is c.args.self.now.bytes.now c.then.result _ (λ e. c.args.self.now.accepted.unarmed.logged (search (rules, tests))) c.then.ensures.some (λ x called. search rules)
