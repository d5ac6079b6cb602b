use Rattle.std.proofs.Common.{sym, ap, ◌∙◌}
use Rattle.sector.specs.Folds.{folded}
use Rattle.oracle.proofs.Looking.{folded_nothing}
use Rattle.oracle.proofs.look.fold_held.Goals as goal

pub returns-in_default : goal.returns-in_default
returns-in_default g c = sym (ap (folded c.args.content.now) c.in_default.ensures ∙ folded_nothing c.args.content.now)
