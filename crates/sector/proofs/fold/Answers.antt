use Rattle.std.proofs.Common.{sym, ap, ◌∙◌, arith}
use Rattle.std.proofs.lemmas.List.{take_all}
use Rattle.sector.specs.Folds.{folded}
use Rattle.sector.proofs.Folding.{fold_none, fold_more}
use Rattle.sector.proofs.fold.Goals as goal

pub loop-i-init : goal.loop-i-init
loop-i-init c = sym (fold_none c.args.written.now)

pub loop-i-preserved : goal.loop-i-preserved
loop-i-preserved c =
    fold_more c.loop-i.i c.fold_byte.result c.loop-i.written c.args.written.now c.args.read.now
    c.loop-i.invariant c.fold_byte.ensures (omega arith) (omega arith)

pub returns : goal.returns
returns c = c.loop-i.invariant ∙ ap (folded c.args.written.now) (take_all c.loop-i.i c.args.read.now (omega arith))
