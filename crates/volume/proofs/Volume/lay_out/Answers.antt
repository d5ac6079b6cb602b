use Rattle.volume.proofs.Laying.{laid_out}
use Rattle.volume.proofs.Volume.lay_out.Goals as goal

pub returns-clause-ends : goal.returns-clause-ends
returns-clause-ends g c =
    let first = rw c.label.ensures at c.first_head-head.ensures in
    laid_out g.S.Shelf.meaning g.L.Layout.geometry g.L.Layout.named _ c.args.size c.args.backup c.args.self.now c.first_head-head.result c.clear.new.shelf c.spread.new.shelf
    c.in_ok-judge_create.ensures.verdict first c.spread.ensures.fits c.in_ok-clear.ensures.2 c.spread.result c.spread.ensures.stage
