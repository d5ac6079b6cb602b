use Rattle.volume.proofs.Keeping.{has_volume, keep_ends}
use Rattle.volume.proofs.Volume.keep.Goals as goal

pub returns-clause-ends : goal.returns-clause-ends
returns-clause-ends g c = λ housed.
    let mean = g.S.Shelf.meaning in
    let place = g.L.Layout.geometry in
    let v = c.args.self.now in
    let judged = c.in_ok-judge_keep.ensures in
    keep_ends mean place g.L.Layout.named _ _ v c.keep_row.new.self judged.verdict c.keep_row.result
    (c.keep_row.ensures.ends (has_volume mean place v housed judged.enough) judged.next) c.kept-row.result c.kept-row.ensures c.in_row.result c.in_row.ensures
