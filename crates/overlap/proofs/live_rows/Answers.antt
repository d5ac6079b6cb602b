use Rattle.overlap.proofs.Answering.{live_rows_lem}
use Rattle.overlap.proofs.live_rows.Goals as goal

pub returns : goal.returns
returns g c =
    let rows = live_rows_lem (g.L.Layout.geometry c.args.source.now) (g.met.L.Layout.lawful c.args.source.now) c.args.size c.row_len.result c.div_ceil.result c.row_len.ensures c.div_ceil.ensures in
    record { rows = rows.0; bound = rows.1 }
