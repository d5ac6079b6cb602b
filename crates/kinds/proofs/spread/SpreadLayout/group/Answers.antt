use Rattle.std.proofs.Common.{◌/◌, ◌%◌, ap, ◌∙◌, arith}
use Rattle.kinds.specs.Chunked.{in_chunk}
use Rattle.kinds.proofs.Spreading.{group_is, groups_some, group_below}
use Rattle.kinds.proofs.spread.SpreadLayout.group.Goals as goal

pub offset-requires : goal.offset-requires
offset-requires g c =
    group_below (g.met.C.Cells.lawful c.args.self.now.cells) c.grid.ensures c.in_ok-parity.ensures.0 c.args.sector c.row_len.result c.row_len.ensures (omega arith)

pub returns : goal.returns
returns g c =
    let law = g.met.C.Cells.lawful c.args.self.now.cells in
    let parity = c.in_ok-parity.ensures.0 in
    let i = c.args.sector in (
      groups_some law c.grid.ensures parity,
      omega arith,
      c.offset.ensures ∙ (ap (λ z. in_chunk z.chunk (i / c.row_len.result) (i % z.chunk)) c.grid.ensures
          ∙ ap (λ r. in_chunk (g.C.Cells.over c.args.self.now.cells).chunk r (i % (g.C.Cells.over c.args.self.now.cells).chunk)) (group_is law c.grid.ensures parity i c.row_len.result c.row_len.ensures)),
    )
