use Rattle.std.proofs.Common.{◌≡◌, ◌+◌, ◌*◌, ◌<◌, arith, rules}
use Rattle.kinds.specs.CellsLemmas.{cell_below}
use Rattle.kinds.specs.Grids.{Used}
use Rattle.kinds.proofs.Thens.{decided}
use Rattle.kinds.proofs.grid.Grid.number.Goals as goal

pub returns : goal.returns
returns c =
    let n = c.args.self.now.members in
    let h = c.args.self.now.chunks in
    let p = c.args.cell in
    decided c.then.result c.holds.result (Used n h p) _ (λ y. (y ≡ p.1 * n + p.0) × (y < h * n) × Used n h p) c.then.ensures.variant c.holds.ensures c.then.ensures.some
    (λ used y made. let is : y ≡ p.1 * n + p.0 = search rules in (is, omega (arith, is, cell_below p.1 n p.0 h used.1 used.0), used))
