use Rattle.std.proofs.Common.{◌≡◌, ℕ, refl, ap, arith}
use Rattle.overlap.specs.Homes.{window_of}
use Rattle.overlap.specs.Needs.{most, need_of, reach_of}
use Rattle.overlap.proofs.Most.{most_more}
use Rattle.overlap.proofs.Windows.{enough}
use Rattle.overlap.proofs.distance.Goals as goal

pub loop-row-preserved : goal.loop-row-preserved
loop-row-preserved g c =
    let s = g.Old.Layout.geometry c.args.source.now in
    let t = g.New.Layout.geometry c.args.target.now in
    let ahead : ℕ → ℕ = λ r. window_of s.row_len t.row_len r c.args.size (reach_of s t c.args.size r) in
    let reach : c.max-reach.result ≡ reach_of s t c.args.size c.loop-row.row =
    most_more (need_of s t c.args.size) c.loop-row.row c.loop-row.reach c.need.result c.max-reach.result c.loop-row.invariant.0 c.need.ensures.value c.max-reach.ensures in
    let walk = c.of-walk.ensures in
    let window : c.window.result ≡ ahead c.loop-row.row = rw (c.window.ensures, walk.source_len, walk.target_len, walk.settled, walk.size, reach) refl in
    (reach, most_more ahead c.loop-row.row c.loop-row.most c.window.result c.max-most.result c.loop-row.invariant.1 window c.max-most.ensures)

pub returns-clause-enough : goal.returns-clause-enough
returns-clause-enough g c p q h =
    let s = g.Old.Layout.geometry c.args.source.now in
    let t = g.New.Layout.geometry c.args.target.now in
    let all : c.loop-row.row ≡ t.rows = omega arith in
    omega (arith, c.loop-row.invariant.1, ap (most (λ r. window_of s.row_len t.row_len r c.args.size (reach_of s t c.args.size r))) all, enough s t c.args.size p q h)
