use Rattle.std.proofs.Common.{◌≡◌, ◌+◌, ◌-◌, min, ◌∙◌, arith, rules}
use Rattle.overlap.specs.Needs.{need_of, reach_of}
use Rattle.overlap.proofs.Most.{most_rises}
use Rattle.overlap.proofs.Windows.{reach_cut, rows_few}
use Rattle.overlap.proofs.reach.Goals as goal

pub returns : goal.returns
returns g c =
    let s = g.Old.Layout.geometry c.args.source.now in
    let t = g.New.Layout.geometry c.args.target.now in
    let law = g.met.New.Layout.lawful c.args.target.now in
    let end : c.min.result - 0 ≡ min (c.args.row + 1) t.rows = omega (arith, law.limits, rows_few t law) in
    let is : c.greatest.result ≡ reach_of s t c.args.size c.args.row =
    c.greatest.ensures (need_of s t c.args.size) (λ i y lt called. search rules) ∙ reach_cut s t c.args.size c.args.row (c.min.result - 0) end in
    record { value = is; rises = λ k h. omega (arith, is, most_rises (need_of s t c.args.size) (c.args.row + 1) (k + 1) (omega arith)) }
