use Rattle.std.proofs.Common.{ℕ, max, ap, ap₂, ◌∙◌, arith, rules}
use Rattle.overlap.specs.Needs.{most, need_by_place}
use Rattle.overlap.proofs.sector_need.Goals as goal

pub returns : goal.returns
returns g c below =
    let s = g.Old.Layout.geometry c.args.source.now in
    let t = g.New.Layout.geometry c.args.target.now in
    let copy : ℕ → ℕ = λ j. need_by_place s c.args.size (t.datum c.args.sector j) in
    let copies = c.greatest.ensures copy (λ i y lt called. search rules) ∙ ap (most copy) (omega (arith, c.copies.ensures)) in
    c.max.ensures ∙ ap₂ max copies (c.parity_need.ensures below)
