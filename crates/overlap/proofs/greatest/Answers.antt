use Rattle.std.proofs.Common.{◌≡◌, ◌+◌, ◌-◌, sym, ap, ◌∙◌, subst, of_calls, arith}
use Rattle.overlap.specs.Needs.{most}
use Rattle.overlap.proofs.Most.{most_more}
use Rattle.overlap.proofs.greatest.Goals as goal

pub loop-number-preserved : goal.loop-number-preserved
loop-number-preserved g c = (
  omega arith,
  λ h same.
      let start = c.args.range.start in
      let i = c.loop-number.number - start in
      let at : start + i ≡ c.loop-number.number = omega arith in
      let next : i + 1 ≡ c.loop-number.number + 1 - start = omega arith in
      let asked = same i c.ask.result (omega arith) (subst (λ n. goal.F-post g c.args.ask n c.ask.result) (sym at) (search of_calls)) in
      most_more h i c.loop-number.most c.ask.result c.max-most.result (c.loop-number.invariant.1 h same) asked c.max-most.ensures ∙ ap (most h) next,
)
