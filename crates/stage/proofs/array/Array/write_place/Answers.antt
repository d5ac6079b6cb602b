use Rattle.std.proofs.Common.{refl, ◌≡◌, ◌+◌, ◌<◌, arith, subst}
use Rattle.answer.specs.declared.Operation.TheVariants.{Write}
use Rattle.stage.specs.Done.{WrittenAt}
use Rattle.stage.proofs.Chains.{stage_as}
use Rattle.stage.proofs.Endings.{on_cell}
use Rattle.stage.proofs.array.Array.write_place.Goals as goal

pub returns : goal.returns
returns g c =
    let b = g.S.Shelf.meaning c.write_at.new.shelf in
    let first = 3 + c.args.self.now.head.backup in
    let exact : c.args.place.1 < 16777216 → c.saturating_add.result ≡ first + c.args.place.1 = λ lt. omega (arith, lt) in
    stage_as _ _ b (λ k s x p. (let at = p.sector in record {
      member = p.member;
      sector = omega (arith, at);
      offset = λ lt. (let e = exact lt in omega (arith, at, e));
      content = p.content;
    }))
    (on_cell Write refl (g.S.Shelf.meaning c.args.shelf.now) c.args.place.0 c.saturating_add.result)
    (λ u m held lt. subst (λ t. WrittenAt c.args.place.0 t c.args.content.now b) (exact lt) held)
    c.write_at.result c.write_at.ensures.stage
