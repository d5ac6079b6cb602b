use Rattle.std.proofs.Common.{◌≡◌, ℕ, Bool, eqb, ap, ap₂, ◌∙◌, List, arith}
use Rattle.sector.specs.Folds.{folded}
use Rattle.model.specs.Contents.{at, gathered, held, on_shelf}
use Rattle.oracle.proofs.Looking.{gather_more, parity_deep}
use Rattle.oracle.proofs.look.Group.rebuilt.Goals as goal

pub loop-index-preserved : goal.loop-index-preserved
loop-index-preserved g c = gather_more _ _ c.loop-index.index c.loop-index.content _ c.loop-index.invariant c.fold_peer.ensures

pub on_shelf-parity-requires : goal.on_shelf-parity-requires
on_shelf-parity-requires g c =
    parity_deep (g.L.Layout.geometry c.args.self.now.view.layout.now) c.args.self.now.number c.parity.result (g.met.L.Layout.lawful c.args.self.now.view.layout.now) c.args.self.now.inside (c.parity.ensures.0 c.args.self.now.inside)

pub returns : goal.returns
returns g c =
    let q = g.L.Layout.geometry c.args.self.now.view.layout.now in
    let a = g.S.Shelf.meaning c.args.self.now.view.shelf.now in
    let skip : ℕ → Bool = λ b. eqb (q.peer c.args.self.now.number b) c.args.sector in
    let content : ℕ → List ℕ = λ b. at a c.args.self.now.view.backup (q.datum (q.peer c.args.self.now.number b) 0) in
    let end : c.loop-index.index ≡ q.peers c.args.self.now.number = omega (arith, c.peers-index-end.ensures.0 c.args.self.now.inside) in
    c.fold_held.ensures ∙ ap₂ folded (c.loop-index.invariant ∙ ap (gathered skip content) end)
    (ap (λ (p : ℕ × ℕ). held a p.0 p.1) (c.on_shelf-parity.ensures ∙ ap (on_shelf c.args.self.now.view.backup) (c.parity.ensures.0 c.args.self.now.inside)))
