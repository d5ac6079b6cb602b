use Rattle.std.proofs.Common.{◌≡◌, false, vec_items, ap, ◌∙◌, arith}
use Rattle.sector.specs.Folds.{folded}
use Rattle.model.specs.Contents.{gathered, padded}
use Rattle.model.specs.Disks.{disk_of}
use Rattle.oracle.proofs.Looking.{gather_more}
use Rattle.oracle.proofs.fresh.fresh_parity.Goals as goal

pub loop-index-preserved : goal.loop-index-preserved
loop-index-preserved g c =
    let e = c.args.disk.now in
    let d = disk_of (vec_items e.sectors) e.phase e.settled e.kept e.hand in
    let q = (g.L.Layout.geometry c.args.layout.now) in
    gather_more (λ b. false) (λ b. padded d.size d.content (q.peer c.args.group b)) c.loop-index.index c.loop-index.parity _ c.loop-index.invariant
    (c.fold.ensures ∙ ap (folded c.loop-index.parity) (c.sector.ensures ∙ ap (padded d.size d.content) (c.peer.ensures.0 (c.requires, omega (arith, c.peers-index-end.ensures.0 c.requires)))))

pub returns : goal.returns
returns g c =
    let e = c.args.disk.now in
    let d = disk_of (vec_items e.sectors) e.phase e.settled e.kept e.hand in
    let q = (g.L.Layout.geometry c.args.layout.now) in
    let end : c.loop-index.index ≡ q.peers c.args.group = omega (arith, c.peers-index-end.ensures.0 c.requires) in
    c.loop-index.invariant ∙ ap (gathered (λ b. false) (λ b. padded d.size d.content (q.peer c.args.group b))) end
