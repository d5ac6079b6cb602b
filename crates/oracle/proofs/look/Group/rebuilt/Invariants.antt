use Rattle.std.proofs.Common.{◌≡◌, eqb}
use Rattle.model.specs.Contents.{at, gathered}
use Rattle.oracle.proofs.look.Group.rebuilt.Given as goal

abbrev pub invariant-loop-index : goal.invariant-loop-index
invariant-loop-index g l =
    let q = g.L.Layout.geometry l.view.layout.now in
    l.content ≡ gathered (λ b. eqb (q.peer l.self.number b) l.sector) (λ b. at (g.S.Shelf.meaning l.view.shelf.now) l.view.backup (q.datum (q.peer l.self.number b) 0)) l.index
