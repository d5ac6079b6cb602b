use Rattle.std.proofs.Common.{rules, arith}
use Rattle.model.specs.Contents.{differs, is_there}
use Rattle.oracle.proofs.Looking.{copies_there}
use Rattle.oracle.proofs.look.View.differs.Goals as goal

pub returns-then-some_below : goal.returns-then-some_below
returns-then-some_below g c =
    let q = g.L.Layout.geometry c.args.self.now.layout.now in
    let a = g.S.Shelf.meaning c.args.self.now.shelf.now in
    copies_there q a c.args.self.now.backup c.args.sector c.args.content.now _ _ _ c.copies-copies.ensures (omega (arith, c.capacity.ensures, c.if-sector-capacity.false))
    (c.some_below.ensures (λ j. is_there a (q.datum c.args.sector j)) (λ j y lt called. search rules)) c.if-some_below.true
    (c.some_below-then-some_below.ensures (λ j. differs a c.args.self.now.backup c.args.content.now (q.datum c.args.sector j)) (λ j y lt called. search rules))
