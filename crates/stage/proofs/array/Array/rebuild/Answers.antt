use Rattle.stage.proofs.Places.{no_copy_gives}
use Rattle.stage.proofs.array.Array.rebuild.Goals as goal

pub returns-in-None-clause-shows : goal.returns-in-None-clause-shows
returns-in-None-clause-shows g c = λ n.
    let x = g.L.Layout.geometry c.args.layout.now in
    let gives = no_copy_gives x (g.met.L.Layout.lawful c.args.layout.now) c.args.self.now.head.backup c.args.sector (g.S.Shelf.meaning c.args.shelf.now) n in
    absurd (rw c.in-None.is at c.group.ensures (gives.any, n.has.below))
