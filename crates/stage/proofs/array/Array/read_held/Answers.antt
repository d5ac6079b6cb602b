use Rattle.std.proofs.Common.{◌<◌, arith}
use Rattle.stage.proofs.Shown.{lowest_holds}
use Rattle.stage.proofs.array.Array.read_held.Goals as goal

pub returns-in-Some-clause-shows : goal.returns-in-Some-clause-shows
returns-in-Some-clause-shows g c = λ one.
    let s = rw c.in-Some.is at c.in_ok-content.ensures in
    let below : c.args.sector < (g.S.Shelf.meaning c.read_any.new.shelf).sectors = (let lt = one.below in let same = s.0.sectors in omega (arith, lt, same)) in
    (s.0, s.1, lowest_holds c.args.sector (g.S.Shelf.meaning c.read_any.new.shelf) (g.met.S.Shelf.inside c.read_any.new.shelf) below c.in-Some.content s.2)
