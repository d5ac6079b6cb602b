use Rattle.std.proofs.Common.{vec_items, rules, arith}
use Rattle.shelf.specs.Answers.{done}
use Rattle.shelf.specs.Plains.{plain_of}
use Rattle.shelf.proofs.Plainly.{plain_writes}
use Rattle.shelf.proofs.plain.PlainShelfShelf.write.Goals as goal

pub returns-clause-writes : goal.returns-clause-writes
returns-clause-writes c =
    let images = c.store.new.self in
    plain_writes c.args.member c.args.sector c.args.buffer.now c.args.self.now (plain_of images.extent.members images.extent.sectors (vec_items images.bytes)) done (rw (← c.self.view_is) (omega (arith, c.self.inside.images.held))) (search rules)
