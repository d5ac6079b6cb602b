use Rattle.std.specs.List.{each_same}
use Rattle.oracle.proofs.Disks.{all_blank}
use Rattle.oracle.proofs.disk.blank.Goals as goal

pub returns : goal.returns
returns c = all_blank c.vec.result c.args.size c.zeros.result c.zeros.ensures (λ y h. each_same c.zeros.result y h.whole) c.vec.ensures.items_if_clones_equal
