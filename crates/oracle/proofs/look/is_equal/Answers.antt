use Rattle.oracle.proofs.Looking.{equal_is}
use Rattle.std.proofs.lemmas.Slice.Eq.{slice_eq-Decides}
use Rattle.std.proofs.lemmas.Bool.Decides.{Decides-eqb}
use Rattle.oracle.proofs.look.is_equal.Goals as goal

pub returns : goal.returns
returns c = equal_is c.args.one.now c.args.other.now _ (slice_eq-Decides Decides-eqb c.args.one.now c.args.other.now _ c.eq.ensures)
