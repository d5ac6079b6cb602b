-- Members that are enough have every sector.
use Rattle.model.proofs.Readable.{enough_read}
use Rattle.model.proofs.enough_reads.Goals as goal

pub returns : goal.returns
returns c = enough_read
