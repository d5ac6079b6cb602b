use Rattle.shelf.proofs.Relations.{allows, keeps, repeats}
use Rattle.shelf.proofs.relation_stands.Goals as goal

pub returns : goal.returns
returns c = record { repeated = repeats; remembered = keeps; allowed = allows }
