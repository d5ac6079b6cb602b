-- What an operation answers: done, or why it was not.
use Rattle.std.specs.Prelude.{Ok, Result}
use Rattle.shelf.specs.declared.Failure.{Failure}

abbrev pub Answer : Type 0
Answer = Result Unit Failure

abbrev pub done : Answer
done = Ok tt
