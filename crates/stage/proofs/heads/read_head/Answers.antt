use Rattle.std.proofs.Common.{rules}
use Rattle.stage.proofs.Leading.{read_as}
use Rattle.stage.proofs.heads.read_head.Goals as goal

pub returns-in-Ok-clause-read : goal.returns-in-Ok-clause-read
returns-in-Ok-clause-read g c = (
  record { may = c.get.ensures.may; on = λ e. search rules },
  read_as (g.S.Shelf.meaning c.get.new.shelf) c.args.member c.get.new.content c.decode.result (search rules) (search rules) (search rules) c.decode.ensures,
)
