use Rattle.std.proofs.Common.{◌∙◌, ap, length, take, drop, ◌-◌, ◌*◌, length-drop, arith}
use Rattle.std.proofs.lemmas.List.{take_all}
use Rattle.shelf.proofs.run.sector_at.Goals as goal

pub returns : goal.returns
returns c =
    let rest = drop (c.args.at * 512) c.args.run.now in
    (rw c.unwrap.ensures at c.first_chunk.ensures.cases).same ∙ ap (take 512) (take_all (length c.args.run.now - c.args.at * 512) rest (omega (arith, length-drop (c.args.at * 512) c.args.run.now)))
