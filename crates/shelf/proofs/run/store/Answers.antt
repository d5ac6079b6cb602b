use Rattle.std.proofs.Common.{◌+◌, ◌-◌, ◌*◌, sym, arith}
use Rattle.std.proofs.lemmas.Slice.{put_mid-paste}
use Rattle.shelf.proofs.run.store.Goals as goal

pub returns : goal.returns
returns c =
    put_mid-paste (c.args.at * 512) (c.args.at * 512 + 512 - c.args.at * 512) c.args.run.now c.copy_from_slice.new.self
    c.args.content.now 512 c.copy_from_slice.ensures.after (omega arith) (sym c.told-content)
