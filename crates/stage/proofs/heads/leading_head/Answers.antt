use Rattle.stage.proofs.Leading.{led_more, looked_then}
use Rattle.stage.proofs.heads.leading_head.Goals as goal

pub loop-member-preserved : goal.loop-member-preserved
loop-member-preserved g c =
    let read = c.in_ok-read_head.ensures.read in (
      looked_then c.loop-member.invariant.0 read.0,
      led_more (g.S.Shelf.meaning c.loop-member.shelf) (g.S.Shelf.meaning c.read_head.new.shelf) c.loop-member.member c.loop-member.found c.in_ok-read_head.field-0 c.leading-found.result
          read.0 c.in_ok-read_head.ensures.others c.loop-member.invariant.1 read.1 c.leading-found.ensures,
    )
