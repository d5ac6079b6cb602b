use Rattle.std.proofs.Common.{◌∙◌, vec_items, arith}
use Rattle.shelf.proofs.Bringing.{brought_more}
use Rattle.shelf.proofs.images.Images+2.bring_out.Goals as goal

pub loop-member-preserved : goal.loop-member-preserved
loop-member-preserved c =
    let a = c.args.self.now in
    let step = rw c.loop-member.invariant.0 at c.bring_out_member.ensures.content in (
      c.bring_out_member.ensures.extent ∙ c.loop-member.invariant.0,
      brought_more a.extent.members a.extent.sectors c.args.controls.now c.loop-member.member (vec_items a.bytes) (vec_items c.loop-member.self.bytes) (vec_items c.bring_out_member.new.self.bytes)
          (omega arith) (omega (arith, a.held)) c.loop-member.invariant.1 step,
    )
