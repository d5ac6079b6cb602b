use Rattle.std.proofs.Common.{◌≡◌, refl, subst, arith}
use Rattle.answer.specs.declared.Operation.TheVariants.{Flush}
use Rattle.model.proofs.Mays.{may_wider}
use Rattle.model.specs.Images.{created_over}
use Rattle.stage.specs.Arrays.{crew_of}
use Rattle.stage.specs.Endings.{Carries, OnMember, only_writes}
use Rattle.stage.proofs.Chains.{handed_on}
use Rattle.stage.proofs.Clearing.{MembersCleared, cleared_from, members_cover, one_member_cleared}
use Rattle.stage.proofs.Endings.{met_after, on_sector}
use Rattle.stage.proofs.Stepping.{carried_after}
use Rattle.stage.proofs.array.Array.clear.Goals as goal

pub returns-in_err-clear_member : goal.returns-in_err-clear_member
returns-in_err-clear_member g c =
    let w = crew_of g.L.Layout.geometry c.args.self.now in
    let x = g.L.Layout.geometry c.args.self.now.source in
    let law = g.met.L.Layout.lawful c.args.self.now.source in
    let backup = c.args.self.now.head.backup in
    let f = created_over x backup in
    let a = g.S.Shelf.meaning c.args.shelf.now in
    let b = g.S.Shelf.meaning c.loop-member.shelf in
    let d = g.S.Shelf.meaning c.clear_member.new.shelf in
    let so = c.loop-member.invariant in
    let s = c.in_err-clear_member.ensures in
    handed_on (λ r. Carries w only_writes f a d r) c.from_residual.result _ c.from_residual.ensures.1
    (met_after {P = λ k n y. y ≡ f a.current k n} d (record { may = so.may; goes = so.goes }) _ (may_wider (cleared_from x law backup a b so.may) s.0, s.1))

pub loop-member-preserved : goal.loop-member-preserved
loop-member-preserved g c =
    let s = c.in_ok-clear_member.ensures in
    one_member_cleared (g.L.Layout.geometry c.args.self.now.source) (g.met.L.Layout.lawful c.args.self.now.source) c.args.self.now.head.backup c.loop-member.member
    (g.S.Shelf.meaning c.args.shelf.now) (g.S.Shelf.meaning c.loop-member.shelf) (g.S.Shelf.meaning c.clear_member.new.shelf) c.loop-member.invariant s.0 s.1 s.2

pub returns : goal.returns
returns g c =
    let x = g.L.Layout.geometry c.args.self.now.source in
    let law = g.met.L.Layout.lawful c.args.self.now.source in
    let a = g.S.Shelf.meaning c.args.shelf.now in
    let end : c.loop-member.member ≡ x.members = omega arith in
    carried_after (g.S.Shelf.meaning c.flush_all.new.shelf) (OnMember only_writes a)
    (subst (λ n. MembersCleared (crew_of g.L.Layout.geometry c.args.self.now) x c.args.self.now.head.backup n a (g.S.Shelf.meaning c.loop-member.shelf)) end c.loop-member.invariant)
    (members_cover x law c.args.self.now.head.backup a) (on_sector Flush refl a 0) c.flush_all.result c.flush_all.ensures
