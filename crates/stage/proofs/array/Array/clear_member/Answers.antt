use Rattle.std.proofs.Common.{◌≡◌, ℕ, arith, rules, subst}
use Rattle.model.proofs.Mays.{may_wider}
use Rattle.model.specs.Ends.{Stage}
use Rattle.model.specs.Images.{created_over}
use Rattle.stage.specs.Arrays.{crew_of}
use Rattle.stage.specs.Endings.{OnMember, only_writes}
use Rattle.model.specs.Steps.{MadeAt}
use Rattle.stage.proofs.Chains.{handed_on}
use Rattle.stage.proofs.Clearing.{ClearedBelow, member_cleared, place_cleared, place_planned}
use Rattle.stage.proofs.Endings.{met_after}
use Rattle.stage.proofs.array.Array.clear_member.Goals as goal

pub returns-in_err-clear_place : goal.returns-in_err-clear_place
returns-in_err-clear_place g c =
    let w = crew_of g.L.Layout.geometry c.args.self.now in
    let x = g.L.Layout.geometry c.args.self.now.source in
    let law = g.met.L.Layout.lawful c.args.self.now.source in
    let backup = c.args.self.now.head.backup in
    let a = g.S.Shelf.meaning c.args.shelf.now in
    let d = g.S.Shelf.meaning c.clear_place.new.shelf in
    let f = created_over x backup in
    let so = c.loop-offset.invariant in
    let s = c.in_err-clear_place.ensures in
    let depth = law.limits.depth_most in
    handed_on (λ r. Stage w (λ k n y. y ≡ f a.current k n) (OnMember only_writes a) a d (λ u. (n : ℕ) → MadeAt f a d c.args.member n) r) c.from_residual.result _ c.from_residual.ensures.1
    (met_after {P = λ k n y. y ≡ f a.current k n} d (record { may = so.may; goes = so.goes }) _
    (may_wider (place_planned x law backup c.args.member c.loop-offset.offset a (omega (arith, depth)) (search rules)) s.0, s.1))

pub loop-offset-preserved : goal.loop-offset-preserved
loop-offset-preserved g c =
    let x = g.L.Layout.geometry c.args.self.now.source in
    let law = g.met.L.Layout.lawful c.args.self.now.source in
    let depth = law.limits.depth_most in
    let s = c.in_ok-clear_place.ensures in
    place_cleared x law c.args.self.now.head.backup c.args.member c.loop-offset.offset (g.S.Shelf.meaning c.args.shelf.now) (g.S.Shelf.meaning c.loop-offset.shelf)
    (g.S.Shelf.meaning c.clear_place.new.shelf) (omega (arith, depth)) (search rules) c.loop-offset.invariant s.0 s.1 s.2

pub returns : goal.returns
returns g c =
    let x = g.L.Layout.geometry c.args.self.now.source in
    let backup = c.args.self.now.head.backup in
    let a = g.S.Shelf.meaning c.args.shelf.now in
    let b = g.S.Shelf.meaning c.loop-offset.shelf in
    let so = c.loop-offset.invariant in
    let end : c.loop-offset.offset ≡ x.depth = omega arith in
    let all = subst (λ n. ClearedBelow (crew_of g.L.Layout.geometry c.args.self.now) x backup c.args.member n a b) end so in
    (so.may, so.goes, member_cleared x (g.met.L.Layout.lawful c.args.self.now.source) backup c.args.member a b all)
