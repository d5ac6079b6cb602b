use Rattle.std.proofs.Common.{◌≡◌, None, rules}
use Rattle.stage.proofs.Chains.{handed_on}
use Rattle.volume.specs.TakingUp.{WentOn}
use Rattle.volume.proofs.Opening.{logged_home, redo_ends, redo_met, spread_done, spread_in_use, spread_met}
use Rattle.volume.proofs.Writing.{onto}
use Rattle.volume.proofs.Volume.go_on.Goals as goal

pub returns-in_err-spread-clause-ends : goal.returns-in_err-spread-clause-ends
returns-in_err-spread-clause-ends g c = λ pass.
    let mean = g.S.Shelf.meaning in
    let place = g.L.Layout.geometry in
    let v = c.args.self.now in
    let b = c.spread.new.shelf in
    handed_on (λ r. WentOn mean place v (onto v b) r) c.from_residual.result _ c.from_residual.ensures.1 (spread_met mean place v b _ pass c.in_err-spread.ensures.stage)

pub returns-in_default-clause-ends : goal.returns-in_default-clause-ends
returns-in_default-clause-ends g c = λ pass.
    let v = c.args.self.now in
    let none : v.array.head.armed ≡ None = search rules in
    spread_done g.S.Shelf.meaning g.L.Layout.geometry v c.spread.new.shelf pass none c.in_ok-spread.ensures.stage.2

pub returns-in_err-redo-clause-ends : goal.returns-in_err-redo-clause-ends
returns-in_err-redo-clause-ends g c = λ pass.
    let mean = g.S.Shelf.meaning in
    let place = g.L.Layout.geometry in
    let v = c.args.self.now in
    let b = c.spread.new.shelf in
    let s = c.in_ok-spread.ensures.stage in
    let is = c.in-Some.is in
    handed_on (λ r. WentOn mean place v (onto v c.redo.new.shelf) r) c.from_residual-in_err-redo.result _ c.from_residual-in_err-redo.ensures.1
    (redo_met mean place _ v b c.redo.new.shelf _ pass is s.2
    (c.in_err-redo.ensures.carries (spread_in_use mean place v b pass s.0 s.1) s.2.durable (logged_home mean place _ v pass is)))

pub returns-clause-ends : goal.returns-clause-ends
returns-clause-ends g c = λ pass.
    let mean = g.S.Shelf.meaning in
    let place = g.L.Layout.geometry in
    let v = c.args.self.now in
    let b = c.spread.new.shelf in
    let s = c.in_ok-spread.ensures.stage in
    let is = c.in-Some.is in
    let redone = c.in_ok-redo.ensures.carries (spread_in_use mean place v b pass s.0 s.1) s.2.durable (logged_home mean place _ v pass is) in
    redo_ends mean place _ v c.checkpoint_armed.new.self b c.redo.new.shelf pass is s.2 redone c.checkpoint_armed.result c.checkpoint_armed.ensures
