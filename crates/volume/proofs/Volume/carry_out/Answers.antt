use Rattle.std.proofs.Common.{inl, refl}
use Rattle.stage.proofs.Chains.{handed_on}
use Rattle.volume.specs.Volumes.{Carried}
use Rattle.volume.proofs.Writing.{apply_met, arm_met, armed_home, disarm_ends, onto}
use Rattle.volume.proofs.Volume.carry_out.Goals as goal

pub returns-in_err-log-clause-ends : goal.returns-in_err-log-clause-ends
returns-in_err-log-clause-ends g c = λ left home.
    let mean = g.S.Shelf.meaning in
    let place = g.L.Layout.geometry in
    let v = c.args.self.now in
    let entry = c.args.entry in
    handed_on (λ r. Carried mean place entry.sector entry.datum.now entry.parity.now v (onto v c.log.new.shelf) r) c.from_residual.result _ c.from_residual.ensures.1
    (inl refl, c.in_err-log.ensures.1, inl c.in_err-log.ensures.0)

pub returns-in_err-checkpoint_armed-clause-ends : goal.returns-in_err-checkpoint_armed-clause-ends
returns-in_err-checkpoint_armed-clause-ends g c = λ left home.
    let mean = g.S.Shelf.meaning in
    let place = g.L.Layout.geometry in
    let v = c.args.self.now in
    let w = c.checkpoint_armed.new.self in
    let entry = c.args.entry in
    handed_on (λ r. Carried mean place entry.sector entry.datum.now entry.parity.now v w r) c.from_residual-in_err-checkpoint_armed.result _
    c.from_residual-in_err-checkpoint_armed.ensures.1
    (arm_met mean place entry.sector entry.datum.now entry.parity.now v w c.log.new.shelf _ left c.in_ok-log.ensures.2 c.in_err-checkpoint_armed.ensures)

pub returns-in_err-apply-clause-ends : goal.returns-in_err-apply-clause-ends
returns-in_err-apply-clause-ends g c = λ left home.
    let mean = g.S.Shelf.meaning in
    let place = g.L.Layout.geometry in
    let v = c.args.self.now in
    let m = c.checkpoint_armed.new.self in
    let entry = c.args.entry in
    let arms = c.in_ok-checkpoint_armed.ensures in
    handed_on (λ r. Carried mean place entry.sector entry.datum.now entry.parity.now v (onto m c.apply.new.shelf) r) c.from_residual-in_err-apply.result _
    c.from_residual-in_err-apply.ensures.1
    (apply_met mean place entry.sector entry.datum.now entry.parity.now v m c.log.new.shelf c.apply.new.shelf _ c.in_ok-log.ensures.2 arms
    (c.in_err-apply.ensures.carries arms.stage.1.durable (armed_home mean place entry.sector v m c.log.new.shelf arms home)))

pub returns-clause-ends : goal.returns-clause-ends
returns-clause-ends g c = λ left home.
    let mean = g.S.Shelf.meaning in
    let place = g.L.Layout.geometry in
    let v = c.args.self.now in
    let m = c.checkpoint_armed.new.self in
    let w = c.checkpoint_armed-2.new.self in
    let entry = c.args.entry in
    let arms = c.in_ok-checkpoint_armed.ensures in
    let placed = (c.in_ok-apply.ensures.carries arms.stage.1.durable (armed_home mean place entry.sector v m c.log.new.shelf arms home)).2 in
    disarm_ends mean place entry.sector entry.datum.now entry.parity.now v m w c.log.new.shelf c.apply.new.shelf left c.in_ok-log.ensures.2 arms placed
    c.checkpoint_armed-2.result c.checkpoint_armed-2.ensures
