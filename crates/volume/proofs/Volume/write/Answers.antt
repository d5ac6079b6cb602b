use Rattle.std.proofs.Common.{◌≡◌, length, inr, inl, refl, subst, rules}
use Rattle.model.specs.Handed.Handed.{Nothing}
use Rattle.model.specs.Reading.{home_by}
use Rattle.model.specs.Verdicts.{write_verdict}
use Rattle.model.specs.declared.request.Request.TheVariants.{Write}
use Rattle.stage.proofs.Chains.{handed_on}
use Rattle.volume.specs.Volumes.{CallCame, known}
use Rattle.volume.proofs.Housing.{home_has}
use Rattle.volume.proofs.Writing.{in_home, onto, parity_met, write_ends}
use Rattle.volume.proofs.Volume.write.Goals as goal

pub returns-in_err-parity-clause-ends : goal.returns-in_err-parity-clause-ends
returns-in_err-parity-clause-ends g c = λ housed.
    let place = g.L.Layout.geometry in
    let v = c.args.self.now in
    let u = known place v in
    let a = g.S.Shelf.meaning v.shelf in
    let b = g.S.Shelf.meaning c.parity_after.new.shelf in
    let i = c.args.sector in
    let x = c.args.buffer.now in
    let judged = c.in_ok-judge_write.ensures in
    let shown = c.in_err-parity.ensures.shows (home_has u a i housed judged.enough judged.below) in
    let w = onto v c.parity_after.new.shelf in
    handed_on (λ r. CallCame g.S.Shelf.meaning place g.L.Layout.named (write_verdict u a i (length x)) (λ y. Nothing) (Write i x) (w ≡ v) v w r)
    c.from_residual-in_err-parity.result _ c.from_residual-in_err-parity.ensures.1
    (inr (
      record { by = judged.verdict; met = parity_met (home_by u i) u.crew u.crew.source u.crew.target u.backup i _ a b _ shown; head = inl refl; known = refl },
      inl shown.0,
    ))

pub returns-clause-ends : goal.returns-clause-ends
returns-clause-ends g c = λ housed.
    let mean = g.S.Shelf.meaning in
    let place = g.L.Layout.geometry in
    let v = c.args.self.now in
    let u = known place v in
    let a = mean v.shelf in
    let i = c.args.sector in
    let x = c.args.buffer.now in
    let judged = c.in_ok-judge_write.ensures in
    let has = home_has u a i housed judged.enough judged.below in
    let datum = c.in_ok-datum.datum.now in
    let is : datum ≡ x = search rules in
    let w = c.carry_out.new.self in
    subst (λ y. CallCame mean place g.L.Layout.named (write_verdict u a i (length x)) (λ z. Nothing) (Write i y) (w ≡ v) v w c.carry_out.result) is
    (write_ends mean place g.L.Layout.named (write_verdict u a i (length x)) (w ≡ v) i datum c.in_ok-parity.field-0 v w c.parity_after.new.shelf judged.verdict judged.enough
    (c.in_ok-parity.ensures.shows has) c.carry_out.ensures.alike c.carry_out.result
    (c.carry_out.ensures.ends judged.left (in_home (home_by u i) u.crew u.crew.source u.crew.target u.backup i a has)))
