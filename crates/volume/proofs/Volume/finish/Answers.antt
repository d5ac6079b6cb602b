use Rattle.std.proofs.Common.{◌≡◌, inr, refl, rules}
use Rattle.head.specs.declared.state.Progress.TheVariants.{Idle}
use Rattle.model.specs.Handed.Handed.{Counts}
use Rattle.model.specs.Verdicts.{finish_verdict}
use Rattle.model.specs.declared.request.Request.TheVariants.{Finish}
use Rattle.stage.proofs.Chains.{handed_on}
use Rattle.volume.specs.Volumes.{CallCame, known}
use Rattle.volume.proofs.Coming.{checkpoint_done, checkpoint_met_at, checkpoint_torn}
use Rattle.volume.proofs.Ending.{heads_in_call}
use Rattle.volume.proofs.Volume.finish.Goals as goal

pub returns-in_err-checkpoint-clause-ends : goal.returns-in_err-checkpoint-clause-ends
returns-in_err-checkpoint-clause-ends g c =
    let mean = g.S.Shelf.meaning in
    let place = g.L.Layout.geometry in
    let v = c.args.self.now in
    let w = c.checkpoint.new.self in
    let u = known place v in
    let a = mean v.shelf in
    let l = g.L.Layout.named v.array.target in
    let verdict = finish_verdict u a in
    let judged = c.in_ok-judge_finish.ensures in
    let made = rw c.label-label.ensures at c.in_err-checkpoint.ensures in
    handed_on (λ r. CallCame mean place g.L.Layout.named verdict (λ f. Counts f.rows f.kept) Finish (w ≡ v) v w r)
    c.from_residual-in_err-checkpoint.result _ c.from_residual-in_err-checkpoint.ensures.1
    (inr (
      checkpoint_met_at mean place verdict Finish l Idle v w _ judged.verdict judged.left made (heads_in_call Finish refl refl a) (λ e. e) refl,
      checkpoint_torn Finish u l v.array.head w.array.head a (mean w.shelf) _ refl judged.left made.stage,
    ))

pub returns-clause-ends : goal.returns-clause-ends
returns-clause-ends g c =
    let mean = g.S.Shelf.meaning in
    let place = g.L.Layout.geometry in
    let v = c.args.self.now in
    let w = c.checkpoint.new.self in
    let made = rw c.label-label.ensures at c.in_ok-checkpoint.ensures in
    let l = g.L.Layout.named v.array.target in
    (search rules, checkpoint_done Finish (known place v) l v.array.head w.array.head (mean v.shelf) (mean w.shelf) refl made.stage made.fits)
