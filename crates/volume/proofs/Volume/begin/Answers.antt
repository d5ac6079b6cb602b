use Rattle.std.proofs.Common.{◌≡◌, inr, refl, rules}
use Rattle.head.specs.declared.state.Progress.TheVariants.{Moving}
use Rattle.model.specs.Handed.Handed.{Distance}
use Rattle.model.specs.Verdicts.{begin_verdict}
use Rattle.model.specs.declared.request.Request.TheVariants.{Begin}
use Rattle.stage.proofs.Chains.{handed_on}
use Rattle.volume.specs.Volumes.{CallCame, known}
use Rattle.volume.proofs.Coming.{checkpoint_done, checkpoint_met_at, checkpoint_torn}
use Rattle.volume.proofs.Ending.{heads_in_call}
use Rattle.volume.proofs.Volume.begin.Goals as goal

pub returns-in_err-checkpoint_progress-clause-ends : goal.returns-in_err-checkpoint_progress-clause-ends
returns-in_err-checkpoint_progress-clause-ends g c =
    let mean = g.S.Shelf.meaning in
    let place = g.L.Layout.geometry in
    let v = c.args.self.now in
    let w = c.checkpoint_progress.new.self in
    let u = known place v in
    let a = mean v.shelf in
    let l = g.L.Layout.named v.array.target in
    let verdict = begin_verdict l u a in
    let judged = c.in_ok-distance.ensures in
    let made = c.in_err-checkpoint_progress.ensures in
    handed_on (λ r. CallCame mean place g.L.Layout.named verdict (λ d. Distance d) Begin (w ≡ v) v w r)
    c.from_residual-in_err-checkpoint_progress.result _ c.from_residual-in_err-checkpoint_progress.ensures.1
    (inr (
      checkpoint_met_at mean place verdict Begin v.array.head.source (Moving l 0 0) v w _ judged.verdict judged.left made (heads_in_call Begin refl refl a) (λ e. e) refl,
      checkpoint_torn Begin u l v.array.head w.array.head a (mean w.shelf) _ refl judged.left made.stage,
    ))

pub returns-clause-ends : goal.returns-clause-ends
returns-clause-ends g c =
    let mean = g.S.Shelf.meaning in
    let place = g.L.Layout.geometry in
    let v = c.args.self.now in
    let w = c.checkpoint_progress.new.self in
    let made = c.in_ok-checkpoint_progress.ensures in
    let l = g.L.Layout.named v.array.target in
    (search rules, checkpoint_done Begin (known place v) l v.array.head w.array.head (mean v.shelf) (mean w.shelf) refl made.stage made.fits)
