use Rattle.std.proofs.Common.{◌≡◌, length, inl, inr, refl}
use Rattle.model.specs.Handed.Handed.{Buffer}
use Rattle.model.specs.Reading.{home_by}
use Rattle.model.specs.Verdicts.{read_verdict}
use Rattle.model.specs.declared.request.Request.TheVariants.{Read}
use Rattle.stage.proofs.Chains.{handed_on}
use Rattle.volume.specs.declared.Volume.{Volume}
use Rattle.volume.specs.Volumes.{CallCame, known}
use Rattle.volume.proofs.Coming.{looks_only}
use Rattle.volume.proofs.Housing.{home_has}
use Rattle.volume.proofs.Looking.{show_met, show_seen}
use Rattle.volume.proofs.Volume.read.Goals as goal

pub returns-in_err-content-clause-ends : goal.returns-in_err-content-clause-ends
returns-in_err-content-clause-ends g c = λ housed.
    let place = g.L.Layout.geometry in
    let v = c.args.self.now in
    let u = known place v in
    let a = g.S.Shelf.meaning v.shelf in
    let b = g.S.Shelf.meaning c.show.new.shelf in
    let i = c.args.sector in
    let judged = c.in_ok-judge_read.ensures in
    let shown = c.in_err-content.ensures.shows (home_has u a i housed judged.enough judged.below) in
    let w : Volume g.row.S.Denot g.row.L.Denot = record { shelf = c.show.new.shelf; array = v.array; hand = v.hand } in
    handed_on (λ r. CallCame g.S.Shelf.meaning place g.L.Layout.named (read_verdict u a i (length c.args.buffer.now)) (λ x. Buffer c.args.buffer.now) (Read i) (w ≡ v) v w r)
    c.from_residual-in_err-content.result _ c.from_residual-in_err-content.ensures.1
    (inr (record { by = judged.verdict; met = show_met (home_by u i) u.crew u.crew.source u.crew.target u.backup i a b _ shown; head = refl; known = refl }, inl shown.0))

pub returns-clause-ends : goal.returns-clause-ends
returns-clause-ends g c = λ housed.
    let place = g.L.Layout.geometry in
    let v = c.args.self.now in
    let u = known place v in
    let a = g.S.Shelf.meaning v.shelf in
    let i = c.args.sector in
    let judged = c.in_ok-judge_read.ensures in
    let shown = c.in_ok-content.ensures.shows (home_has u a i housed judged.enough judged.below) in
    let b = g.S.Shelf.meaning c.show.new.shelf in
    let h = v.array.head in (
      record {
        by = judged.verdict;
        goes = shown.1;
        head = refl;
        known = refl;
        out = show_seen u i a b c.in_ok-content.content c.copy_from_slice.new.self judged.enough shown c.copy_from_slice.ensures.after;
      },
      looks_only (Read i) u (g.L.Layout.named v.array.target) h h a b (record { may = shown.0; goes = shown.1 }) refl refl,
    )
