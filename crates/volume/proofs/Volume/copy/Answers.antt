use Rattle.std.proofs.Common.{◌≡◌, ◌+◌, Err, inr, refl, subst, rules}
use Rattle.head.specs.Heads.{settled_rows}
use Rattle.model.specs.Handed.Handed.{Row}
use Rattle.model.specs.May.{From}
use Rattle.model.specs.Verdicts.{copy_verdict}
use Rattle.model.specs.declared.request.Request.TheVariants.{Copy}
use Rattle.stage.proofs.Chains.{handed_on}
use Rattle.volume.specs.Volumes.{CallEnds, granted_row, known, rowed}
use Rattle.volume.proofs.Keeping.{copy_goes, copy_met, has_volume}
use Rattle.volume.proofs.Writing.{onto}
use Rattle.volume.proofs.Volume.copy.Goals as goal

pub returns-in_err-in_row-clause-ends : goal.returns-in_err-in_row-clause-ends
returns-in_err-in_row-clause-ends g c = λ housed.
    let mean = g.S.Shelf.meaning in
    let place = g.L.Layout.geometry in
    let v = c.args.self.now in
    let u = known place v in
    let a = mean v.shelf in
    let x = c.place_row-placed.result in
    let w = onto v c.place_row-placed.new.shelf in
    let judged = c.in_ok-judge_copy.ensures in
    let placed = c.place_row-placed.ensures.ends (has_volume mean place v housed judged.enough) in
    let is = subst (λ row. Err c.in_err-in_row.field-0.0 ≡ rowed row x) c.walk-walk.ensures.settled c.in_err-in_row.ensures in
    handed_on (λ r. CallEnds mean place g.L.Layout.named (copy_verdict u a) (λ t. Row (granted_row t)) Copy (w ≡ v) v w r) c.from_residual-in_err-in_row.result _
    c.from_residual-in_err-in_row.ensures.1
    (inr (record {
      by = judged.verdict;
      met = copy_met u.crew (From (3 + v.array.head.backup)) a (mean w.shelf) (settled_rows v.array.head.progress) x placed _ is;
      head = refl;
      known = refl;
    }))

pub returns-clause-ends : goal.returns-clause-ends
returns-clause-ends g c = λ housed.
    let mean = g.S.Shelf.meaning in
    let place = g.L.Layout.geometry in
    let v = c.args.self.now in
    let u = known place v in
    let x = c.place_row-placed.result in
    let judged = c.in_ok-judge_copy.ensures in
    let placed = c.place_row-placed.ensures.ends (has_volume mean place v housed judged.enough) in
    record {
      by = judged.verdict;
      goes = copy_goes u.crew (From (3 + v.array.head.backup)) (mean v.shelf) (mean c.place_row-placed.new.shelf) c.walk-walk.result.settled x placed c.in_ok-in_row.ensures;
      head = refl;
      known = search rules;
      out = search rules;
    }
