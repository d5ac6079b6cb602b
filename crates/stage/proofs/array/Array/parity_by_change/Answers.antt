use Rattle.std.proofs.Common.{◌≡◌, length, arith}
use Rattle.answer.specs.declared.Operation.TheVariants.{Read}
use Rattle.model.specs.Reading.{parity_with}
use Rattle.stage.specs.Arrays.{crew_of}
use Rattle.stage.specs.Looks.{OnBody, Shows}
use Rattle.stage.proofs.Chains.{handed_on}
use Rattle.stage.proofs.Shown.{change_sure, parity_changed}
use Rattle.stage.proofs.array.Array.parity_by_change.Goals as goal

pub returns-in_err-parity-clause-shows : goal.returns-in_err-parity-clause-shows
returns-in_err-parity-clause-shows g c = λ lost e.
    let w = crew_of g.L.Layout.geometry c.args.self.now in
    let x = g.L.Layout.geometry c.args.layout.now in
    let backup = c.args.self.now.head.backup in
    let a = g.S.Shelf.meaning c.args.shelf.now in
    let d = g.S.Shelf.meaning c.fold_held.new.shelf in
    let sure = change_sure x (g.met.L.Layout.lawful c.args.layout.now) backup c.args.sector a c.place.result lost c.place.ensures in
    handed_on (λ r. Shows w (OnBody Read backup a) a d (λ m. parity_with x m backup c.args.sector c.args.datum.now) r)
    c.from_residual.result _ c.from_residual.ensures.1 (c.in_err-parity.ensures.folds sure)

pub returns-clause-shows : goal.returns-clause-shows
returns-clause-shows g c = λ lost e.
    let x = g.L.Layout.geometry c.args.layout.now in
    let law = g.met.L.Layout.lawful c.args.layout.now in
    let backup = c.args.self.now.head.backup in
    let a = g.S.Shelf.meaning c.args.shelf.now in
    let b = g.S.Shelf.meaning c.fold_held.new.shelf in
    let d = g.S.Shelf.meaning c.fold_held-2.new.shelf in
    let sure = change_sure x law backup c.args.sector a c.place.result lost c.place.ensures in
    let s = c.in_ok-parity.ensures.folds sure in
    let long : length c.args.datum.now ≡ 512 = omega arith in
    parity_changed x law backup c.args.sector c.args.group a b d c.args.datum.now c.in_ok-parity.parity c.place.result c.parity.result c.fold_held-2.result e long lost
    (record { may = s.0; goes = s.1 }) c.place.ensures c.parity.ensures s.2 c.fold_held-2.ensures.folds
