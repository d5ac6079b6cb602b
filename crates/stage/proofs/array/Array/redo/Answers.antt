use Rattle.std.proofs.Common.{arith, rules}
use Rattle.model.specs.May.{From}
use Rattle.stage.specs.Arrays.{crew_of}
use Rattle.stage.specs.Endings.{StageEnds, reads_and_writes}
use Rattle.stage.specs.Places.{RedoneBy}
use Rattle.stage.proofs.Chains.{handed_on, stage_may}
use Rattle.model.proofs.Mays.{may_then, may_wider, quiet}
use Rattle.stage.proofs.Endings.{Going, ends_after, member_as, stage_ends, writes_too}
use Rattle.stage.proofs.Flushed.{durable_stays}
use Rattle.stage.proofs.Redone.{log_met, log_read, no_look, redo_done, redo_met}
use Rattle.stage.proofs.array.Array.redo.Goals as goal

pub returns-in_err-datum-clause-ends : goal.returns-in_err-datum-clause-ends
returns-in_err-datum-clause-ends g c = λ u.
    let v = c.args.self.now in
    let w = crew_of g.L.Layout.geometry v in
    let a = g.S.Shelf.meaning c.args.shelf.now in
    let d = g.S.Shelf.meaning c.read_held.new.shelf in
    let s = log_met w (g.L.Layout.geometry v.source) (g.met.L.Layout.lawful v.source) v.head.backup 1 a a d c.in_err-datum.field-0.0 u (omega arith) (no_look w a)
    c.in_err-datum.ensures.shows in
    handed_on (StageEnds w reads_and_writes (From 3) a d) c.from_residual.result _ c.from_residual.ensures.1 (quiet s.0, s.1)

pub returns-in_err-datum-clause-carries : goal.returns-in_err-datum-clause-carries
returns-in_err-datum-clause-carries g c = λ u durable has.
    let place = g.L.Layout.geometry in
    let v = c.args.self.now in
    let w = crew_of place v in
    let a = g.S.Shelf.meaning c.args.shelf.now in
    let d = g.S.Shelf.meaning c.read_held.new.shelf in
    let s = log_met w (place v.source) (g.met.L.Layout.lawful v.source) v.head.backup 1 a a d c.in_err-datum.field-0.0 u (omega arith) (no_look w a)
    c.in_err-datum.ensures.shows in
    handed_on (RedoneBy place v c.args.sector a d) c.from_residual.result _ c.from_residual.ensures.1 (redo_met place v c.args.sector a d _ u.enough s.0 s.1)

pub returns-in_err-parity-clause-ends : goal.returns-in_err-parity-clause-ends
returns-in_err-parity-clause-ends g c = λ u.
    let v = c.args.self.now in
    let w = crew_of g.L.Layout.geometry v in
    let x = g.L.Layout.geometry v.source in
    let law = g.met.L.Layout.lawful v.source in
    let a = g.S.Shelf.meaning c.args.shelf.now in
    let b = g.S.Shelf.meaning c.read_held.new.shelf in
    let d = g.S.Shelf.meaning c.read_held-2.new.shelf in
    let first = log_read w x law v.head.backup 1 a a b c.in_ok-datum.datum u (omega arith) (no_look w a) c.in_ok-datum.ensures.shows in
    let s = log_met w x law v.head.backup 2 a b d c.in_err-parity.field-0.0 u (omega arith) first.0 c.in_err-parity.ensures.shows in
    handed_on (StageEnds w reads_and_writes (From 3) a d) c.from_residual-in_err-parity.result _ c.from_residual-in_err-parity.ensures.1 (quiet s.0, s.1)

pub returns-in_err-parity-clause-carries : goal.returns-in_err-parity-clause-carries
returns-in_err-parity-clause-carries g c = λ u durable has.
    let place = g.L.Layout.geometry in
    let v = c.args.self.now in
    let w = crew_of place v in
    let law = g.met.L.Layout.lawful v.source in
    let a = g.S.Shelf.meaning c.args.shelf.now in
    let b = g.S.Shelf.meaning c.read_held.new.shelf in
    let d = g.S.Shelf.meaning c.read_held-2.new.shelf in
    let first = log_read w (place v.source) law v.head.backup 1 a a b c.in_ok-datum.datum u (omega arith) (no_look w a) c.in_ok-datum.ensures.shows in
    let s = log_met w (place v.source) law v.head.backup 2 a b d c.in_err-parity.field-0.0 u (omega arith) first.0 c.in_err-parity.ensures.shows in
    handed_on (RedoneBy place v c.args.sector a d) c.from_residual-in_err-parity.result _ c.from_residual-in_err-parity.ensures.1
    (redo_met place v c.args.sector a d _ u.enough s.0 s.1)

pub returns-clause-may : goal.returns-clause-may
returns-clause-may g c =
    may_then (quiet c.read_held.ensures.may) (may_then (quiet c.read_held-2.ensures.may)
    (may_wider (λ k s x p. search rules) (stage_may _ _ _ c.apply.result c.apply.ensures.ends)))

pub returns-clause-ends : goal.returns-clause-ends
returns-clause-ends g c = λ u.
    let v = c.args.self.now in
    let w = crew_of g.L.Layout.geometry v in
    let x = g.L.Layout.geometry v.source in
    let law = g.met.L.Layout.lawful v.source in
    let a = g.S.Shelf.meaning c.args.shelf.now in
    let b = g.S.Shelf.meaning c.read_held.new.shelf in
    let e = g.S.Shelf.meaning c.read_held-2.new.shelf in
    let d = g.S.Shelf.meaning c.apply.new.shelf in
    let first = log_read w x law v.head.backup 1 a a b c.in_ok-datum.datum u (omega arith) (no_look w a) c.in_ok-datum.ensures.shows in
    let both = log_read w x law v.head.backup 2 a b e c.in_ok-parity.parity u (omega arith) first.0 c.in_ok-parity.ensures.shows in
    let so : Going w (From 3) a e = record { may = quiet both.0.may; goes = both.0.goes } in
    ends_after reads_and_writes d so c.apply.result
    (stage_ends w _ (From 3) _ _ e d _ (λ k n y p. search rules) (member_as writes_too e) c.apply.result c.apply.ensures.ends)

pub returns-clause-carries : goal.returns-clause-carries
returns-clause-carries g c = λ u durable has.
    let place = g.L.Layout.geometry in
    let v = c.args.self.now in
    let w = crew_of place v in
    let law = g.met.L.Layout.lawful v.source in
    let a = g.S.Shelf.meaning c.args.shelf.now in
    let b = g.S.Shelf.meaning c.read_held.new.shelf in
    let e = g.S.Shelf.meaning c.read_held-2.new.shelf in
    let d = g.S.Shelf.meaning c.apply.new.shelf in
    let first = log_read w (place v.source) law v.head.backup 1 a a b c.in_ok-datum.datum u (omega arith) (no_look w a) c.in_ok-datum.ensures.shows in
    let both = log_read w (place v.source) law v.head.backup 2 a b e c.in_ok-parity.parity u (omega arith) first.0 c.in_ok-parity.ensures.shows in
    redo_done place v c.args.sector a b e d c.in_ok-datum.datum c.in_ok-parity.parity c.apply.result u.enough first c.read_held-2.ensures.may both
    (c.apply.ensures.carries (durable_stays both.0.may durable) has)
