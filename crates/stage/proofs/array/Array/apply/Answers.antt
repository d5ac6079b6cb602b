use Rattle.std.proofs.Common.{Ok, Err}
use Rattle.model.specs.May.{nothing}
use Rattle.model.specs.Steps.{Torn}
use Rattle.stage.specs.Arrays.{crew_of}
use Rattle.stage.specs.Endings.{Carries, StageEnds, only_writes}
use Rattle.stage.specs.Looks.{homes_of}
use Rattle.stage.specs.Places.{EitherOf, HasHome, HomeFlushed, home_step}
use Rattle.stage.proofs.Chains.{handed_on}
use Rattle.stage.proofs.Endings.{Going, ends_after, no_plan, stage_ends}
use Rattle.model.proofs.Mays.{may_then, quiet}
use Rattle.stage.proofs.Flushed.{carries_after, home_durable}
use Rattle.stage.proofs.Written.{by_plan, by_step}
use Rattle.stage.proofs.array.Array.apply.Goals as goal

pub returns-in_err-write_home-clause-ends : goal.returns-in_err-write_home-clause-ends
returns-in_err-write_home-clause-ends g c =
    let place = g.L.Layout.geometry in
    let v = c.args.self.now in
    let e = c.args.entry in
    let P = EitherOf 3 e.datum.now e.parity.now in
    let a = g.S.Shelf.meaning c.args.shelf.now in
    let d = g.S.Shelf.meaning c.write_home.new.shelf in
    handed_on (StageEnds (crew_of place v) only_writes P a d) c.from_residual.result _ c.from_residual.ensures.1
    (by_plan (crew_of place v) (HasHome place v e.sector) P (home_step place v e.sector e.datum.now e.parity.now) a d (Err c.in_err-write_home.field-0.0)
    c.in_err-write_home.ensures)

pub returns-in_err-write_home-clause-carries : goal.returns-in_err-write_home-clause-carries
returns-in_err-write_home-clause-carries g c = λ durable has.
    let place = g.L.Layout.geometry in
    let v = c.args.self.now in
    let e = c.args.entry in
    let f = home_step place v e.sector e.datum.now e.parity.now in
    let a = g.S.Shelf.meaning c.args.shelf.now in
    let d = g.S.Shelf.meaning c.write_home.new.shelf in
    handed_on (Carries (crew_of place v) only_writes f a d) c.from_residual.result _ c.from_residual.ensures.1
    (by_step (crew_of place v) (HasHome place v e.sector) (EitherOf 3 e.datum.now e.parity.now) f a d (Err c.in_err-write_home.field-0.0) has
    c.in_err-write_home.ensures)

pub returns-clause-ends : goal.returns-clause-ends
returns-clause-ends g c =
    let place = g.L.Layout.geometry in
    let v = c.args.self.now in
    let e = c.args.entry in
    let w = crew_of place v in
    let P = EitherOf 3 e.datum.now e.parity.now in
    let a = g.S.Shelf.meaning c.args.shelf.now in
    let b = g.S.Shelf.meaning c.write_home.new.shelf in
    let d = g.S.Shelf.meaning c.flush_home.new.shelf in
    let s = by_plan w (HasHome place v e.sector) P (home_step place v e.sector e.datum.now e.parity.now) a b (Ok tt) c.in_ok-write_home.ensures in
    let so : Going w P a b = record { may = s.0; goes = s.1 } in
    ends_after only_writes d so c.flush_home.result (stage_ends w _ P nothing _ b d _ (no_plan P) (λ f n. n) c.flush_home.result c.flush_home.ensures)

pub returns-clause-carries : goal.returns-clause-carries
returns-clause-carries g c = λ durable has.
    let place = g.L.Layout.geometry in
    let v = c.args.self.now in
    let e = c.args.entry in
    let w = crew_of place v in
    let f = home_step place v e.sector e.datum.now e.parity.now in
    let a = g.S.Shelf.meaning c.args.shelf.now in
    let b = g.S.Shelf.meaning c.write_home.new.shelf in
    let d = g.S.Shelf.meaning c.flush_home.new.shelf in
    let h = homes_of place v e.sector in
    let s = by_step w (HasHome place v e.sector) (EitherOf 3 e.datum.now e.parity.now) f a b (Ok tt) has c.in_ok-write_home.ensures in
    let torn : Torn f a b = s.0 in
    carries_after w only_writes f a b d (HomeFlushed h (place v.source) (place v.target) e.sector d) torn s.1 s.2
    (λ m flushed. home_durable h (place v.source) (place v.target) (g.met.L.Layout.lawful v.source) (g.met.L.Layout.lawful v.target) v.head.backup e.sector e.datum.now
    e.parity.now a d has durable (may_then torn (quiet m)) flushed)
    c.flush_home.result c.flush_home.ensures
