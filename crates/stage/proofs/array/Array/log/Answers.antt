use Rattle.std.proofs.Common.{◌≡◌, refl, inr}
use Rattle.answer.specs.declared.Operation.TheVariants.{Flush, Write}
use Rattle.model.specs.Images.{logged, with_sector}
use Rattle.stage.specs.Arrays.{crew_of}
use Rattle.stage.specs.Endings.{Carries, OnMember, only_writes}
use Rattle.stage.proofs.Chains.{handed_on}
use Rattle.stage.proofs.Endings.{met_after, met_ends, on_sector}
use Rattle.stage.proofs.Stepping.{carried_after, not_begun, sector_covers, sector_planned_by, sector_written}
use Rattle.stage.proofs.array.Array.log.Goals as goal

pub returns-in_err-write_all : goal.returns-in_err-write_all
returns-in_err-write_all g c =
    let w = crew_of g.L.Layout.geometry c.args.self.now in
    let f = logged c.args.entry.datum.now c.args.entry.parity.now in
    let a = g.S.Shelf.meaning c.args.shelf.now in
    let d = g.S.Shelf.meaning c.write_all.new.shelf in
    handed_on (λ r. Carries w only_writes f a d r) c.from_residual.result _ c.from_residual.ensures.1
    (met_ends w only_writes (λ k s x. x ≡ f a.current k s) _ _ a d (sector_planned_by f 1 c.args.entry.datum.now a (λ k. refl)) (on_sector Write refl a 1) _
    c.in_err-write_all.ensures)

pub returns-in_err-write_all-2 : goal.returns-in_err-write_all-2
returns-in_err-write_all-2 g c =
    let w = crew_of g.L.Layout.geometry c.args.self.now in
    let f = logged c.args.entry.datum.now c.args.entry.parity.now in
    let a = g.S.Shelf.meaning c.args.shelf.now in
    let b = g.S.Shelf.meaning c.write_all.new.shelf in
    let d = g.S.Shelf.meaning c.write_all-2.new.shelf in
    let s = c.in_ok-write_all.ensures in
    let so = sector_written 1 c.args.entry.datum.now b (not_begun w f (λ k s. ⊥) a (λ k s d. d)) (λ k. refl) s.0 s.1 s.2 in
    handed_on (λ r. Carries w only_writes f a d r) c.from_residual-in_err-write_all-2.result _ c.from_residual-in_err-write_all-2.ensures.1
    (met_after d (record { may = so.may; goes = so.goes }) _ (met_ends w only_writes (λ k s x. x ≡ f a.current k s) _ _ b d
    (sector_planned_by f 2 c.args.entry.parity.now a (λ k. refl)) (on_sector Write refl b 2) _ c.in_err-write_all-2.ensures))

pub returns : goal.returns
returns g c =
    let w = crew_of g.L.Layout.geometry c.args.self.now in
    let datum = c.args.entry.datum.now in
    let parity = c.args.entry.parity.now in
    let f = logged datum parity in
    let a = g.S.Shelf.meaning c.args.shelf.now in
    let s = c.in_ok-write_all.ensures in
    let t = c.in_ok-write_all-2.ensures in
    let one = sector_written 1 datum (g.S.Shelf.meaning c.write_all.new.shelf) (not_begun w f (λ k s. ⊥) a (λ k s d. d)) (λ k. refl) s.0 s.1 s.2 in
    let both = sector_written 2 parity (g.S.Shelf.meaning c.write_all-2.new.shelf) one (λ k. refl) t.0 t.1 t.2 in
    carried_after (g.S.Shelf.meaning c.flush_all.new.shelf) (OnMember only_writes a) both
    (sector_covers _ 2 parity (with_sector 1 datum a.current) a (sector_covers _ 1 datum a.current a (λ k s. inr refl)))
    (on_sector Flush refl a 0) c.flush_all.result c.flush_all.ensures
