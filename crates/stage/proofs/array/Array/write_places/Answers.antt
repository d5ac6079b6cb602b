use Rattle.stage.specs.Arrays.{crew_of}
use Rattle.stage.specs.Endings.{OnMember, only_writes}
use Rattle.stage.specs.Places.{AtCopies, AtPlace, WritesPlaces}
use Rattle.stage.proofs.Chains.{handed_on, stage_after}
use Rattle.stage.proofs.Endings.{member_same}
use Rattle.model.proofs.Mays.{may_wider}
use Rattle.stage.proofs.Written.{PlacesPlan, bare_written, copies_planned, parity_planned, parity_written}
use Rattle.stage.proofs.array.Array.write_places.Goals as goal

pub returns-in_err-write_copies : goal.returns-in_err-write_copies
returns-in_err-write_copies g c =
    let w = crew_of g.L.Layout.geometry c.args.self.now in
    let x = g.L.Layout.geometry c.args.layout.now in
    let law = g.met.L.Layout.lawful c.args.layout.now in
    let backup = c.args.self.now.head.backup in
    let e = c.args.entry in
    let a = g.S.Shelf.meaning c.args.shelf.now in
    let d = g.S.Shelf.meaning c.write_copies.new.shelf in
    let s = c.in_err-write_copies.ensures in
    handed_on (WritesPlaces w x backup e.sector e.datum.now e.parity.now a d) c.from_residual.result _ c.from_residual.ensures.1
    (may_wider (copies_planned x law backup e.sector e.datum.now e.parity.now a) s.0, s.1)

pub returns-in-Some : goal.returns-in-Some
returns-in-Some g c =
    let x = g.L.Layout.geometry c.args.layout.now in
    let law = g.met.L.Layout.lawful c.args.layout.now in
    let backup = c.args.self.now.head.backup in
    let e = c.args.entry in
    let a = g.S.Shelf.meaning c.args.shelf.now in
    let b = g.S.Shelf.meaning c.write_copies.new.shelf in
    let d = g.S.Shelf.meaning c.write_place.new.shelf in
    let s = c.in_ok-write_copies.ensures in
    let at = rw c.in-Some.is at c.group.ensures in
    let C = AtCopies x backup e.sector e.datum.now in
    let P = PlacesPlan x backup e.sector e.datum.now e.parity.now a in
    stage_after P (AtPlace backup c.parity.result e.parity.now) (OnMember only_writes b) (OnMember only_writes a) _ _
    (may_wider (copies_planned x law backup e.sector e.datum.now e.parity.now a) s.0) s.1
    (parity_planned x law backup e.sector c.in-Some.group c.parity.result e.datum.now e.parity.now a at c.parity.ensures) (member_same {P = C} s.0)
    (λ u m last. parity_written x law backup e.sector c.in-Some.group c.parity.result e.datum.now e.parity.now a b d at c.parity.ensures s.0 s.2 m last)
    c.write_place.result c.write_place.ensures

pub returns-in-None : goal.returns-in-None
returns-in-None g c =
    let x = g.L.Layout.geometry c.args.layout.now in
    let law = g.met.L.Layout.lawful c.args.layout.now in
    let backup = c.args.self.now.head.backup in
    let e = c.args.entry in
    let a = g.S.Shelf.meaning c.args.shelf.now in
    let d = g.S.Shelf.meaning c.write_copies.new.shelf in
    let s = c.in_ok-write_copies.ensures in
    let none = rw c.in-None.is at c.group.ensures in (
      may_wider (copies_planned x law backup e.sector e.datum.now e.parity.now a) s.0,
      s.1,
      bare_written x law backup e.sector e.datum.now e.parity.now a d none s.0 s.2,
    )
