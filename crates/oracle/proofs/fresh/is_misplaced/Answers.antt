use Rattle.std.proofs.Common.{◌&&◌, sym, ap, ◌∙◌}
use Rattle.model.specs.Contents.{differs, padded}
use Rattle.model.specs.Images.{due_of}
use Rattle.oracle.specs.Showing.{shown}
use Rattle.oracle.proofs.Misplaced.{used_shallow}
use Rattle.oracle.proofs.fresh.is_misplaced.Goals as goal

pub place_differs-requires : goal.place_differs-requires
place_differs-requires g c =
    used_shallow (g.L.Layout.geometry c.args.view.now.layout.now) c.args.place (g.met.L.Layout.lawful c.args.view.now.layout.now) c.in-Some.ensures.0

pub returns-in-Some : goal.returns-in-Some
returns-in-Some g c =
    let q = g.L.Layout.geometry c.args.view.now.layout.now in
    let a = g.S.Shelf.meaning c.args.view.now.shelf.now in
    let d = shown c.args.disk.now in
    c.place_differs.ensures ∙ (ap (λ x. differs a c.args.view.now.backup x c.args.place) c.in-Some.ensures.1
    ∙ ap (λ u. u && differs a c.args.view.now.backup (due_of q (padded d.size d.content) (q.owner c.args.place)) c.args.place) (sym c.in-Some.ensures.0))
