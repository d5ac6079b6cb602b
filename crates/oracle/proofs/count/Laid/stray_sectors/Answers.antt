use Rattle.std.proofs.Common.{ltb, ap, ◌∙◌, rules}
use Rattle.std.specs.Int.NonZero.{non_zero_u32_get}
use Rattle.std.proofs.lemmas.Bool.{cond-true, lt-ltb}
use Rattle.model.specs.Contents.{home_shows_other, home_in}
use Rattle.model.specs.Disks.{filled}
use Rattle.oracle.specs.Showing.{shown}
use Rattle.model.specs.Strays.{is_stray, stray_below}
use Rattle.oracle.proofs.Firsts.{count_same}
use Rattle.oracle.proofs.count.Laid.stray_sectors.Goals as goal

pub returns-clause-value : goal.returns-clause-value
returns-clause-value g c =
    let s = g.L.Layout.geometry c.args.self.now.source.now in
    let t = g.L.Layout.geometry c.args.self.now.target.now in
    let a = g.S.Shelf.meaning c.args.self.now.shelf.now in
    let b = non_zero_u32_get c.args.self.now.backup in
    let d = shown c.args.disk.now in
    c.count_below.ensures.value (is_stray s t a b (filled d)) (λ i y called. search rules)
    ∙ (ap (stray_below s t a b (filled d)) c.size.ensures
    ∙ count_same (is_stray s t a b (filled d)) (is_stray s t a b d) d.size
    (λ i lt. ap (λ x. home_shows_other (home_in d.phase s t d.settled d.kept i) s t a b x i) (cond-true (ltb i d.size) _ _ (lt-ltb i d.size lt))))
