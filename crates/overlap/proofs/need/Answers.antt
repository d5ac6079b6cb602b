use Rattle.std.proofs.Common.{◌≡◌, ℕ, ◌+◌, ◌-◌, ◌*◌, ◌<◌, ltb, sym, ap, ◌∙◌, arith, rules}
use Rattle.std.proofs.lemmas.Bool.{cond-true, lt-ltb}
use Rattle.layout.specs.Geometry.{capacity}
use Rattle.overlap.specs.Needs.{most, need_by_sector}
use Rattle.overlap.proofs.Answering.{sector_below}
use Rattle.overlap.proofs.Sharing.{highest_at, need_live}
use Rattle.overlap.proofs.Windows.{need_beyond}
use Rattle.overlap.proofs.need.Goals as goal

pub returns-then-row-rows-clause-highest : goal.returns-then-row-rows-clause-highest
returns-then-row-rows-clause-highest g c =
    highest_at (g.met.Old.Layout.lawful c.args.source.now) (g.met.New.Layout.lawful c.args.target.now) c.args.size c.args.row 0 (sym (need_beyond (g.Old.Layout.geometry c.args.source.now) (g.New.Layout.geometry c.args.target.now) c.args.size c.args.row (omega arith)))

pub returns-clause-value : goal.returns-clause-value
returns-clause-value g c =
    let s = g.Old.Layout.geometry c.args.source.now in
    let t = g.New.Layout.geometry c.args.target.now in
    let row : ℕ → ℕ → ℕ = λ l k. need_by_sector s t c.args.size (c.args.row * l + k) in
    let len = c.row_len-len.result in
    let width : c.args.row * len + len - c.args.row * len ≡ len = omega arith in
    let all : c.greatest.result ≡ most (row len) len =
    c.greatest.ensures (row len) (λ i y lt called. let below : c.args.row * len + i < capacity t = omega (arith, sector_below t c.args.row i (omega arith) (omega (arith, lt)), ap (λ l. c.args.row * l) c.row_len-len.ensures) in search rules) ∙ ap (most (row len)) width in
    all ∙ (ap (λ l. most (row l) l) c.row_len-len.ensures ∙ sym (cond-true (ltb c.args.row t.rows) (most (row t.row_len) t.row_len) 0 (lt-ltb c.args.row t.rows (omega arith))))

pub returns-clause-highest : goal.returns-clause-highest
returns-clause-highest g c =
    highest_at (g.met.Old.Layout.lawful c.args.source.now) (g.met.New.Layout.lawful c.args.target.now) c.args.size c.args.row c.greatest.result (returns-clause-value g c)

pub returns-clause-live : goal.returns-clause-live
returns-clause-live g c k rows = need_live c.greatest.result k (returns-clause-highest g c) rows
