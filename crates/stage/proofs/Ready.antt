-- What can be saved and placed while a volume moves.
use Rattle.std.proofs.Common.{◌≡◌, ℕ, ◌+◌, ◌*◌, ◌/◌, ◌%◌, ◌<◌, ◌≤◌, cond, nat_lt, sym, ap, ◌∙◌, subst, inl, inr, arith}
use Rattle.std.proofs.lemmas.Bool.{cases_lt, cond-false, cond-true, le-ltb, lt-ltb}
use Rattle.std.proofs.lemmas.Nat.{div-add-mod', le-div, mod_below}
use Rattle.head.specs.declared.TheConstants.{SLOTS_AT}
use Rattle.layout.specs.Geometry.{place_of}
use Rattle.layout.specs.Lawful.{Lawful}
use Rattle.overlap.specs.Homes.{KeepSpan, home_of, window_of}
use Rattle.overlap.specs.Needs.{need_of}
use Rattle.overlap.specs.Rows.{Shared}
use Rattle.overlap.specs.declared.walk.Home.TheVariants.{Source, Target, Backup}
use Rattle.overlap.proofs.Sharing.{highest}
use Rattle.model.specs.Contents.{home_in}
use Rattle.model.specs.Knowing.{Volume}
use Rattle.model.specs.Reading.{home_by}
use Rattle.model.specs.declared.phase.Phase.TheVariants.{Moving}
use Rattle.stage.specs.Rows.{InRow, MayRead, Placeable, Savable}

-- where a sector lives that is in no settled row
home_ahead : (a c p q i : ℕ) → p * c ≤ i → home_of a c p q i ≡ cond (nat_lt i (q * a)) Backup Source
home_ahead a c p q i le = cond-false (nat_lt i (p * c)) Target (cond (nat_lt i (q * a)) Backup Source) (le-ltb i (p * c) le)

moving_home : (v : Volume) (i : ℕ) → v.crew.phase ≡ Moving → home_by v i ≡ home_of v.crew.source.row_len v.crew.target.row_len v.settled v.kept i
moving_home v i e = ap (λ phase. home_in phase v.crew.source v.crew.target v.settled v.kept i) e

-- the next source row, where its window fits in the slots
pub next_savable : (v : Volume) (from to : ℕ) → v.crew.phase ≡ Moving
    → KeepSpan v.crew.source.row_len v.crew.target.row_len v.settled v.kept v.size from to
    → window_of v.crew.source.row_len v.crew.target.row_len v.settled v.size (v.kept + 1) ≤ v.backup → Savable v from to
next_savable v from to moving span fits =
    let a = v.crew.source.row_len in
    let c = v.crew.target.row_len in
    let end = span.end in
    record {
      homes = λ i low high. (let start = span.start i high low in
          moving_home v i moving
          ∙ (home_ahead a c v.settled v.kept i start.1 ∙ cond-false (nat_lt i (v.kept * a)) Backup Source (le-ltb i (v.kept * a) start.0)));
      slots = elim (cases_lt from to) [
        | inl some ↦ (let start = span.start from some (omega arith) in let past = start.1 in omega (arith, end, past, fits))
        | inr none ↦ omega (arith, none)
      ];
    }

-- A sector ahead that still lives in the source is in no kept row, so its row shares no place with the next target row.
apart_in_source : (v : Volume) → Lawful v.crew.source → Lawful v.crew.target → need_of v.crew.source v.crew.target v.size v.settled ≤ v.kept → (i k n : ℕ) → i < v.size
    → v.kept * v.crew.source.row_len ≤ i → InRow v.crew.target v.backup v.settled k n → InRow v.crew.source v.backup (i / v.crew.source.row_len) k n → ⊥
apart_in_source v law next need i k n lt ahead new old =
    let a = v.crew.source.row_len in
    let row = i / a in
    let rest = div-add-mod' i a in
    let high = highest v.crew.source v.crew.target law next v.size v.settled in
    let at = new.sector in
    let was = old.sector in
    let offset : (place_of v.crew.source old.owner).1 ≡ (place_of v.crew.target new.owner).1 = omega (arith, at, was) in
    let shared : Shared v.crew.source v.crew.target row v.settled = record {
      old = old.owner;
      new = new.owner;
      old_is = old.is;
      new_is = new.is;
      old_row = old.which;
      new_row = new.which;
      place = ap (λ j. (j, (place_of v.crew.source old.owner).1)) (sym old.member ∙ new.member) ∙ ap (λ j. ((place_of v.crew.target new.owner).0, j)) offset;
    } in
    let kept = high.above row (omega (arith, rest, lt)) shared in
    let least = le-div v.kept i a law.limits.row_some ahead in
    omega (arith, kept, least, need)

-- the next target row, once what it needs is kept
pub next_placeable : (v : Volume) → Lawful v.crew.source → Lawful v.crew.target → v.crew.phase ≡ Moving → 0 < v.backup → v.settled < v.crew.target.rows
    → need_of v.crew.source v.crew.target v.size v.settled ≤ v.kept → Placeable v v.settled
next_placeable v law next moving some below need = record {
  below = below;
  apart = λ i in_row lt k n new reads. (let s = v.crew.source in
      let t = v.crew.target in
      let c = t.row_len in
      let rest = div-add-mod' i c in
      let first : i / c * c ≡ v.settled * c = ap (λ r. r * c) in_row in
      let home = moving_home v i moving ∙ home_ahead s.row_len c v.settled v.kept i (omega (arith, rest, first)) in
      elim (cases_lt i (v.kept * s.row_len)) [
        | inl saved ↦ (let slot : n ≡ SLOTS_AT + i % v.backup =
            subst (λ h. MayRead h s t v.backup i k n) (home ∙ cond-true (nat_lt i (v.kept * s.row_len)) Backup Source (lt-ltb i (v.kept * s.row_len) saved)) reads in
            let at = new.sector in
            let less = mod_below i v.backup some in
            omega (arith, slot, at, less))
        | inr ahead ↦ apart_in_source v law next need i k n lt ahead new
            (subst (λ h. MayRead h s t v.backup i k n) (home ∙ cond-false (nat_lt i (v.kept * s.row_len)) Backup Source (le-ltb i (v.kept * s.row_len) ahead)) reads)
      ]);
}
