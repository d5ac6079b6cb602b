-- From what a layout answers to the definitions, for every lawful layout.
use Rattle.std.proofs.Common.{◌≡◌, ℕ, ◌+◌, ◌*◌, ◌/◌, ◌<◌, ◌≤◌, eqb, ltb, Option, Some, None, MatchOption, sym, ap, ◌∙◌, subst, inl, inr, mul-le-mul_right, mul_comm, arith}
use Rattle.std.specs.Int.{div_ceil}
use Rattle.std.proofs.lemmas.Grind.{div_ceil_times}
use Rattle.std.proofs.lemmas.Nat.{mul-add-lt, mul-le}
use Rattle.std.proofs.lemmas.Bool.{cond-true, cond-false, lt-ltb, eq-eqb, ne_eqb, cases_lt, le-ltb}
use Rattle.layout.specs.declared.place.Owner.TheVariants.{Parity}
use Rattle.layout.specs.Geometry.{Geometry, capacity, Only, LedAt}
use Rattle.layout.specs.Lawful.{Owns, Lawful}
use Rattle.overlap.specs.Needs.{need_by_row, need_by_owner, need_by_place, need_by_led}
use Rattle.overlap.specs.Rows.{LiveRows}

pub live_rows_lem : (g : Geometry) → Lawful g → (size len k : ℕ) → len ≡ g.row_len → k ≡ div_ceil size len → LiveRows g size k × (k ≤ size)
live_rows_lem g law size len k e f =
    let one : 1 ≤ len = omega (arith, law.limits.row_some) in
    let ends = div_ceil_times size len (omega arith) in
    let rows : k * len ≡ div_ceil size len * len = ap (λ x. x * len) f in
    let live : (s : ℕ) → s < k → s * len < size = λ s h. omega (arith, ends, rows, mul-le-mul_right len (next s k h)) in (
      record {
        live = λ s h. omega (arith, live s h, ap (λ x. s * x) e);
        all = λ s h. elim (cases_lt s k) [ inl lt ↦ lt | inr le ↦ absurd (omega (arith, h, ends, rows, ap (λ x. s * x) e, mul-le-mul_right len le)) ];
      },
      elim (cases_lt size k) [ inl lt ↦ absurd (omega (arith, live size lt, mul-le size 1 size len (omega arith) one)) | inr le ↦ le ],
    )
  where
    next : (s k : ℕ) → s < k → s + 1 ≤ k
    next s k h = omega arith

-- a parity's row is that of its group's first sector
pub parity_first : (g : Geometry) → Lawful g → (p : ℕ × ℕ) (x r : ℕ) → Parity x ≡ g.owner p
    → Only r ((x < g.groups) × (0 < g.peers x)) (g.peer x 0) 0 → r ≡ g.peer x 0
parity_first g law p x r e only =
    let own : Owns g p (Parity x) = subst (Owns g p) (sym e) (law.placing.owned p) in
    only.0 (own.0, law.grouping.some x own.0)

pub parity_place_lem : (g : Geometry) → Lawful g → (size : ℕ) (p : ℕ × ℕ) (x r n : ℕ) → Parity x ≡ g.owner p
    → Only r ((x < g.groups) × (0 < g.peers x)) (g.peer x 0) 0 → n ≡ need_by_row g size (r / g.row_len) → n ≡ need_by_place g size p
parity_place_lem g law size p x r n e only m =
    m ∙ (ap (λ y. need_by_row g size (y / g.row_len)) (parity_first g law p x r e only) ∙ ap (need_by_owner g size) e)

-- the sector of a target row
pub sector_below : (t : Geometry) (r k : ℕ) → r < t.rows → k < t.row_len → r * t.row_len + k < capacity t
sector_below t r k a b = omega (arith, mul-add-lt r t.row_len k t.rows a b, mul_comm t.row_len t.rows)

-- what the parity needs: P tells of what was asked for a group
pub led_is : (s : Geometry) {t : Geometry} → Lawful t → (size i n : ℕ) → i < capacity t → (o : Option ℕ) (P : ℕ → Type 0) → LedAt t i o → MatchOption o (n ≡ 0) P
    → ((x : ℕ) → x < t.groups → P x → n ≡ need_by_place s size (t.parity x)) → n ≡ need_by_led s t size i
led_is s {t} law size i n inside None P led e asked =
    e ∙ sym (elim (cases_lt 0 t.groups) [
      | inl lt ↦ cond-true (ltb 0 t.groups) _ 0 (lt-ltb 0 t.groups lt) ∙ cond-false (eqb (t.peer (t.group i) 0) i) _ 0 (ne_eqb (t.peer (t.group i) 0) i (led (lt, inside)))
      | inr le ↦ cond-false (ltb 0 t.groups) _ 0 (le-ltb 0 t.groups le)
    ])
led_is s {t} law size i n inside (Some x) P led e asked =
    let below : x < t.groups = rw led.2 (law.grouping.joined i led.0 led.1).group in
    let first : t.peer (t.group i) 0 ≡ i = ap (λ z. t.peer z 0) (sym led.2) ∙ led.3 in
    asked x below e
    ∙ (ap (λ z. need_by_place s size (t.parity z)) led.2
    ∙ sym (cond-true (ltb 0 t.groups) _ 0 (lt-ltb 0 t.groups led.0) ∙ cond-true (eqb (t.peer (t.group i) 0) i) _ 0 (eq-eqb (t.peer (t.group i) 0) i first)))
