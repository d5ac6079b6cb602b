-- Which sectors lead the owners of a row, and which ones each of them needs.
use Rattle.std.proofs.Common.{◌≡◌, ℕ, ◌+◌, ◌*◌, ◌/◌, ◌<◌, ◌≤◌, nat_lt, refl, sym, ap, ◌∙◌, inl, inr, arith}
use Rattle.std.proofs.lemmas.Bool.{cases_lt, cond-false, cond-true, le-ltb, lt-ltb}
use Rattle.std.proofs.lemmas.Nat.{div_below, le-div}
use Rattle.layout.specs.Geometry.{Geometry, Is, capacity}
use Rattle.layout.specs.Lawful.{Lawful}
use Rattle.layout.specs.declared.place.Owner.{Owner}
use Rattle.layout.specs.declared.place.Owner.TheVariants.{Datum, Parity, Nobody}
use Rattle.overlap.specs.Rows.{owner_row}
use Rattle.stage.specs.Rows.{CopyOf, InGroup, lead_of}
use Rattle.stage.proofs.Placing.{Needs}

-- the sector that leads another
abbrev pub lead : Geometry → ℕ → ℕ
lead g i = lead_of g (Datum i 0)

-- with groups, and without
pub lead_any : (g : Geometry) (i : ℕ) → 0 < g.groups → lead g i ≡ g.peer (g.group i) 0
lead_any g i any = cond-true (nat_lt 0 g.groups) (g.peer (g.group i) 0) i (lt-ltb 0 g.groups any)

pub lead_bare : (g : Geometry) (i : ℕ) → (0 < g.groups → ⊥) → lead g i ≡ i
lead_bare g i bare = cond-false (nat_lt 0 g.groups) (g.peer (g.group i) 0) i (elim (cases_lt 0 g.groups) [ inl any ↦ absurd (bare any) | inr le ↦ le-ltb 0 g.groups le ])

-- an owner's leading sector lies in its row
pub lead_row : (g : Geometry) → Lawful g → (o : Owner) → Is g o → lead_of g o / g.row_len ≡ owner_row g o
lead_row g law (Datum i j) is = elim (cases_lt 0 g.groups) [
  | inl any ↦ (let here = law.grouping.joined i any is.0 in
      ap (λ n. n / g.row_len) (lead_any g i any)
      ∙ (sym (law.grouping.peer_is (g.group i) here.index here.group here.index_below).row ∙ ap (λ n. n / g.row_len) here.is))
  | inr bare ↦ ap (λ n. n / g.row_len) (lead_bare g i (λ any. omega (arith, any, bare)))
]
lead_row g law (Parity x) is = refl
lead_row g law Nobody is = absurd is

-- so do the sectors that it needs, and they have the same leading sector
pub needs_row : (g : Geometry) → Lawful g → (o : Owner) → Is g o → (i : ℕ) → Needs g o i → i / g.row_len ≡ owner_row g o
needs_row g law (Datum i j) is n e = ap (λ k. k / g.row_len) e
needs_row g law (Parity x) is n p = ap (λ k. k / g.row_len) p.2 ∙ (law.grouping.peer_is x p.0 is p.1).row
needs_row g law Nobody is n p = absurd p

pub needs_lead : (g : Geometry) → Lawful g → (o : Owner) → Is g o → (i : ℕ) → Needs g o i → lead g i ≡ lead_of g o
needs_lead g law (Datum i j) is n e = ap (lead g) e
needs_lead g law (Parity x) is n p =
    lead_any g n (omega (arith, is)) ∙ ap (λ y. g.peer y 0) (ap g.group p.2 ∙ (law.grouping.peer_is x p.0 is p.1).group)
needs_lead g law Nobody is n p = absurd p

-- the numbers of a row
pub row_at : (len row n : ℕ) → row * len ≤ n → n < (row + 1) * len → n / len ≡ row
row_at len row n low high =
    let least = le-div row n len (omega (arith, low, high)) low in
    let most = div_below n len (row + 1) (omega (arith, low, high)) high in
    omega (arith, least, most)

-- a sector of a row that the layout has is one that it has
pub row_inside : (g : Geometry) → Lawful g → (n : ℕ) → n / g.row_len < g.rows → n < capacity g
row_inside g law n lt = elim (cases_lt n (capacity g)) [
  | inl inside ↦ inside
  | inr past ↦ (let least = le-div g.rows n g.row_len law.limits.row_some past in absurd (omega (arith, least, lt)))
]

-- what a sector leads: its copies, where there are no groups,
pub copy_led : (g : Geometry) → (0 < g.groups → ⊥) → (n : ℕ) (o : Owner) → CopyOf n o → lead_of g o ≡ n
copy_led g bare n (Datum i j) e = lead_bare g i bare ∙ e
copy_led g bare n (Parity x) e = absurd e
copy_led g bare n Nobody e = absurd e

pub led_copy : (g : Geometry) → (0 < g.groups → ⊥) → (n : ℕ) (o : Owner) → Is g o → lead_of g o ≡ n → CopyOf n o
led_copy g bare n (Datum i j) is e = sym (lead_bare g i bare) ∙ e
led_copy g bare n (Parity x) is e = absurd (bare (omega (arith, is)))
led_copy g bare n Nobody is e = absurd is

-- and else the group of which it is the first
pub in_group_led : (g : Geometry) → (x n : ℕ) → 0 < g.groups → g.peer x 0 ≡ n → (o : Owner) → InGroup g x o → lead_of g o ≡ n
in_group_led g x n any first (Datum i j) e = lead_any g i any ∙ (ap (λ y. g.peer y 0) e ∙ first)
in_group_led g x n any first (Parity y) e = ap (λ z. g.peer z 0) e ∙ first
in_group_led g x n any first Nobody e = absurd e

pub led_in_group : (g : Geometry) → Lawful g → (n : ℕ) (o : Owner) → 0 < g.groups → Is g o → lead_of g o ≡ n → InGroup g (g.group n) o × (g.peer (g.group n) 0 ≡ n)
led_in_group g law n (Datum i j) any is e =
    let here = law.grouping.joined i any is.0 in
    let first : g.peer (g.group i) 0 ≡ n = sym (lead_any g i any) ∙ e in
    let own : g.group i ≡ g.group n = sym (law.grouping.peer_is (g.group i) 0 here.group (law.grouping.some (g.group i) here.group)).group ∙ ap g.group first in
    (own, ap (λ x. g.peer x 0) (sym own) ∙ first)
led_in_group g law n (Parity x) any is e =
    let own : x ≡ g.group n = sym (law.grouping.peer_is x 0 is (law.grouping.some x is)).group ∙ ap g.group e in
    (own, ap (λ y. g.peer y 0) (sym own) ∙ e)
led_in_group g law n Nobody any is e = absurd is
