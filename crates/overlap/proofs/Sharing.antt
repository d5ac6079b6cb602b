-- The need of a target row is one more than the highest live source row that shares a place with it, for any two lawful layouts.
use Rattle.std.proofs.Common.{◌≡◌, ℕ, zero, suc, ◌+◌, ◌*◌, ◌/◌, ◌%◌, ◌<◌, ◌≤◌, eqb, ltb, sym, ap, ◌∙◌, subst, inl, inr, mul_comm, arith}
use Rattle.std.proofs.lemmas.Nat.{mul-add-lt, div_below, mod_below, div-mul-add, div-add-mod'}
use Rattle.std.proofs.lemmas.Bool.{cases_lt, cases_eq, cond-true, cond-false, lt-ltb, le-ltb, eq-eqb, ne_eqb}
use Rattle.layout.specs.declared.place.Owner.{Owner}
use Rattle.layout.specs.declared.place.Owner.TheVariants.{Datum, Parity, Nobody}
use Rattle.layout.specs.Geometry.{Geometry, capacity, Is, place_of}
use Rattle.layout.specs.Lawful.{Owns, Lawful}
use Rattle.overlap.specs.Needs.{most, need_by_row, need_by_owner, need_by_place, need_by_led, need_by_sector, need_of}
use Rattle.overlap.specs.Rows.{Live, LiveRows, owner_row, Shared, Highest}
use Rattle.overlap.proofs.Most.{most_above, most_met}

-- a live row counts one more than its number
row_live : (g : Geometry) (size s : ℕ) → Live g size s → need_by_row g size s ≡ s + 1
row_live g size s h = cond-true (ltb (s * g.row_len) size) (s + 1) 0 (lt-ltb (s * g.row_len) size h)

row_met : (g : Geometry) (size r s : ℕ) → need_by_row g size r ≡ s + 1 → (r ≡ s) × Live g size s
row_met g size r s e =
    elim (cases_lt (r * g.row_len) size) [
      | inl lt ↦ (let same : r ≡ s = omega (arith, sym (row_live g size r lt) ∙ e) in (same, simp (sym same) lt))
      | inr le ↦ absurd (omega (arith, sym (cond-false (ltb (r * g.row_len) size) (r + 1) 0 (le-ltb (r * g.row_len) size le)) ∙ e))
    ]

owner_live : (g : Geometry) (size s : ℕ) (o : Owner) → Is g o → owner_row g o ≡ s → Live g size s → need_by_owner g size o ≡ s + 1
owner_live g size s (Datum i j) is e h = ap (need_by_row g size) e ∙ row_live g size s h
owner_live g size s (Parity x) is e h = ap (need_by_row g size) e ∙ row_live g size s h
owner_live g size s Nobody is e h = absurd is

-- what a place that counts is in the source
record Found (g : Geometry) (size s : ℕ) (p : ℕ × ℕ) : Type 0 where
  owner : Owner
  is : Is g owner
  row : owner_row g owner ≡ s
  place : place_of g owner ≡ p
  live : Live g size s

owner_met : (g : Geometry) (size s : ℕ) (p : ℕ × ℕ) (o : Owner) → Owns g p o → need_by_owner g size o ≡ s + 1 → Found g size s p
owner_met g size s p (Datum i j) own e =
    let m = row_met g size (i / g.row_len) s e in record { owner = Datum i j; is = own.0; row = m.0; place = own.1; live = m.1 }
owner_met g size s p (Parity x) own e =
    let m = row_met g size (g.peer x 0 / g.row_len) s e in record { owner = Parity x; is = own.0; row = m.0; place = own.1; live = m.1 }
owner_met g size s p Nobody own e = absurd (omega (arith, e))

place_met : (g : Geometry) → Lawful g → (size s : ℕ) (p : ℕ × ℕ) → need_by_place g size p ≡ s + 1 → Found g size s p
place_met g law size s p e = owner_met g size s p (g.owner p) (law.placing.owned p) e

-- a place that a live source row has counts that row
place_live : (g : Geometry) → Lawful g → (size s : ℕ) (p : ℕ × ℕ) (o : Owner) → Is g o → owner_row g o ≡ s → place_of g o ≡ p → Live g size s
    → need_by_place g size p ≡ s + 1
place_live g law size s p o is e same h =
    ap (need_by_owner g size) (ap g.owner (sym same) ∙ law.placing.back o is) ∙ owner_live g size s o is e h

-- the sectors of a target row
row_below : (t : Geometry) → Lawful t → (i r : ℕ) → i < capacity t → i / t.row_len ≡ r → r < t.rows
row_below t law i r h e = omega (arith, e, div_below i t.row_len t.rows (omega (arith, law.limits.row_some)) h)

sector_in : (s t : Geometry) → Lawful t → (size i r : ℕ) → i < capacity t → i / t.row_len ≡ r → need_by_sector s t size i ≤ need_of s t size r
sector_in s t law size i r h e =
    let row : ℕ → ℕ = λ k. need_by_sector s t size (r * t.row_len + k) in
    let k : i % t.row_len < t.row_len = mod_below i t.row_len (omega (arith, law.limits.row_some)) in
    let at : r * t.row_len + i % t.row_len ≡ i = ap (λ x. x * t.row_len + i % t.row_len) (sym e) ∙ div-add-mod' i t.row_len in
    let whole = cond-true (ltb r t.rows) (most row t.row_len) 0 (lt-ltb r t.rows (row_below t law i r h e)) in
    omega (arith, whole, ap (need_by_sector s t size) at, most_above row t.row_len (i % t.row_len) k)

-- the parity of the group that a sector leads
led_is : (s t : Geometry) (size i : ℕ) → 0 < t.groups → t.peer (t.group i) 0 ≡ i → need_by_led s t size i ≡ need_by_place s size (t.parity (t.group i))
led_is s t size i h e =
    cond-true (ltb 0 t.groups) _ 0 (lt-ltb 0 t.groups h) ∙ cond-true (eqb (t.peer (t.group i) 0) i) _ 0 (eq-eqb (t.peer (t.group i) 0) i e)

above : (s t : Geometry) → Lawful s → Lawful t → (size r row : ℕ) → Live s size row
    → (old new : Owner) → Is s old → Is t new → owner_row s old ≡ row → owner_row t new ≡ r → place_of s old ≡ place_of t new → row < need_of s t size r
above s t sl tl size r row live old (Datum i j) oi ni e f same =
    let at = place_live s sl size row (t.datum i j) old oi e same live in
    let copies : ℕ → ℕ = λ k. need_by_place s size (t.datum i k) in
    omega (arith, at, most_above copies t.copies j ni.1, sector_in s t tl size i r ni.0 f)
above s t sl tl size r row live old (Parity x) oi ni e f same =
    let at = place_live s sl size row (t.parity x) old oi e same live in
    let first = tl.grouping.peer_is x 0 ni (tl.grouping.some x ni) in
    let leads : t.peer (t.group (t.peer x 0)) 0 ≡ t.peer x 0 = ap (λ y. t.peer y 0) first.group in
    let led = led_is s t size (t.peer x 0) (omega arith) leads in
    let same_place = ap (λ y. need_by_place s size (t.parity y)) first.group in
    omega (arith, at, led, same_place, sector_in s t tl size (t.peer x 0) r first.sector f)
above s t sl tl size r row live old Nobody oi ni e f same = absurd ni

-- the number is met: by a copy, or by the parity of a group that a sector leads
copy_shared : (s t : Geometry) → Lawful s → Lawful t → (size r row i : ℕ) → i < capacity t → i / t.row_len ≡ r
    → most (λ j. need_by_place s size (t.datum i j)) t.copies ≡ row + 1 → Live s size row × Shared s t row r
copy_shared s t sl tl size r row i h e m =
    let j = most_met (λ j. need_by_place s size (t.datum i j)) t.copies row m in
    let f = place_met s sl size row (t.datum i j.0) j.2 in
    (f.live, record { old = f.owner; new = Datum i j.0; old_is = f.is; new_is = (h, j.1); old_row = f.row; new_row = e; place = f.place })

led_shared : (s t : Geometry) → Lawful s → Lawful t → (size r row i : ℕ) → i < capacity t → i / t.row_len ≡ r
    → need_by_led s t size i ≡ row + 1 → Live s size row × Shared s t row r
led_shared s t sl tl size r row i h e m =
    elim (cases_lt 0 t.groups) [
      | inr le ↦ absurd (omega (arith, sym (cond-false (ltb 0 t.groups) _ 0 (le-ltb 0 t.groups le)) ∙ m))
      | inl lt ↦ elim (cases_eq (t.peer (t.group i) 0) i) [
        | inr ne ↦ absurd (omega (arith, sym (cond-true (ltb 0 t.groups) _ 0 (lt-ltb 0 t.groups lt) ∙ cond-false (eqb (t.peer (t.group i) 0) i) _ 0 (ne_eqb (t.peer (t.group i) 0) i ne)) ∙ m))
        | inl leads ↦
            (let f = place_met s sl size row (t.parity (t.group i)) (sym (led_is s t size i lt leads) ∙ m) in (
              f.live,
              record {
                old = f.owner;
                new = Parity (t.group i);
                old_is = f.is;
                new_is = (tl.grouping.joined i lt h).group;
                old_row = f.row;
                new_row = ap (λ y. y / t.row_len) leads ∙ e;
                place = f.place;
              },
            ))
      ]
    ]

met : (s t : Geometry) → Lawful s → Lawful t → (size r row : ℕ) → need_of s t size r ≡ row + 1 → Live s size row × Shared s t row r
met s t sl tl size r row m =
    let need_at : ℕ → ℕ = λ k. need_by_sector s t size (r * t.row_len + k) in
    elim (cases_lt r t.rows) [
      | inr le ↦ absurd (omega (arith, sym (cond-false (ltb r t.rows) (most need_at t.row_len) 0 (le-ltb r t.rows le)) ∙ m))
      | inl lt ↦
          (let k = most_met need_at t.row_len row (sym (cond-true (ltb r t.rows) (most need_at t.row_len) 0 (lt-ltb r t.rows lt)) ∙ m) in
          let i = r * t.row_len + k.0 in
          let inside : i < capacity t = omega (arith, mul-add-lt r t.row_len k.0 t.rows lt k.1, mul_comm t.row_len t.rows) in
          let in_row : i / t.row_len ≡ r = div-mul-add r t.row_len k.0 k.1 in
          let copies = most (λ j. need_by_place s size (t.datum i j)) t.copies in
          elim (cases_lt copies (need_by_led s t size i)) [
            | inl led ↦ led_shared s t sl tl size r row i inside in_row (omega (arith, k.2))
            | inr cop ↦ copy_shared s t sl tl size r row i inside in_row (omega (arith, k.2))
          ])
    ]

pub highest : (s t : Geometry) → Lawful s → Lawful t → (size r : ℕ) → Highest s t size r (need_of s t size r)
highest s t sl tl size r = record {
  above = λ row live sh. above s t sl tl size r row live sh.old sh.new sh.old_is sh.new_is sh.old_row sh.new_row sh.place;
  met = λ row e. met s t sl tl size r row e;
}

pub highest_at : {s t : Geometry} → Lawful s → Lawful t → (size r n : ℕ) → n ≡ need_of s t size r → Highest s t size r n
highest_at {s} {t} sl tl size r n e = subst (Highest s t size r) (sym e) (highest s t sl tl size r)

-- a need is at most the live rows
pub need_live : {s t : Geometry} {size r : ℕ} (n k : ℕ) → Highest s t size r n → LiveRows s size k → n ≤ k
need_live zero k high rows = omega arith
need_live (suc n) k high rows = omega (arith, rows.all n (high.met n (omega arith)).0)

-- two numbers that are highest are equal
no_higher : {s t : Geometry} {size r : ℕ} (m n : ℕ) → Highest s t size r m → Highest s t size r n → n ≤ m
no_higher m zero a b = omega arith
no_higher m (suc n) a b = (let w = b.met n (omega arith) in omega (arith, a.above n w.0 w.1))

pub one_highest : (s t : Geometry) (size r m n : ℕ) → Highest s t size r m → Highest s t size r n → m ≡ n
one_highest s t size r m n a b = omega (arith, no_higher m n a b, no_higher n m b a)

pub live_need : (s t : Geometry) → Lawful s → Lawful t → (size r k : ℕ) → LiveRows s size k → need_of s t size r ≤ k
live_need s t sl tl size r k rows = need_live (need_of s t size r) k (highest s t sl tl size r) rows
