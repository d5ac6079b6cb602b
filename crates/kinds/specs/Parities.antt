-- The laws of the left-symmetric kind, at chunks of one sector.
use Rattle.std.specs.Prelude.{◌≡◌, ℕ, ◌+◌, ◌-◌, ◌*◌, ◌/◌, ◌%◌, ◌<◌, ◌≤◌, ◌==◌, ◌≢◌, refl}
use Rattle.std.proofs.Common.{sym, ap, ◌∙◌, inl, inr, arith}
use Rattle.std.proofs.lemmas.Nat.{div_below, mod_below, div-mul-add, mod-mul-add, div-add-mod'}
use Rattle.std.proofs.lemmas.Bool.{cond_both, cond-true, cond-false, eq-eqb, ne_eqb, eqb-true, eqb-false}
use Rattle.layout.specs.declared.place.Owner.{Owner}
use Rattle.layout.specs.declared.place.Owner.TheVariants.{Datum, Parity, Nobody}
use Rattle.layout.specs.Geometry.{Is, place_of}
use Rattle.layout.specs.Lawful.{Inside, Owns, Placing, Grouping}
use Rattle.kinds.specs.Cells.{parity_on, after_parity, left_cells}
use Rattle.kinds.specs.CellsLemmas.{cell_below}
use Rattle.kinds.specs.Turns.{round, turns_apart}
use Rattle.kinds.specs.Mirrors.{on_grid_inside, owns_grid}

parity_below : (n s : ℕ) → 1 ≤ n → parity_on n s < n
parity_below n s a = omega arith

-- the data of a row never lie on the member with the parity
beside : (e a n : ℕ) → e < n → a < n - 1 → (e + 1 + a) % n ≢ e
beside e a n x y z = elim (round (e + 1 + a) n (omega arith)) [ inl r ↦ omega arith | inr r ↦ omega arith ]

-- the datum's index from its member
index_of : (e a n : ℕ) → e < n → a < n - 1 → ((e + 1 + a) % n + n - e - 1) % n ≡ a
index_of e a n x y =
    elim (round (e + 1 + a) n (omega arith)) [
      | inl r ↦ elim (round ((e + 1 + a) % n + n - e - 1) n (omega arith)) [ inl q ↦ omega arith | inr q ↦ omega arith ]
      | inr r ↦ elim (round ((e + 1 + a) % n + n - e - 1) n (omega arith)) [ inl q ↦ omega arith | inr q ↦ omega arith ]
    ]

-- the member from the datum's index
index_below : (e m n : ℕ) → e < n → m < n → (m ≢ e) → (m + n - e - 1) % n < n - 1
index_below e m n x y d =
    elim (round (m + n - e - 1) n (omega arith)) [ inl r ↦ omega arith | inr r ↦ omega arith ]

member_of : (e m n : ℕ) → e < n → m < n → (e + 1 + (m + n - e - 1) % n) % n ≡ m
member_of e m n x y =
    elim (round (m + n - e - 1) n (omega arith)) [
      | inl r ↦ elim (round (e + 1 + (m + n - e - 1) % n) n (omega arith)) [ inl q ↦ omega arith | inr q ↦ omega arith ]
      | inr r ↦ elim (round (e + 1 + (m + n - e - 1) % n) n (omega arith)) [ inl q ↦ omega arith | inr q ↦ omega arith ]
    ]

left_inside : (n h : ℕ) → 3 ≤ n → (o : Owner) → Is (left_cells n h) o → Inside (left_cells n h) (place_of (left_cells n h) o)
left_inside n h a (Datum k j) is =
    record { member = mod_below _ n (omega arith); offset = div_below k (n - 1) h (omega arith) is.0 }
left_inside n h a (Parity s) is = record { member = parity_below n s (omega arith); offset = is }
left_inside n h a Nobody is = absurd is

left_back : (n h : ℕ) → 3 ≤ n → (o : Owner) → Is (left_cells n h) o → (left_cells n h).owner (place_of (left_cells n h) o) ≡ o
left_back n h a (Datum k j) is =
    let s = k / (n - 1) in
    let i = k % (n - 1) in
    let e = parity_on n s in
    let il : i < n - 1 = mod_below k (n - 1) (omega arith) in
    let el : e < n = parity_below n s (omega arith) in
    let z : 0 ≡ j = omega arith in
    on_grid_inside n h ((e + 1 + i) % n, s) _ (mod_below (e + 1 + i) n (omega arith)) (div_below k (n - 1) h (omega arith) is.0)
    ∙ (cond-false ((e + 1 + i) % n == e) _ _ (ne_eqb ((e + 1 + i) % n) e (beside e i n el il))
    ∙ (ap (λ x. Datum (s * (n - 1) + x) 0) (index_of e i n el il)
    ∙ (ap (λ x. Datum x 0) (div-add-mod' k (n - 1)) ∙ ap (λ x. Datum k x) z)))
left_back n h a (Parity s) is =
    on_grid_inside n h (parity_on n s, s) _ (parity_below n s (omega arith)) is
    ∙ cond-true (parity_on n s == parity_on n s) _ _ (eq-eqb (parity_on n s) (parity_on n s) refl)
left_back n h a Nobody is = absurd is

left_owned : (n h : ℕ) → 3 ≤ n → (p : ℕ × ℕ) → Owns (left_cells n h) p ((left_cells n h).owner p)
left_owned n h a p =
    let e = parity_on n p.1 in
    let el : e < n = parity_below n p.1 (omega arith) in
    owns_grid (left_cells n h) n h p _ (λ b c. cond_both (p.0 == e) _ _ (Owns (left_cells n h) p)
    (λ t. (c, ap (λ x. (x, p.1)) (sym (eqb-true p.0 e t))))
    (λ t.
    let i = after_parity n p.1 p.0 in
    let il : i < n - 1 = index_below e p.0 n el b (eqb-false p.0 e t) in
    ((cell_below p.1 (n - 1) i h c il, omega arith), left_place n p i il (member_of e p.0 n el b))))
  where
    left_place : (n : ℕ) (p : ℕ × ℕ) (i : ℕ) → i < n - 1 → (parity_on n p.1 + 1 + i) % n ≡ p.0
        → ◌≡◌ {A = ℕ × ℕ} ((parity_on n ((p.1 * (n - 1) + i) / (n - 1)) + 1 + (p.1 * (n - 1) + i) % (n - 1)) % n, (p.1 * (n - 1) + i) / (n - 1)) p
    left_place n p i il e = simp (div-mul-add, mod-mul-add, e)

pub left_placing : (n h : ℕ) → 3 ≤ n → Placing (left_cells n h)
left_placing n h a = record {
  inside = left_inside n h a;
  back = left_back n h a;
  owned = left_owned n h a;
  apart = λ i j k b c d e. omega arith;
}

pub left_grouping : (n h : ℕ) → 3 ≤ n → Grouping (left_cells n h)
left_grouping n h a = record {
  joined = λ k s lt. record {
    group = div_below k (n - 1) h (omega arith) lt;
    index = k % (n - 1);
    index_below = mod_below k (n - 1) (omega arith);
    is = div-add-mod' k (n - 1);
  };
  some = λ s lt. omega arith;
  peer_is = λ s i lt below. record {
    sector = cell_below s (n - 1) i h lt below;
    group = div-mul-add s (n - 1) i below;
    row = div-mul-add s (n - 1) i below ∙ sym (div-mul-add s (n - 1) 0 (omega arith));
  };
  rise = λ s i k lt r below. omega arith;
  peers_apart = λ s i k lt p q e. turns_apart (parity_on n s + 1) i k n (omega arith) (omega arith) (simp (div-mul-add, mod-mul-add) at e);
  parity_apart = λ s i lt p e. beside (parity_on n s) i n (parity_below n s (omega arith)) p (sym (simp (div-mul-add, mod-mul-add) at e));
}
