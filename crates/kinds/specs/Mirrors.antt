-- The laws of places of the kinds without parity, at chunks of one sector.
use Rattle.std.specs.Prelude.{◌≡◌, ℕ, ◌+◌, ◌-◌, ◌*◌, ◌/◌, ◌%◌, ◌<◌, ◌≤◌, nat_lt}
use Rattle.std.proofs.Common.{ap, ◌∙◌, div-mul-le_self, mul_comm, add_assoc, arith}
use Rattle.std.proofs.Math.Nat.{mul-add-mod_self_right}
use Rattle.std.proofs.lemmas.Nat.{div_below, mod_below, div-mul-add, mod-mul-add, div-add-mod'}
use Rattle.std.proofs.lemmas.Bool.{cond_both, cond-true, lt-ltb, ltb-true}
use Rattle.layout.specs.declared.place.Owner.{Owner}
use Rattle.layout.specs.declared.place.Owner.TheVariants.{Datum, Parity, Nobody}
use Rattle.layout.specs.Geometry.{Geometry, Is, place_of}
use Rattle.layout.specs.Lawful.{Inside, Owns, Placing}
use Rattle.kinds.specs.Cells.{on_grid, striped_cells, near_cells, far_cells}
use Rattle.kinds.specs.CellsLemmas.{cell_below, copy_below}
use Rattle.kinds.specs.Turns.{turns_apart, turn_back, turn_forth}

pub on_grid_inside : (n h : ℕ) (p : ℕ × ℕ) (w : Owner) → p.0 < n → p.1 < h → on_grid n h p w ≡ w
on_grid_inside n h p w a b = cond-true (nat_lt p.0 n) _ _ (lt-ltb p.0 n a) ∙ cond-true (nat_lt p.1 h) _ _ (lt-ltb p.1 h b)

pub owns_grid : (g : Geometry) (n h : ℕ) (p : ℕ × ℕ) (w : Owner) → (p.0 < n → p.1 < h → Owns g p w) → Owns g p (on_grid n h p w)
owns_grid g n h p w own =
    cond_both (nat_lt p.0 n) _ _ (Owns g p)
    (λ a. cond_both (nat_lt p.1 h) _ _ (Owns g p) (λ b. own (ltb-true p.0 n a) (ltb-true p.1 h b)) (λ b. tt)) (λ a. tt)

-- cell y of the grid
cell : (n h y : ℕ) → 1 ≤ n → y < h * n → (y % n < n) × (y / n < h)
cell n h y a b = (mod_below y n (omega arith), div_below y n h (omega arith) b)

-- striped
striped_back : (n h : ℕ) → 1 ≤ n → (o : Owner) → Is (striped_cells n h) o → (striped_cells n h).owner (place_of (striped_cells n h) o) ≡ o
striped_back n h a (Datum k j) is =
    let c = cell n h k a is.0 in
    let z : 0 ≡ j = omega arith in
    on_grid_inside n h (k % n, k / n) _ c.0 c.1 ∙ (ap (λ i. Datum i 0) (div-add-mod' k n) ∙ ap (λ i. Datum k i) z)
striped_back n h a (Parity x) is = absurd (omega arith)
striped_back n h a Nobody is = absurd is

striped_inside : (n h : ℕ) → 1 ≤ n → (o : Owner) → Is (striped_cells n h) o → Inside (striped_cells n h) (place_of (striped_cells n h) o)
striped_inside n h a (Datum k j) is = record { member = (cell n h k a is.0).0; offset = (cell n h k a is.0).1 }
striped_inside n h a (Parity x) is = absurd (omega arith)
striped_inside n h a Nobody is = absurd is

pub striped_placing : (n h : ℕ) → 1 ≤ n → Placing (striped_cells n h)
striped_placing n h a = record {
  inside = striped_inside n h a;
  back = striped_back n h a;
  owned = λ p. owns_grid (striped_cells n h) n h p _ (λ b c.
      ((cell_below p.1 n p.0 h c b, omega arith), simp (mod-mul-add, div-mul-add)));
  apart = λ i j k b c d e. omega arith;
}

-- near
near_cell : (n h f k j : ℕ) → 1 ≤ n → k < h * n / f * 1 → j < f → ((k * f + j) % n < n) × ((k * f + j) / n < h)
near_cell n h f k j a b c = cell n h (k * f + j) a (copy_below k f j (h * n) (omega arith) c)

near_back : (n h f : ℕ) → 1 ≤ n → (o : Owner) → Is (near_cells n h f) o → (near_cells n h f).owner (place_of (near_cells n h f) o) ≡ o
near_back n h f a (Datum k j) is =
    let c = near_cell n h f k j a is.0 is.1 in
    let b : j < f = is.1 in
    let d : k < h * n / f = omega arith in
    on_grid_inside n h ((k * f + j) % n, (k * f + j) / n) _ c.0 c.1
    ∙ simp (div-add-mod', div-mul-add, mod-mul-add) (cond-true (nat_lt k (h * n / f)) _ _ (lt-ltb k (h * n / f) d))
near_back n h f a (Parity x) is = absurd (omega arith)
near_back n h f a Nobody is = absurd is

near_inside : (n h f : ℕ) → 1 ≤ n → (o : Owner) → Is (near_cells n h f) o → Inside (near_cells n h f) (place_of (near_cells n h f) o)
near_inside n h f a (Datum k j) is =
    let c = near_cell n h f k j a is.0 is.1 in record { member = c.0; offset = c.1 }
near_inside n h f a (Parity x) is = absurd (omega arith)
near_inside n h f a Nobody is = absurd is

near_owned : (n h f : ℕ) → 1 ≤ f → (p : ℕ × ℕ) → Owns (near_cells n h f) p ((near_cells n h f).owner p)
near_owned n h f a p =
    let y = p.1 * n + p.0 in
    owns_grid (near_cells n h f) n h p _ (λ b c. cond_both (nat_lt (y / f) (h * n / f)) _ _ (Owns (near_cells n h f) p)
    (λ e. ((omega (arith, ltb-true (y / f) (h * n / f) e), mod_below y f (omega arith)), simp (div-add-mod', mod-mul-add, div-mul-add)))
    (λ e. tt))

pub near_placing : (n h f : ℕ) → 1 ≤ n → 1 ≤ f → f ≤ n → Placing (near_cells n h f)
near_placing n h f a b c = record {
  inside = near_inside n h f a;
  back = near_back n h f a;
  owned = near_owned n h f b;
  apart = λ i j k x y z e. turns_apart (i * f) j k n (omega arith) (omega arith) e;
}

-- far: z is the rows of a zone
far_cell : (n h f k j : ℕ) → 1 ≤ n → k < h / f * n → j < f → ((k + j) % n < n) × (j * (h / f) + k / n < h)
far_cell n h f k j a b c = (
  mod_below (k + j) n (omega arith),
  omega (arith, cell_below j (h / f) (k / n) f c (div_below k n (h / f) (omega arith) b), div-mul-le_self h f, mul_comm f (h / f)),
)

far_back : (n h f : ℕ) → 1 ≤ n → f ≤ n → (o : Owner) → Is (far_cells n h f) o → (far_cells n h f).owner (place_of (far_cells n h f) o) ≡ o
far_back n h f a fn (Datum k j) is =
    let c = far_cell n h f k j a is.0 is.1 in
    let q : k / n < h / f = div_below k n (h / f) (omega arith) is.0 in
    let d : j < n = omega arith in
    on_grid_inside n h ((k + j) % n, j * (h / f) + k / n) _ c.0 c.1
    ∙ simp (div-mul-add, mod-mul-add) (cond-true (nat_lt j f) _ _ (lt-ltb j f is.1)
    ∙ (ap (λ x. Datum (k / n * n + x) j) (turn_back k j n d) ∙ ap (λ x. Datum x j) (div-add-mod' k n)))
far_back n h f a fn (Parity x) is = absurd (omega arith)
far_back n h f a fn Nobody is = absurd is

far_inside : (n h f : ℕ) → 1 ≤ n → (o : Owner) → Is (far_cells n h f) o → Inside (far_cells n h f) (place_of (far_cells n h f) o)
far_inside n h f a (Datum k j) is =
    let c = far_cell n h f k j a is.0 is.1 in record { member = c.0; offset = c.1 }
far_inside n h f a (Parity x) is = absurd (omega arith)
far_inside n h f a Nobody is = absurd is

-- chunk k of row q turned forth again
far_turned : (q n t j m : ℕ) → (t + j) % n ≡ m → (q * n + t + j) % n ≡ m
far_turned q n t j m e = ap (λ x. x % n) (add_assoc (q * n) t j) ∙ (mul-add-mod_self_right q n (t + j) ∙ e)

far_owned : (n h f : ℕ) → 1 ≤ n → f ≤ n → 1 ≤ h / f → (p : ℕ × ℕ) → Owns (far_cells n h f) p ((far_cells n h f).owner p)
far_owned n h f a fn z p =
    let j = p.1 / (h / f) in
    let q = p.1 % (h / f) in
    let t = (p.0 + n - j) % n in
    let tn : t < n = mod_below (p.0 + n - j) n (omega arith) in
    let qz : q < h / f = mod_below p.1 (h / f) (omega arith) in
    owns_grid (far_cells n h f) n h p _ (λ b c. cond_both (nat_lt j f) _ _ (Owns (far_cells n h f) p)
    (λ e. let lt = ltb-true j f e in
    ((cell_below q n t (h / f) qz tn, lt), far_place n (h / f) p j q t tn (div-add-mod' p.1 (h / f)) (turn_forth p.0 j n b (omega arith))))
    (λ e. tt))
  where
    far_place : (n z : ℕ) (p : ℕ × ℕ) (j q t : ℕ) → t < n → j * z + q ≡ p.1 → (t + j) % n ≡ p.0
        → ◌≡◌ {A = ℕ × ℕ} ((q * n + t + j) % n, j * z + (q * n + t) / n) p
    far_place n z p j q t tn e f = simp (far_turned q n t j p.0 f, div-mul-add, e)

pub far_placing : (n h f : ℕ) → 1 ≤ n → f ≤ n → 1 ≤ h / f → Placing (far_cells n h f)
far_placing n h f a b c = record {
  inside = far_inside n h f a;
  back = far_back n h f a b;
  owned = far_owned n h f a b c;
  apart = λ i j k x y z e. turns_apart i j k n (omega arith) (omega arith) e;
}
