-- The four stock kinds with chunks of one sector: n members with h rows of cells. `chunked` gives them their chunk.
use Rattle.std.specs.Prelude.{ℕ, ◌+◌, ◌-◌, ◌*◌, ◌/◌, ◌%◌, cond, ◌==◌, nat_lt}
use Rattle.layout.specs.declared.place.Owner.{Owner}
use Rattle.layout.specs.declared.place.Owner.TheVariants.{Datum, Parity, Nobody}
use Rattle.layout.specs.Geometry.{Geometry}

-- an owner for the cells of the grid, and nobody elsewhere
abbrev pub on_grid : ℕ → ℕ → ℕ × ℕ → Owner → Owner
on_grid n h p w = cond (nat_lt p.0 n) (cond (nat_lt p.1 h) w Nobody) Nobody

-- a layout without parity
abbrev pub mirrored : (n h f l r : ℕ) → (ℕ → ℕ → ℕ × ℕ) → (ℕ × ℕ → Owner) → Geometry
mirrored n h f l r at whose = record {
  members = n;
  depth = h;
  copies = f;
  loss = f - 1;
  row_len = l;
  rows = r;
  groups = 0;
  datum = at;
  group = λ i. 0;
  peers = λ x. 0;
  peer = λ x a. 0;
  parity = λ x. (0, 0);
  owner = whose;
}

-- Striped: sector k goes to member k mod n, row k div n.
abbrev pub striped_cells : ℕ → ℕ → Geometry
striped_cells n h = mirrored n h 1 n h
    (λ k j. (k % n, k / n))
    (λ p. on_grid n h p (Datum (p.1 * n + p.0) 0))

-- Near: the copies of a sector come one after the other, and go round the members as striped sectors do.
abbrev pub near_cells : ℕ → ℕ → ℕ → Geometry
near_cells n h f = mirrored n h f 1 (h * n / f)
    (λ k j. ((k * f + j) % n, (k * f + j) / n))
    (λ p. on_grid n h p (cond (nat_lt ((p.1 * n + p.0) / f) (h * n / f)) (Datum ((p.1 * n + p.0) / f) ((p.1 * n + p.0) % f)) Nobody))

-- Far: each copy has a zone of h div f rows; in it the sectors are striped, turned by one member for each copy.
abbrev pub far_cells : ℕ → ℕ → ℕ → Geometry
far_cells n h f = mirrored n h f n (h / f)
    (λ k j. ((k + j) % n, j * (h / f) + k / n))
    (λ p. on_grid n h p (cond (nat_lt (p.1 / (h / f)) f) (Datum (p.1 % (h / f) * n + (p.0 + n - p.1 / (h / f)) % n) (p.1 / (h / f))) Nobody))

-- Left-symmetric: row s has its parity on member n - 1 - s mod n, and its data from the next member on.
abbrev pub parity_on : ℕ → ℕ → ℕ
parity_on n s = n - 1 - s % n

-- how many members the member m is after the one with the data's start
abbrev pub after_parity : ℕ → ℕ → ℕ → ℕ
after_parity n s m = (m + n - parity_on n s - 1) % n

abbrev pub left_cells : ℕ → ℕ → Geometry
left_cells n h = record {
  members = n;
  depth = h;
  copies = 1;
  loss = 1;
  row_len = n - 1;
  rows = h;
  groups = h;
  datum = λ k j. ((parity_on n (k / (n - 1)) + 1 + k % (n - 1)) % n, k / (n - 1));
  group = λ k. k / (n - 1);
  peers = λ s. n - 1;
  peer = λ s a. s * (n - 1) + a;
  parity = λ s. (parity_on n s, s);
  owner = λ p. on_grid n h p (cond (p.0 == parity_on n p.1) (Parity p.1) (Datum (p.1 * (n - 1) + after_parity n p.1 p.0) 0));
}
