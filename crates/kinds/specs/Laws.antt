-- The laws of the four kinds over a grid, and that a label names one layout.
use Rattle.std.specs.Prelude.{◌≡◌, ℕ, ◌-◌, ◌*◌, ◌/◌, ◌≤◌, refl}
use Rattle.std.proofs.Common.{sym, ap, ◌∙◌, inl, inr, div-mul-le_self, arith}
use Rattle.std.proofs.Math.Nat.{one-le-mul, mul-div_cancel_left}
use Rattle.std.proofs.lemmas.Bool.{cases_lt}
use Rattle.std.proofs.lemmas.Nat.{mul-le, le-div}
use Rattle.layout.specs.declared.kind.Kind.TheVariants.{Striped, LeftSymmetric, Near, Far}
use Rattle.layout.specs.declared.label.Label.{Label}
use Rattle.layout.specs.Geometry.{Geometry}
use Rattle.layout.specs.Lawful.{Limits, Lawful}
use Rattle.kinds.specs.Cells.{striped_cells, left_cells, near_cells, far_cells}
use Rattle.kinds.specs.Cellular.{Cellular, grid_label}
use Rattle.kinds.specs.Chunked.{chunked}
use Rattle.kinds.specs.Named.{geometry_named}
use Rattle.kinds.specs.declared.grid.Grid.{Grid}
use Rattle.kinds.specs.Bounds.{near_rows, rows_most}
use Rattle.kinds.specs.Chunks.{some_factor, placing, grouping, no_groups}
use Rattle.kinds.specs.Mirrors.{striped_placing, near_placing, far_placing}
use Rattle.kinds.specs.Parities.{left_placing, left_grouping}

-- the limits over a grid, for r rows of l chunks
limits : (g : Grid) (s : Geometry) → s.members ≡ g.members → s.depth ≡ g.chunks → 1 ≤ s.copies → s.copies ≤ g.members
    → 1 ≤ s.row_len → 1 ≤ s.rows → s.rows * s.row_len ≤ g.chunks * g.members → Limits (chunked g.chunk s)
limits g s e d a b c r m = record {
  members_least = omega arith;
  members_most = omega arith;
  depth_most = omega (arith, ap (λ x. g.chunk * x) d);
  copies_some = a;
  copies_most = omega arith;
  row_some = one-le-mul (omega arith) c;
  rows_some = r;
  capacity_most = rows_most g s.rows s.row_len m;
}

-- no groups of chunks, no groups of cells
no_factor : (c m : ℕ) → 1 ≤ c → c * m ≡ 0 → m ≡ 0
no_factor c m h e = elim (cases_lt 0 m) [ inl lt ↦ absurd (omega (arith, e, one-le-mul {a = c} {b = m} h lt)) | inr le ↦ omega arith ]

-- Cells that keep their laws, spread over chunks, are a lawful layout.
pub spread_lawful : (g : Grid) (s : Geometry) → Cellular g s → Lawful (chunked g.chunk s)
spread_lawful g s c = record {
  limits = limits g s c.members c.depth c.copies_some (omega (arith, c.members, c.copies_most)) c.row_some c.rows_some c.room;
  loss = record {
    of_copies = λ e. c.loss.of_copies (no_factor g.chunk s.groups (omega arith) e);
    of_parity = λ h. c.loss.of_parity (some_factor g.chunk s.groups h);
  };
  placing = placing g.chunk s (omega arith) c.placing;
  grouping = grouping g.chunk s (omega arith) c.grouping;
}

pub striped_cellular : (g : Grid) → Cellular g (striped_cells g.members g.chunks)
striped_cellular g = record {
  members = refl;
  depth = refl;
  copies_some = omega arith;
  copies_most = omega arith;
  row_some = omega arith;
  rows_some = omega arith;
  room = omega arith;
  parity_row = λ x h. absurd (omega arith);
  parity = λ h. absurd (omega arith);
  loss = record { of_copies = λ e. refl; of_parity = λ h. absurd (omega arith) };
  placing = striped_placing g.members g.chunks (omega arith);
  grouping = no_groups (striped_cells g.members g.chunks) refl;
}

pub left_cellular : (g : Grid) → 3 ≤ g.members → Cellular g (left_cells g.members g.chunks)
left_cellular g three = record {
  members = refl;
  depth = refl;
  copies_some = omega arith;
  copies_most = omega arith;
  row_some = omega arith;
  rows_some = omega arith;
  room = mul-le g.chunks (g.members - 1) g.chunks g.members (omega arith) (omega arith);
  parity_row = λ x h. refl;
  parity = λ h. record { groups = refl; group = λ k. refl; peers = λ s. refl; peer = λ s a. refl };
  loss = record { of_copies = λ e. absurd (omega (arith, e)); of_parity = λ h. (refl, refl) };
  placing = left_placing g.members g.chunks three;
  grouping = left_grouping g.members g.chunks three;
}

pub near_cellular : (g : Grid) (f : ℕ) → 2 ≤ f → f ≤ g.members → Cellular g (near_cells g.members g.chunks f)
near_cellular g f two apart =
    let rows = near_rows g f (omega arith) apart in
    record {
      members = refl;
      depth = refl;
      copies_some = omega arith;
      copies_most = apart;
      row_some = omega arith;
      rows_some = rows.0;
      room = omega (arith, rows.1);
      parity_row = λ x h. absurd (omega arith);
      parity = λ h. absurd (omega arith);
      loss = record { of_copies = λ e. omega arith; of_parity = λ h. absurd (omega arith) };
      placing = near_placing g.members g.chunks f (omega arith) (omega arith) apart;
      grouping = no_groups (near_cells g.members g.chunks f) refl;
    }

pub far_cellular : (g : Grid) (f : ℕ) → 2 ≤ f → f ≤ g.members → f ≤ g.chunks → Cellular g (far_cells g.members g.chunks f)
far_cellular g f two apart zoned =
    let zone : 1 ≤ g.chunks / f = le-div 1 g.chunks f (omega arith) (omega arith) in
    let most : g.chunks / f ≤ g.chunks = omega (arith, div-mul-le_self g.chunks f, mul-le (g.chunks / f) 1 (g.chunks / f) f (omega arith) (omega arith)) in
    record {
      members = refl;
      depth = refl;
      copies_some = omega arith;
      copies_most = apart;
      row_some = omega arith;
      rows_some = zone;
      room = mul-le (g.chunks / f) g.members g.chunks g.members most (omega arith);
      parity_row = λ x h. absurd (omega arith);
      parity = λ h. absurd (omega arith);
      loss = record { of_copies = λ e. omega arith; of_parity = λ h. absurd (omega arith) };
      placing = far_placing g.members g.chunks f (omega arith) apart zone;
      grouping = no_groups (far_cells g.members g.chunks f) refl;
    }

-- so each kind is lawful
pub striped_lawful : (g : Grid) → Lawful (chunked g.chunk (striped_cells g.members g.chunks))
striped_lawful g = spread_lawful g (striped_cells g.members g.chunks) (striped_cellular g)

pub left_lawful : (g : Grid) → 3 ≤ g.members → Lawful (chunked g.chunk (left_cells g.members g.chunks))
left_lawful g three = spread_lawful g (left_cells g.members g.chunks) (left_cellular g three)

pub near_lawful : (g : Grid) (f : ℕ) → 2 ≤ f → f ≤ g.members → Lawful (chunked g.chunk (near_cells g.members g.chunks f))
near_lawful g f two apart = spread_lawful g (near_cells g.members g.chunks f) (near_cellular g f two apart)

pub far_lawful : (g : Grid) (f : ℕ) → 2 ≤ f → f ≤ g.members → f ≤ g.chunks → Lawful (chunked g.chunk (far_cells g.members g.chunks f))
far_lawful g f two apart zoned = spread_lawful g (far_cells g.members g.chunks f) (far_cellular g f two apart zoned)

-- the chunks of a member, from the depth
chunks_of : (g : Grid) → g.chunk * g.chunks / g.chunk ≡ g.chunks
chunks_of g = mul-div_cancel_left g.chunks (omega arith)

-- each kind is what its label names
pub striped_named : (g : Grid) → chunked g.chunk (striped_cells g.members g.chunks) ≡ geometry_named (grid_label Striped 1 g)
striped_named g = ap (λ h. chunked g.chunk (striped_cells g.members h)) (sym (chunks_of g))

pub left_named : (g : Grid) → chunked g.chunk (left_cells g.members g.chunks) ≡ geometry_named (grid_label LeftSymmetric 1 g)
left_named g = ap (λ h. chunked g.chunk (left_cells g.members h)) (sym (chunks_of g))

pub near_named : (g : Grid) (f : ℕ) → chunked g.chunk (near_cells g.members g.chunks f) ≡ geometry_named (grid_label Near f g)
near_named g f = ap (λ h. chunked g.chunk (near_cells g.members h f)) (sym (chunks_of g))

pub far_named : (g : Grid) (f : ℕ) → chunked g.chunk (far_cells g.members g.chunks f) ≡ geometry_named (grid_label Far f g)
far_named g f = ap (λ h. chunked g.chunk (far_cells g.members h f)) (sym (chunks_of g))

-- so what has one label is one layout
pub one_name : (g h : Geometry) (l m : Label) → g ≡ geometry_named l → h ≡ geometry_named m → l ≡ m → g ≡ h
one_name g h l m a b e = a ∙ (ap geometry_named e ∙ sym b)
