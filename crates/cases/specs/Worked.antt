-- The worked examples, in one list. A layout is its cells spread over chunks; the chunk comes first, then the members and the rows of chunks.
use Rattle.std.specs.Prelude.{◌≡◌, ℕ, ◌≤◌, ◌<◌}
use Rattle.layout.specs.Geometry.{Geometry}
use Rattle.kinds.specs.Cells.{striped_cells, left_cells, near_cells, far_cells}
use Rattle.kinds.specs.Chunked.{chunked}
use Rattle.overlap.specs.Homes.{home_of}
use Rattle.overlap.specs.Homes.{window_of}
use Rattle.overlap.specs.Needs.{distance_of, reach_of}
use Rattle.overlap.specs.declared.walk.Home.TheVariants.{Source, Target, Backup}

-- parity on 3 members and on 4, chunk 1, depth 8; and on 3 members, chunk 1 and chunk 2, depth 4
abbrev three : Geometry
three = chunked 1 (left_cells 3 8)

abbrev four : Geometry
four = chunked 1 (left_cells 4 8)

abbrev fine : Geometry
fine = chunked 1 (left_cells 3 4)

abbrev coarse : Geometry
coarse = chunked 2 (left_cells 3 2)

-- striped on 3 members and on 2, chunk 1, depth 6
abbrev wide : Geometry
wide = chunked 1 (striped_cells 3 6)

abbrev narrow : Geometry
narrow = chunked 1 (striped_cells 2 6)

pub record WorkedExamples : Type 0 where
  -- places, at every depth
  pub striped : (h : ℕ) → (chunked 2 (striped_cells 3 h)).datum 7 0 ≡ (0, 3)
  pub left_datum : (h : ℕ) → (chunked 1 (left_cells 4 h)).datum 0 0 ≡ (0, 0)
  pub left_parity : (h : ℕ) → (chunked 1 (left_cells 4 h)).parity ((chunked 1 (left_cells 4 h)).group 0) ≡ (3, 0)
  pub near : (h : ℕ) → ((chunked 1 (near_cells 3 h 2)).datum 1 0 ≡ (2, 0)) × ((chunked 1 (near_cells 3 h 2)).datum 1 1 ≡ (0, 1))
  pub far : ((chunked 1 (far_cells 3 6 2)).datum 4 0 ≡ (1, 1)) × ((chunked 1 (far_cells 3 6 2)).datum 4 1 ≡ (2, 4))
  -- a wider parity array: the distance, and homes with 1 row settled and 2 rows kept
  pub widened : distance_of three four 16 ≡ 2
  pub in_target : home_of three.row_len four.row_len 1 2 2 ≡ Target
  pub in_backup : home_of three.row_len four.row_len 1 2 3 ≡ Backup
  pub in_source : home_of three.row_len four.row_len 1 2 4 ≡ Source
  -- a change of chunk: 4 slots are enough, and 3 are not
  pub rechunked : distance_of fine coarse 8 ≡ 4
  pub four_slots : (distance_of fine coarse 8 ≤ 4) × (3 < distance_of fine coarse 8)
  -- members given back: the distance is met at row 3, and row 0 alone would ask for 3
  pub narrowed : distance_of wide narrow 12 ≡ 6
  pub at_row : (window_of wide.row_len narrow.row_len 3 12 (reach_of wide narrow 12 3) ≡ 6) × (window_of wide.row_len narrow.row_len 0 12 (reach_of wide narrow 12 0) ≡ 3)
  -- no sectors, no distance, between any two layouts
  pub empty : (s t : Geometry) → distance_of s t 0 ≡ 0
