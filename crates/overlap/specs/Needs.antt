-- Need, reach and distance, so that they can be computed.
use Rattle.std.specs.Prelude.{ℕ, zero, suc, ◌+◌, ◌*◌, ◌/◌, max, cond, ◌==◌, nat_lt}
use Rattle.layout.specs.declared.place.Owner.{Owner}
use Rattle.layout.specs.declared.place.Owner.TheVariants.{Datum, Parity, Nobody}
use Rattle.layout.specs.Geometry.{Geometry}
use Rattle.overlap.specs.Homes.{window_of}

-- the greatest of f 0 to f (n - 1), or 0
abbrev pub most : (ℕ → ℕ) → ℕ → ℕ
most f zero = 0
most f (suc n) = max (most f n) (f n)

-- one more than the row, if it is live
abbrev pub need_by_row : Geometry → ℕ → ℕ → ℕ
need_by_row g size s = cond (nat_lt (s * g.row_len) size) (s + 1) 0

abbrev pub need_by_owner : Geometry → ℕ → Owner → ℕ
need_by_owner g size (Datum i j) = need_by_row g size (i / g.row_len)
need_by_owner g size (Parity x) = need_by_row g size (g.peer x 0 / g.row_len)
need_by_owner g size Nobody = 0

-- what the source has at a place
abbrev pub need_by_place : Geometry → ℕ → ℕ × ℕ → ℕ
need_by_place g size p = need_by_owner g size (g.owner p)

-- what the parity of the group needs that target sector i leads
abbrev pub need_by_led : Geometry → Geometry → ℕ → ℕ → ℕ
need_by_led s t size i =
    cond (nat_lt 0 t.groups) (cond (t.peer (t.group i) 0 == i) (need_by_place s size (t.parity (t.group i))) 0) 0

abbrev pub need_by_sector : Geometry → Geometry → ℕ → ℕ → ℕ
need_by_sector s t size i = max (most (λ j. need_by_place s size (t.datum i j)) t.copies) (need_by_led s t size i)

-- the need of target row r
abbrev pub need_of : Geometry → Geometry → ℕ → ℕ → ℕ
need_of s t size r = cond (nat_lt r t.rows) (most (λ k. need_by_sector s t size (r * t.row_len + k)) t.row_len) 0

-- the greatest need of the rows 0 to r
abbrev pub reach_of : Geometry → Geometry → ℕ → ℕ → ℕ
reach_of s t size r = most (need_of s t size) (r + 1)

-- the overlap distance
abbrev pub distance_of : Geometry → Geometry → ℕ → ℕ
distance_of s t size = most (λ r. window_of s.row_len t.row_len r size (reach_of s t size r)) t.rows
