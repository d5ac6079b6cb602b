-- A layout of single sectors, spread over chunks: what it says of a sector is said of a chunk of c sectors.
use Rattle.std.specs.Prelude.{ℕ, ◌+◌, ◌*◌, ◌/◌, ◌%◌}
use Rattle.layout.specs.declared.place.Owner.{Owner}
use Rattle.layout.specs.declared.place.Owner.TheVariants.{Datum, Parity, Nobody}
use Rattle.layout.specs.Geometry.{Geometry}

-- sector r of chunk k
abbrev pub in_chunk : ℕ → ℕ → ℕ → ℕ
in_chunk c k r = k * c + r

-- sector i of the chunk that lies in a cell: a member and a row of chunks
abbrev pub in_cell : ℕ → ℕ × ℕ → ℕ → ℕ × ℕ
in_cell c p i = (p.0, in_chunk c p.1 (i % c))

-- sector r of what has a cell
abbrev pub of_chunk : ℕ → ℕ → Owner → Owner
of_chunk c r (Datum k j) = Datum (in_chunk c k r) j
of_chunk c r (Parity s) = Parity (in_chunk c s r)
of_chunk c r Nobody = Nobody

abbrev pub chunked : ℕ → Geometry → Geometry
chunked c g = record {
  members = g.members;
  depth = c * g.depth;
  copies = g.copies;
  loss = g.loss;
  row_len = c * g.row_len;
  rows = g.rows;
  groups = c * g.groups;
  datum = λ i j. in_cell c (g.datum (i / c) j) i;
  group = λ i. in_chunk c (g.group (i / c)) (i % c);
  peers = λ x. g.peers (x / c);
  peer = λ x a. in_chunk c (g.peer (x / c) a) (x % c);
  parity = λ x. in_cell c (g.parity (x / c)) x;
  owner = λ p. of_chunk c (p.1 % c) (g.owner (p.0, p.1 / c));
}
