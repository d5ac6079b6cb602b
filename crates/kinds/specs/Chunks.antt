-- What is lawful for single sectors is lawful for chunks: one argument on quotient and remainder for all kinds.
use Rattle.std.specs.Prelude.{◌≡◌, ℕ, zero, suc, ◌+◌, ◌*◌, ◌/◌, ◌%◌, ◌<◌, ◌≤◌}
use Rattle.std.proofs.Common.{sym, ap, ◌∙◌, mul_comm, mul_assoc, mul-zero, add-mul, arith}
use Rattle.std.proofs.Math.Nat.{div-div-eq-div-mul}
use Rattle.std.proofs.lemmas.Nat.{mul-add-lt, div_below, mod_below, div-mul-add, mod-mul-add, div-add-mod', mul-le}
use Rattle.layout.specs.declared.place.Owner.{Owner}
use Rattle.layout.specs.declared.place.Owner.TheVariants.{Datum, Parity, Nobody}
use Rattle.layout.specs.Geometry.{Geometry, capacity, Is, place_of}
use Rattle.layout.specs.Lawful.{Inside, Owns, Joined, Peer, Placing, Grouping}
use Rattle.kinds.specs.Chunked.{in_cell, of_chunk, chunked}

-- the chunk of a sector, and of a group
pub chunk_below : (i c m : ℕ) → 1 ≤ c → i < c * m → i / c < m
chunk_below i c m p h = div_below i c m (omega arith) (omega (arith, mul_comm c m))

-- the sectors of a chunk
pub in_below : (k c r m : ℕ) → k < m → r < c → k * c + r < c * m
in_below k c r m h p = omega (arith, mul-add-lt k c r m h p)

-- r rows of c × l sectors are r × l chunks of c
pub rows_chunks : (c r l : ℕ) → r * (c * l) ≡ c * (r * l)
rows_chunks c r l = sym (mul_assoc r c l) ∙ (ap (λ x. x * l) (mul_comm r c) ∙ mul_assoc c r l)

-- a product is some only if its factors are
pub some_factor : (c m : ℕ) → 0 < c * m → 0 < m
some_factor c zero h = absurd (omega (arith, mul-zero c))
some_factor c (suc m) h = omega arith

-- the same sector of a later chunk is a later sector
rise_in : (c k m r : ℕ) → 1 ≤ c → k < m → k * c + r < m * c + r
rise_in c k m r h lt = omega (arith, mul-le (k + 1) c m c (omega arith) (omega arith), add-mul k 1 c)

pub sector_chunk : (c : ℕ) (g : Geometry) (i : ℕ) → 1 ≤ c → i < capacity (chunked c g) → i / c < capacity g
sector_chunk c g i p h = chunk_below i c (capacity g) p (rw (sym (rows_chunks c g.rows g.row_len)) h)

pub chunk_sector : (c : ℕ) (g : Geometry) (k r : ℕ) → k < capacity g → r < c → k * c + r < capacity (chunked c g)
chunk_sector c g k r h p = rw (rows_chunks c g.rows g.row_len) (mul-add-lt k c r (capacity g) h p)

-- the cell of a place in a chunk, and the sector in it
cell_of : (c : ℕ) (g : Geometry) (p : ℕ × ℕ) (i : ℕ) (o : Owner) → 1 ≤ c → g.owner p ≡ o → (chunked c g).owner (in_cell c p i) ≡ of_chunk c (i % c) o
cell_of c g p i o h e =
    let b : i % c < c = mod_below i c (omega arith) in
    simp (div-mul-add, mod-mul-add) (ap (of_chunk c (i % c)) e)

inside_cell : (c : ℕ) (g : Geometry) (p : ℕ × ℕ) (i : ℕ) → 1 ≤ c → Inside g p → Inside (chunked c g) (in_cell c p i)
inside_cell c g p i h at =
    record { member = at.member; offset = mul-add-lt p.1 c (i % c) g.depth at.offset (mod_below i c (omega arith)) }

inside : (c : ℕ) (g : Geometry) → 1 ≤ c → Placing g → (o : Owner) → Is (chunked c g) o → Inside (chunked c g) (place_of (chunked c g) o)
inside c g h law (Datum i j) is =
    inside_cell c g (g.datum (i / c) j) i h (law.inside (Datum (i / c) j) (sector_chunk c g i h is.0, is.1))
inside c g h law (Parity x) is =
    inside_cell c g (g.parity (x / c)) x h (law.inside (Parity (x / c)) (chunk_below x c g.groups h is))
inside c g h law Nobody is = absurd is

back : (c : ℕ) (g : Geometry) → 1 ≤ c → Placing g → (o : Owner) → Is (chunked c g) o → (chunked c g).owner (place_of (chunked c g) o) ≡ o
back c g h law (Datum i j) is =
    cell_of c g (g.datum (i / c) j) i (Datum (i / c) j) h (law.back (Datum (i / c) j) (sector_chunk c g i h is.0, is.1))
    ∙ ap (λ k. Datum k j) (div-add-mod' i c)
back c g h law (Parity x) is =
    cell_of c g (g.parity (x / c)) x (Parity (x / c)) h (law.back (Parity (x / c)) (chunk_below x c g.groups h is))
    ∙ ap Parity (div-add-mod' x c)
back c g h law Nobody is = absurd is

-- a place from its cell
from_cell : (c : ℕ) (p q : ℕ × ℕ) (k : ℕ) → 1 ≤ c → q ≡ (p.0, p.1 / c) → in_cell c q (k * c + p.1 % c) ≡ p
from_cell c p q k h e =
    let b : p.1 % c < c = mod_below p.1 c (omega arith) in
    rw e (simp mod-mul-add (ap (λ o. (p.0, o)) (div-add-mod' p.1 c)))

owns : (c : ℕ) (g : Geometry) (p : ℕ × ℕ) → 1 ≤ c → (o : Owner) → Owns g (p.0, p.1 / c) o → Owns (chunked c g) p (of_chunk c (p.1 % c) o)
owns c g p h (Datum k j) own =
    let b : p.1 % c < c = mod_below p.1 c (omega arith) in
    ((chunk_sector c g k (p.1 % c) own.0.0 b, own.0.1), from_cell c p (g.datum ((k * c + p.1 % c) / c) j) k h (simp div-mul-add own.1))
owns c g p h (Parity x) own =
    let b : p.1 % c < c = mod_below p.1 c (omega arith) in
    (mul-add-lt x c (p.1 % c) g.groups own.0 b, from_cell c p (g.parity ((x * c + p.1 % c) / c)) x h (simp div-mul-add own.1))
owns c g p h Nobody own = tt

pub placing : (c : ℕ) (g : Geometry) → 1 ≤ c → Placing g → Placing (chunked c g)
placing c g h law = record {
  inside = inside c g h law;
  back = back c g h law;
  owned = λ p. owns c g p h (g.owner (p.0, p.1 / c)) (law.owned (p.0, p.1 / c));
  apart = λ i j k a b d e. law.apart (i / c) j k (sector_chunk c g i h a) b d e;
}

-- groups of chunks, and the group of each sector in them
joined : (c : ℕ) (g : Geometry) → 1 ≤ c → Grouping g → (i : ℕ) → 0 < c * g.groups → i < capacity (chunked c g) → Joined (chunked c g) i
joined c g h law i s lt =
    let b : i % c < c = mod_below i c (omega arith) in
    let some : 0 < g.groups = some_factor c g.groups s in
    let j = law.joined (i / c) some (sector_chunk c g i h lt) in
    record {
      group = mul-add-lt (g.group (i / c)) c (i % c) g.groups j.group b;
      index = j.index;
      index_below = simp div-mul-add j.index_below;
      is = simp (div-mul-add, mod-mul-add) (ap (λ k. k * c + i % c) j.is ∙ div-add-mod' i c);
    }

-- the row of a sector is the row of its chunk
chunk_row : (c k r l : ℕ) → r < c → (k * c + r) / (c * l) ≡ k / l
chunk_row c k r l b = sym (div-div-eq-div-mul (k * c + r) c l) ∙ ap (λ x. x / l) (div-mul-add k c r b)

peer_is : (c : ℕ) (g : Geometry) → 1 ≤ c → Grouping g → (x a : ℕ) → x < c * g.groups → a < g.peers (x / c) → Peer (chunked c g) x a
peer_is c g h law x a lt below =
    let b : x % c < c = mod_below x c (omega arith) in
    let first = law.peer_is (x / c) a (chunk_below x c g.groups h lt) below in
    record {
      sector = chunk_sector c g (g.peer (x / c) a) (x % c) first.sector b;
      group = simp (div-mul-add, mod-mul-add) (ap (λ k. k * c + x % c) first.group ∙ div-add-mod' x c);
      row = chunk_row c (g.peer (x / c) a) (x % c) g.row_len b ∙ (first.row ∙ sym (chunk_row c (g.peer (x / c) 0) (x % c) g.row_len b));
    }

-- the member of a peer is that of its chunk
peer_member : (c : ℕ) (g : Geometry) → 1 ≤ c → (x a : ℕ) → ((chunked c g).datum ((chunked c g).peer x a) 0).0 ≡ (g.datum (g.peer (x / c) a) 0).0
peer_member c g h x a =
    let b : x % c < c = mod_below x c (omega arith) in
    simp div-mul-add

pub grouping : (c : ℕ) (g : Geometry) → 1 ≤ c → Grouping g → Grouping (chunked c g)
grouping c g h law = record {
  joined = joined c g h law;
  some = λ x lt. law.some (x / c) (chunk_below x c g.groups h lt);
  peer_is = peer_is c g h law;
  rise = λ x a b lt r below. rise_in c (g.peer (x / c) a) (g.peer (x / c) b) (x % c) h (law.rise (x / c) a b (chunk_below x c g.groups h lt) r below);
  peers_apart = λ x a b lt p q e. law.peers_apart (x / c) a b (chunk_below x c g.groups h lt) p q (sym (peer_member c g h x a) ∙ (e ∙ peer_member c g h x b));
  parity_apart = λ x a lt p e. law.parity_apart (x / c) a (chunk_below x c g.groups h lt) p (e ∙ peer_member c g h x a);
}

-- without groups there is nothing to say of them
pub no_groups : (g : Geometry) → g.groups ≡ 0 → Grouping g
no_groups g e = record {
  joined = λ i s lt. absurd (omega arith);
  some = λ x lt. absurd (omega arith);
  peer_is = λ x a lt below. absurd (omega arith);
  rise = λ x a b lt r below. absurd (omega arith);
  peers_apart = λ x a b lt p q d. absurd (omega arith);
  parity_apart = λ x a lt p d. omega arith;
}
