-- From what cells answer to places and sectors of chunks; a is the grid as it is read.
use Rattle.std.proofs.Common.{◌≡◌, ℕ, ◌+◌, ◌*◌, ◌/◌, ◌<◌, ◌≤◌, sym, ap, ap₂, ◌∙◌, subst, inl, inr, arith}
use Rattle.std.proofs.lemmas.Bool.{cases_lt}
use Rattle.std.proofs.Math.Nat.{div-div-eq-div-mul, one-le-mul}
use Rattle.layout.specs.declared.place.Owner.TheVariants.{Datum}
use Rattle.layout.specs.Geometry.{Geometry, Only, capacity}
use Rattle.kinds.specs.Bounds.{rows_most}
use Rattle.kinds.specs.Cellular.{Cellular, RowParity}
use Rattle.kinds.specs.Chunked.{chunked}
use Rattle.kinds.specs.Chunks.{chunk_below, sector_chunk, some_factor}
use Rattle.kinds.specs.declared.grid.Grid.{Grid}
use Rattle.layout.specs.declared.TheConstants.{MOST_CAPACITY}

-- r rows of l sectors
pub room_most : {g : Grid} {s : Geometry} → Cellular g s → {r l : ℕ} → r ≡ s.rows → l ≡ g.chunk * s.row_len → r * l ≤ MOST_CAPACITY
room_most {g} {s} law {r} {l} rows len = omega (arith, ap₂ (λ x y. x * y) rows len, rows_most g s.rows s.row_len law.room)

module _ {g : Grid} {s : Geometry} (law : Cellular g s) {a : Grid} (e : a ≡ g) where
  -- the chunk of a sector
  pub number_below : (i : ℕ) → i < capacity (chunked g.chunk s) → i / a.chunk < capacity s
  number_below i h = subst (λ z. i / z.chunk < capacity s) (sym e) (sector_chunk g.chunk s i (omega arith) h)

  -- the row of its cell
  pub row_below : (i j : ℕ) (p : ℕ × ℕ) → i < capacity (chunked g.chunk s) → j < s.copies → p ≡ s.datum (i / a.chunk) j → p.1 < a.chunks
  row_below i j p h k =
      subst (λ z. p ≡ s.datum (i / z.chunk) j → p.1 < z.chunks) (sym e)
      (λ at. omega (arith, law.depth, (law.placing.inside (Datum (i / g.chunk) j) (sector_chunk g.chunk s i (omega arith) h, k)).offset, ap (λ q. q.1) at))

  -- a group that has n peers, of which i is one
  pub peer_some : (x n i : ℕ) → Only n (x < g.chunk * s.groups) (s.peers (x / g.chunk)) 0 → i < n → (x < g.chunk * s.groups) × RowParity s × (n ≡ s.row_len)
  peer_some x n i only lt =
      elim (cases_lt x (g.chunk * s.groups)) [
        | inl below ↦ (let parity = law.parity (some_factor g.chunk s.groups (omega arith)) in (below, parity, only.0 below ∙ parity.peers (x / g.chunk)))
        | inr le ↦ absurd (omega (arith, only.1 (λ below. omega arith)))
      ]

  module _ (parity : RowParity s) where
    -- the row of a sector is its group of chunks
    pub group_is : (i l : ℕ) → l ≡ g.chunk * s.row_len → i / l ≡ s.group (i / g.chunk)
    group_is i l w = ap (λ x. i / x) w ∙ (sym (div-div-eq-div-mul i g.chunk s.row_len) ∙ sym (parity.group (i / g.chunk)))

    pub groups_some : 0 < g.chunk * s.groups
    groups_some = one-le-mul (omega arith) (omega (arith, parity.groups, law.depth))

    pub group_below : (i l : ℕ) → l ≡ g.chunk * s.row_len → i < capacity (chunked g.chunk s) → i / l < a.chunks
    group_below i l w h =
        let some : 0 < s.groups = omega (arith, parity.groups, law.depth) in
        omega (arith, group_is i l w, (law.grouping.joined (i / g.chunk) some (sector_chunk g.chunk s i (omega arith) h)).group, parity.groups, law.depth, ap (λ z. z.chunks) e)

    -- the chunk of a peer
    pub peer_below : (x i w : ℕ) → w ≡ s.row_len → x < g.chunk * s.groups → i < w → x / a.chunk * w + i < a.chunks * a.members
    peer_below x i w d h k =
        subst (λ z. x / z.chunk * w + i < z.chunks * z.members) (sym e)
        (let row : x / g.chunk < s.groups = chunk_below x g.chunk s.groups (omega arith) h in
        let peer = law.grouping.peer_is (x / g.chunk) i row (omega (arith, d, parity.peers (x / g.chunk))) in
        omega (arith, peer.sector, law.room, parity.peer (x / g.chunk) i, ap (λ y. x / g.chunk * y) d))
