-- Labels as bytes.
use Rattle.std.specs.Prelude.{ℕ, List, ◌∷◌, ◌++◌, take, drop, slice_index}
use Rattle.sector.specs.Bytes.{le, from_le}
use Rattle.layout.specs.declared.label.Label.{Label}

-- the 16 bytes of a label
abbrev pub label_bytes : Label → List ℕ
label_bytes l = l.kind ∷ l.members ∷ l.copies ∷ l.reserved ∷ (le 4 l.chunk ++ le 8 l.depth)

-- the label that 16 bytes are
abbrev pub label_from : List ℕ → Label
label_from bs = record {
  kind = slice_index bs 0;
  members = slice_index bs 1;
  copies = slice_index bs 2;
  reserved = slice_index bs 3;
  chunk = from_le (take 4 (drop 4 bs));
  depth = from_le (take 8 (drop 8 bs));
}
