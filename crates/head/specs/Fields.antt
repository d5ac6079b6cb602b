-- Fields of a head's bytes.
use Rattle.std.specs.Prelude.{◌≡◌, ℕ, ◌+◌, Bool, List, replicate, MatchBool}
use Rattle.std.specs.List.{between}
use Rattle.sector.specs.Bytes.{le, from_le}
use Rattle.layout.specs.Bytes.{label_bytes, label_from}
use Rattle.layout.specs.declared.label.Label.{Label}
use Rattle.layout.specs.declared.label.TheConstants.{LABEL}

-- so many zeros; it stays shut in a search, which would else go byte by byte
unfoldable pub clear : ℕ → List ℕ
clear n = replicate n 0

-- a number stands in the eight bytes from a place on, and a label in the sixteen; the bytes keep all of it
abbrev pub NumberAt : ℕ → ℕ → List ℕ → Type 0
NumberAt i n bs = (le 8 n ≡ between i (i + 8) bs) × (from_le (le 8 n) ≡ n)

abbrev pub LabelAt : ℕ → Label → List ℕ → Type 0
LabelAt i l bs = (label_bytes l ≡ between i (i + LABEL) bs) × (label_from (label_bytes l) ≡ l)

-- a test that tells whether
abbrev pub Decided : Bool → Type 0 → Type 0
Decided r P = MatchBool r P (P → ⊥)
