-- The exclusive-or of two runs of bytes, byte for byte; what one run has past the other's end stays.
use Rattle.std.specs.Prelude.{ℕ, List, [], ◌∷◌, bit_xor}

abbrev pub folded : List ℕ → List ℕ → List ℕ
folded [] ys = []
folded (x ∷ xs) [] = x ∷ xs
folded (x ∷ xs) (y ∷ ys) = bit_xor x y ∷ folded xs ys
