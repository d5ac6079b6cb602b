-- Folding byte after byte folds the whole.
use Rattle.std.proofs.Common.{◌≡◌, ℕ, zero, suc, ◌+◌, ◌<◌, List, [], ◌∷◌, length, get_or, take, set, sym, refl, ap, add-one, arith}
use lib.Bits.{bit_xor}
use Rattle.sector.specs.Folds.{folded}

pub fold_none : (w : List ℕ) → folded w [] ≡ w
fold_none [] = refl
fold_none (x ∷ xs) = refl

pub fold_next : (i : ℕ) (w r : List ℕ) → i < length w → i < length r
    → set (folded w (take i r)) i (bit_xor (get_or (folded w (take i r)) i 0) (get_or r i 0)) ≡ folded w (take (suc i) r)
fold_next i [] r h k = absurd (omega arith)
fold_next i (x ∷ xs) [] h k = absurd (omega arith)
fold_next zero (x ∷ xs) (y ∷ ys) h k = ap (λ t. bit_xor x y ∷ t) (sym (fold_none xs))
fold_next (suc i) (x ∷ xs) (y ∷ ys) h k = ap (λ t. bit_xor x y ∷ t) (fold_next i xs ys (omega arith) (omega arith))

-- one turn of the loop: w is folded up to i, and b is what byte i becomes
pub fold_more : (i b : ℕ) (w old r : List ℕ) → w ≡ folded old (take i r) → b ≡ bit_xor (get_or w i 0) (get_or r i 0)
    → i < length old → i < length r → set w i b ≡ folded old (take (i + 1) r)
fold_more i b w old r e f h k = rw (e, f, e, add-one) (fold_next i old r h k)
