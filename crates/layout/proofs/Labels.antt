-- The bytes of a label and its parts.
use Rattle.std.proofs.Common.{◌≡◌, ℕ, List, ◌∷◌, ◌++◌, length, get_or, take, drop, arith}
use Rattle.std.proofs.lemmas.List.{drop_more, drop-drop, take_all, take-append-drop, length-drop}
use Rattle.sector.specs.Bytes.{le, from_le}
use Rattle.layout.specs.Bytes.{label_bytes, label_from}
use Rattle.layout.specs.declared.label.Label.{Label}

pub of_label : (l : Label) → from_le (le 4 l.chunk) ≡ l.chunk → from_le (le 8 l.depth) ≡ l.depth → label_from (label_bytes l) ≡ l
unfolding le
of_label l chunk depth = λ i. record l { chunk = chunk i; depth = depth i }

pub parts : (bs : List ℕ) (m n : ℕ) → length bs ≡ 16 → le 4 m ≡ take 4 (drop 4 bs) → le 8 n ≡ take 8 (drop 8 bs)
    → get_or bs 0 0 ∷ get_or bs 1 0 ∷ get_or bs 2 0 ∷ get_or bs 3 0 ∷ (le 4 m ++ le 8 n) ≡ bs
parts bs m n h chunk depth =
    let rest : take 4 (drop 4 bs) ++ drop 8 bs ≡ drop 4 bs = rw (← drop-drop 4 4 bs) (take-append-drop 4 (drop 4 bs)) in
    let all : take 8 (drop 8 bs) ≡ drop 8 bs = take_all 8 (drop 8 bs) (omega (arith, length-drop {A = ℕ})) in
    rw (chunk, depth, all) (grind (arith, drop_more))
