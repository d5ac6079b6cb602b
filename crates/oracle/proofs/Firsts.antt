-- The first n numbers, asked one by one.
use Rattle.std.proofs.Common.{◌≡◌, ℕ, zero, suc, ◌+◌, ◌<◌, ◌≤◌, Bool, true, false, cond, List, [], ◌∷◌, ◌++◌, length, length-append, map, map-id, filter, get_or, MatchBool, sym, refl, ap, ap₂, ◌∙◌, subst, add-mul, add-one, ◌*◌, arith}
use Rattle.std.specs.List.{AllWithin, HoldsAt, range_with_len, sum}
use Rattle.std.proofs.lemmas.Bool.{cond-false}
use Rattle.std.proofs.lemmas.List.FromFn.{length-range_with_len, get_or-range_with_len, filter_of_map_range_with_len_more, sum_by-map-range_with_len_more}
use Rattle.model.specs.Crew.{count}
use Rattle.model.specs.Contents.{some}
use Rattle.oracle.proofs.Looking.{some_found}

-- none so far, and none here
pub some_not : (f : ℕ → Bool) (n : ℕ) → some f n ≡ false → f n ≡ false → some f (n + 1) ≡ false
some_not f n before here = ap (some f) (add-one n) ∙ (cond-false (some f n) true (f n) before ∙ here)

-- one more
pub count_next : (f : ℕ → Bool) (n : ℕ) → count f (n + 1) ≡ count f n + cond (f n) 1 0
count_next f n = ap (count f) (add-one n)

-- none of them
some_none : (f : ℕ → Bool) (n : ℕ) → ((k : ℕ) → k < n → f k ≡ false) → some f n ≡ false
some_none f zero h = refl
some_none f (suc n) h =
    ap (some f) (sym (add-one n)) ∙ some_not f n (some_none f n (λ k lt. h k (omega arith))) (h n (omega arith))

-- what a search over them answers
pub some_is : (f : ℕ → Bool) (n : ℕ) (r : Bool)
    → MatchBool r ((k : ℕ) × (k < length (range_with_len 0 n)) × HoldsAt (λ i. i < n → f i ≡ true) (range_with_len 0 n) k) (AllWithin (λ i. i < n → f i ≡ false) (range_with_len 0 n) 0 (length (range_with_len 0 n)))
    → r ≡ some f n
some_is f n true (k, lt, holds) =
    let below : k < n = omega (arith, lt, length-range_with_len 0 n) in
    let at : get_or (range_with_len 0 n) k 0 ≡ k = omega (arith, get_or-range_with_len 0 n k 0 below) in
    sym (some_found f n k below (subst (λ i. i < n → f i ≡ true) at (holds 0) below))
some_is f n false all =
    sym (some_none f n (λ k below.
    let at : get_or (range_with_len 0 n) k 0 ≡ k = omega (arith, get_or-range_with_len 0 n k 0 below) in
    subst (λ i. i < n → f i ≡ false) at (all k 0 (omega arith) (omega (arith, below, length-range_with_len 0 n))) below))

kept_one : (xs : List ℕ) (b : Bool) (j : ℕ) → length (xs ++ cond b (j ∷ []) []) ≡ length xs + cond b 1 0
kept_one xs true j = length-append xs (j ∷ [])
kept_one xs false j = length-append xs []

counted : (f : ℕ → Bool) (n : ℕ) → length (filter f (map (λ i. i) (range_with_len 0 n))) ≡ count f n
counted f zero = refl
counted f (suc n) =
    let more : suc n ≡ n + 1 = omega arith in
    ap (λ k. length (filter f (map (λ i. i) (range_with_len 0 k)))) more
    ∙ (ap length (filter_of_map_range_with_len_more f (λ i. i) 0 n n (omega arith))
    ∙ (kept_one (filter f (map (λ i. i) (range_with_len 0 n))) (f n) n ∙ (ap (λ k. k + cond (f n) 1 0) (counted f n) ∙ (sym (count_next f n) ∙ ap (count f) (sym more)))))

-- how many of them are kept
pub count_is : (f : ℕ → Bool) (n : ℕ) → length (filter f (range_with_len 0 n)) ≡ count f n
count_is f n = ap (λ xs. length (filter f xs)) (sym (map-id (range_with_len 0 n))) ∙ counted f n

-- two tests that agree on them count the same
pub count_same : (f h : ℕ → Bool) (n : ℕ) → ((i : ℕ) → i < n → f i ≡ h i) → count f n ≡ count h n
count_same f h zero same = refl
count_same f h (suc n) same = ap₂ (λ k b. k + cond b 1 0) (count_same f h n (λ i lt. same i (omega arith))) (same n (omega arith))

-- no more count than there are
pub count_most : (f : ℕ → Bool) (n : ℕ) → count f n ≤ n
count_most f zero = omega arith
count_most f (suc n) = omega (arith, count_most f n, one (f n))
  where
    one : (b : Bool) → cond b 1 0 ≤ 1
    one true = omega arith
    one false = omega arith

-- the sum of what is asked of them
pub sum_next : (h : ℕ → ℕ) (n : ℕ) → sum (map h (range_with_len 0 (n + 1))) ≡ sum (map h (range_with_len 0 n)) + h n
sum_next h n = sum_by-map-range_with_len_more (λ x. x) h 0 n n (omega arith)

pub sum_most : (h : ℕ → ℕ) (m n : ℕ) → ((k : ℕ) → h k ≤ m) → sum (map h (range_with_len 0 n)) ≤ n * m
sum_most h m zero most = omega arith
sum_most h m (suc n) most =
    let more : suc n ≡ n + 1 = omega arith in
    omega (arith, ap (λ k. sum (map h (range_with_len 0 k))) more, sum_next h n, sum_most h m n most, most n, ap (λ k. k * m) more, add-mul n 1 m)
