-- Folding contents: the order does not matter, and a content that is folded in twice is out again. Contents that are folded in may be of any length.
use Rattle.std.proofs.Common.{◌≡◌, ℕ, zero, suc, ◌+◌, ◌<◌, ◌≢◌, Bool, true, false, cond, eqb, List, [], ◌∷◌, length, replicate, refl, sym, ap, ◌∙◌, inl, inr, add-one, arith}
use Rattle.std.specs.Int.Bits.{bit_xor, xor_assoc}
use lib.Bits.{xor_self, xor_zero_l}
use Rattle.std.proofs.lemmas.Nat.{xor_comm}
use Rattle.std.proofs.lemmas.Bool.{cond-true, cond-false, cases_Bool, cases_eq, eq-eqb, ne_eqb}
use Rattle.sector.specs.Folds.{folded}
use Rattle.model.specs.Contents.{gathered}
use Rattle.stage.specs.Looks.{gathered_on}

xor_swap : (a b c : ℕ) → bit_xor (bit_xor a b) c ≡ bit_xor (bit_xor a c) b
xor_swap a b c = xor_assoc a b c ∙ (ap (bit_xor a) (xor_comm b c) ∙ sym (xor_assoc a c b))

xor_out : (a b : ℕ) → bit_xor (bit_xor a b) a ≡ b
xor_out a b = xor_swap a b a ∙ (ap (λ t. bit_xor t b) (xor_self a) ∙ xor_zero_l b)

pub folded_swap : (xs ys zs : List ℕ) → folded (folded xs ys) zs ≡ folded (folded xs zs) ys
folded_swap [] ys zs = refl
folded_swap (x ∷ xs) [] [] = refl
folded_swap (x ∷ xs) [] (z ∷ zs) = refl
folded_swap (x ∷ xs) (y ∷ ys) [] = refl
folded_swap (x ∷ xs) (y ∷ ys) (z ∷ zs) = ap (λ t. t ∷ folded (folded xs ys) zs) (xor_swap x y z) ∙ ap (λ t. bit_xor (bit_xor x z) y ∷ t) (folded_swap xs ys zs)

length_folded : (xs ys : List ℕ) → length (folded xs ys) ≡ length xs
length_folded [] ys = refl
length_folded (x ∷ xs) [] = refl
length_folded (x ∷ xs) (y ∷ ys) = ap suc (length_folded xs ys)

-- one after another, where the first of the two is as long as what they are folded into
folded_both : (xs ys zs : List ℕ) → length xs ≡ length ys → folded xs (folded ys zs) ≡ folded (folded xs ys) zs
folded_both [] ys zs e = refl
folded_both (x ∷ xs) [] zs e = absurd (omega (arith, e))
folded_both (x ∷ xs) (y ∷ ys) [] e = refl
folded_both (x ∷ xs) (y ∷ ys) (z ∷ zs) e =
    ap (λ t. t ∷ folded xs (folded ys zs)) (sym (xor_assoc x y z)) ∙ ap (λ t. bit_xor (bit_xor x y) z ∷ t) (folded_both xs ys zs (omega (arith, e)))

-- what is folded into itself and another is the other
folded_out : (xs ys : List ℕ) → length xs ≡ length ys → folded (folded xs ys) xs ≡ ys
folded_out [] [] e = refl
folded_out [] (y ∷ ys) e = absurd (omega (arith, e))
folded_out (x ∷ xs) [] e = absurd (omega (arith, e))
folded_out (x ∷ xs) (y ∷ ys) e = ap (λ t. t ∷ folded (folded xs ys) xs) (xor_out x y) ∙ ap (λ t. y ∷ t) (folded_out xs ys (omega (arith, e)))

folded_zeros : (n : ℕ) (xs : List ℕ) → length xs ≡ n → folded (replicate n 0) xs ≡ xs
folded_zeros zero [] e = refl
folded_zeros zero (x ∷ xs) e = absurd (omega (arith, e))
folded_zeros (suc n) [] e = absurd (omega (arith, e))
folded_zeros (suc n) (x ∷ xs) e = ap (λ t. t ∷ folded (replicate n 0) xs) (xor_zero_l x) ∙ ap (λ t. x ∷ t) (folded_zeros n xs (omega (arith, e)))

length_zeros : (n : ℕ) → length {A = ℕ} (replicate n 0) ≡ n
length_zeros zero = refl
length_zeros (suc n) = ap suc (length_zeros n)

length_gathered : (skip : ℕ → Bool) (f : ℕ → List ℕ) (n : ℕ) → length (gathered skip f n) ≡ 512
length_gathered skip f zero = length_zeros 512
length_gathered skip f (suc n) = elim (cases_Bool (skip n)) [
  | inl e ↦ ap length (cond-true (skip n) (gathered skip f n) (folded (gathered skip f n) (f n)) e) ∙ length_gathered skip f n
  | inr e ↦ ap length (cond-false (skip n) (gathered skip f n) (folded (gathered skip f n) (f n)) e) ∙ (length_folded (gathered skip f n) (f n) ∙ length_gathered skip f n)
]

-- one more
pub gathered_skip : (skip : ℕ → Bool) (f : ℕ → List ℕ) (x : List ℕ) (n : ℕ) → skip n ≡ true → gathered_on skip f x (n + 1) ≡ gathered_on skip f x n
gathered_skip skip f x n e = ap (gathered_on skip f x) (add-one n) ∙ cond-true (skip n) (gathered_on skip f x n) (folded (gathered_on skip f x n) (f n)) e

pub gathered_more : (skip : ℕ → Bool) (f : ℕ → List ℕ) (x : List ℕ) (n : ℕ) → skip n ≡ false
    → gathered_on skip f x (n + 1) ≡ folded (gathered_on skip f x n) (f n)
gathered_more skip f x n e = ap (gathered_on skip f x) (add-one n) ∙ cond-false (skip n) (gathered_on skip f x n) (folded (gathered_on skip f x n) (f n)) e

-- into zeros
pub on_zeros : (skip : ℕ → Bool) (f : ℕ → List ℕ) (n : ℕ) → gathered_on skip f (replicate 512 0) n ≡ gathered skip f n
on_zeros skip f zero = refl
on_zeros skip f (suc n) = ap (λ t. cond (skip n) t (folded t (f n))) (on_zeros skip f n)

-- into another content
on_folded : (skip : ℕ → Bool) (f : ℕ → List ℕ) (x : List ℕ) (n : ℕ) → length x ≡ 512 → gathered_on skip f x n ≡ folded (gathered skip f n) x
on_folded skip f x zero e = sym (folded_zeros 512 x e)
on_folded skip f x (suc n) e = ap (λ t. cond (skip n) t (folded t (f n))) (on_folded skip f x n e) ∙ elim (cases_Bool (skip n)) [
  | inl s ↦ cond-true (skip n) _ _ s ∙ sym (ap (λ t. folded t x) (cond-true (skip n) (gathered skip f n) (folded (gathered skip f n) (f n)) s))
  | inr s ↦ cond-false (skip n) _ _ s ∙ (folded_swap (gathered skip f n) x (f n)
      ∙ sym (ap (λ t. folded t x) (cond-false (skip n) (gathered skip f n) (folded (gathered skip f n) (f n)) s)))
]

-- the same contents with the same left out
pub record Alike (skip tell : ℕ → Bool) (f h : ℕ → List ℕ) (n : ℕ) : Type 0 where
  pub skips : (k : ℕ) → k < n → skip k ≡ tell k
  pub gives : (k : ℕ) → k < n → tell k ≡ false → f k ≡ h k

pub gathered_alike : (skip tell : ℕ → Bool) (f h : ℕ → List ℕ) (n : ℕ) → Alike skip tell f h n → gathered skip f n ≡ gathered tell h n
gathered_alike skip tell f h zero e = refl
gathered_alike skip tell f h (suc n) e =
    let before : gathered skip f n ≡ gathered tell h n =
    gathered_alike skip tell f h n (record { skips = λ k lt. e.skips k (omega (arith, lt)); gives = λ k lt. e.gives k (omega (arith, lt)) }) in
    ap (λ t. cond (skip n) t (folded t (f n))) before ∙ (ap (λ t. cond t (gathered tell h n) (folded (gathered tell h n) (f n))) (e.skips n (omega arith)) ∙ elim (cases_Bool (tell n)) [
      | inl s ↦ cond-true (tell n) _ _ s ∙ sym (cond-true (tell n) (gathered tell h n) (folded (gathered tell h n) (h n)) s)
      | inr s ↦ ap (λ t. cond (tell n) (gathered tell h n) (folded (gathered tell h n) t)) (e.gives n (omega arith) s)
    ])

-- left out as well
abbrev pub but : ℕ → (ℕ → Bool) → ℕ → Bool
but k skip b = cond (eqb b k) true (skip b)

pub but_self : (k : ℕ) (skip : ℕ → Bool) (b : ℕ) → b ≡ k → but k skip b ≡ true
but_self k skip b e = cond-true (eqb b k) true (skip b) (eq-eqb b k e)

pub but_other : (k : ℕ) (skip : ℕ → Bool) (b : ℕ) → (b ≢ k) → but k skip b ≡ skip b
but_other k skip b ne = cond-false (eqb b k) true (skip b) (ne_eqb b k ne)

take_out : (skip : ℕ → Bool) (f : ℕ → List ℕ) (k n : ℕ) → k < n → skip k ≡ false → gathered skip f n ≡ folded (gathered (but k skip) f n) (f k)
take_out skip f k zero lt e = absurd (omega (arith, lt))
take_out skip f k (suc n) lt e = elim (cases_eq n k) [
  | inl same ↦ (let one : skip n ≡ false = ap skip same ∙ e in
      let rest : gathered skip f n ≡ gathered (but k skip) f n =
      gathered_alike skip (but k skip) f f n (record { skips = λ b below. sym (but_other k skip b (λ h. omega (arith, below, h, same))); gives = λ b below s. refl }) in
      cond-false (skip n) (gathered skip f n) (folded (gathered skip f n) (f n)) one
      ∙ (ap (λ t. folded t (f n)) rest ∙ (ap (λ b. folded (gathered (but k skip) f n) (f b)) same
      ∙ sym (ap (λ t. folded t (f k)) (cond-true (but k skip n) (gathered (but k skip) f n) (folded (gathered (but k skip) f n) (f n)) (but_self k skip n same))))))
  | inr ne ↦ (let rest = take_out skip f k n (omega (arith, lt, ne)) e in
      let there : but k skip n ≡ skip n = but_other k skip n ne in
      let G = gathered (but k skip) f n in
      ap (λ t. cond (skip n) t (folded t (f n))) rest ∙ (elim (cases_Bool (skip n)) [
        | inl s ↦ cond-true (skip n) (folded G (f k)) (folded (folded G (f k)) (f n)) s
            ∙ sym (ap (λ t. folded t (f k)) (cond-true (but k skip n) G (folded G (f n)) (there ∙ s)))
        | inr s ↦ cond-false (skip n) (folded G (f k)) (folded (folded G (f k)) (f n)) s ∙ (folded_swap G (f k) (f n)
            ∙ sym (ap (λ t. folded t (f k)) (cond-false (but k skip n) G (folded G (f n)) (there ∙ s))))
      ]))
]

-- nothing left out
abbrev pub all : ℕ → Bool
all b = false

-- One content of n is x, and the others are folded into it.
pub with_others : (e f : ℕ → List ℕ) (skip : ℕ → Bool) (x : List ℕ) (j n : ℕ) → j < n → length x ≡ 512 → e j ≡ x → Alike (but j all) skip e f n
    → gathered_on skip f x n ≡ gathered all e n
with_others e f skip x j n lt long own same =
    on_folded skip f x n long ∙ (ap (λ t. folded t x) (sym (gathered_alike (but j all) skip e f n same))
    ∙ (ap (folded (gathered (but j all) e n)) (sym own) ∙ sym (take_out all e j n lt refl)))

-- One content of n is x, and another is what the others and y make of the old content at j: the same as x with the old content and y folded in.
pub by_change : (e f : ℕ → List ℕ) (skip : ℕ → Bool) (x y : List ℕ) (j d n : ℕ) → j < n → d < n → (d ≢ j) → length x ≡ 512 → e j ≡ x
    → e d ≡ folded (gathered skip f n) y → skip j ≡ false → Alike (but d (but j all)) (but j skip) e f n
    → folded (folded x (f j)) y ≡ gathered all e n
by_change e f skip x y j d n jn dn ne long own other keeps same =
    let S = gathered (but d (but j all)) e n in
    let length_S : length S ≡ 512 = length_gathered (but d (but j all)) e n in
    let lost : e d ≡ folded (folded S (f j)) y =
    other ∙ ap (λ t. folded t y) (take_out skip f j n jn keeps ∙ ap (λ t. folded t (f j)) (sym (gathered_alike (but d (but j all)) (but j skip) e f n same))) in
    let whole : gathered all e n ≡ folded (folded S (e d)) x =
    take_out all e j n jn refl ∙ (ap (folded (gathered (but j all) e n)) own ∙ ap (λ t. folded t x) (take_out (but j all) e d n dn (but_other j all d ne))) in
    let twice : folded S (folded (folded S (f j)) y) ≡ folded (folded (folded S S) (f j)) y =
    folded_both S (folded S (f j)) y (sym (length_folded S (f j))) ∙ ap (λ t. folded t y) (folded_both S S (f j) refl) in
    let out : folded (folded S S) x ≡ x = folded_swap S S x ∙ folded_out S x (length_S ∙ sym long) in
    sym (whole ∙ (ap (λ t. folded (folded S t) x) lost ∙ (ap (λ t. folded t x) twice
    ∙ (folded_swap (folded (folded S S) (f j)) y x ∙ (ap (λ t. folded t y) (folded_swap (folded S S) (f j) x) ∙ ap (λ t. folded (folded t (f j)) y) out)))))
