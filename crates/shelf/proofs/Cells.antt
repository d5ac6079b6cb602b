-- Sectors in a run of bytes, before and after one is written.
use Rattle.std.proofs.Common.{◌≡◌, ℕ, ◌+◌, ◌*◌, ◌/◌, ◌%◌, ◌<◌, ◌≤◌, cond, ltb, ◌⊎◌, List, [], length, take, drop, sym, ap, ◌∙◌, inl, inr, mul_comm, add-mul, arith, length-drop, length-take}
use Rattle.std.proofs.lemmas.List.{same_lists, places}
use lib.Seq.{paste}
use Rattle.std.proofs.lemmas.List.Edits.{length-paste}
use Rattle.std.proofs.lemmas.Nat.{mul-le, mul-add-lt, div-mul-add, mod-mul-add}
use Rattle.std.proofs.lemmas.Bool.{cases_lt, cases_order, cond-true, cond-false, lt-ltb, le-ltb}
use Rattle.shelf.specs.Runs.{RunHasSector, Pulled, image_of, sector_at, sector_put}

pub put_length : (run : List ℕ) (at : ℕ) (bytes : List ℕ) → at * 512 + 512 ≤ length run → length bytes ≡ 512 → length (sector_put run at bytes) ≡ length run
put_length run at bytes h e = length-paste run (at * 512) bytes 512 h (omega arith)

pub sector_length : (run : List ℕ) (q : ℕ) → q * 512 + 512 ≤ length run → length (sector_at run q) ≡ 512
sector_length run q h = simp (length-take, length-drop) (omega arith)

-- the same of parts of any length
part_length : (xs : List ℕ) (a n : ℕ) → a + n ≤ length xs → length (take n (drop a xs)) ≡ n
part_length xs a n h = simp (length-take, length-drop) (omega arith)

part_same : (xs ys : List ℕ) (a n : ℕ) → a + n ≤ length xs → length ys ≡ n → take n (drop a (paste xs a ys n)) ≡ ys
part_same xs ys a n h e =
    same_lists _ _ (part_length (paste xs a ys n) a n (omega (arith, length-paste xs a ys n h (omega arith))) ∙ sym e) (λ k d lt. grind (arith, places))

part_other : (xs ys : List ℕ) (a q n : ℕ) → a + n ≤ length xs → q + n ≤ length xs → length ys ≡ n → (q + n ≤ a) ⊎ (a + n ≤ q)
    → take n (drop q (paste xs a ys n)) ≡ take n (drop q xs)
part_other xs ys a q n h g e apart =
    same_lists _ _ (part_length (paste xs a ys n) q n (omega (arith, length-paste xs a ys n h (omega arith))) ∙ sym (part_length xs q n g))
    (λ k d lt. elim apart [ inl below ↦ grind (arith, places) | inr above ↦ grind (arith, places) ])

part_after : (xs ys : List ℕ) (a n i : ℕ) → a + n ≤ length xs → length ys ≡ n → a + n ≤ i → drop i (paste xs a ys n) ≡ drop i xs
part_after xs ys a n i h e le =
    same_lists _ _ (simp length-drop (omega (arith, length-paste xs a ys n h (omega arith)))) (λ k d lt. grind (arith, places))

pub put_same : (run : List ℕ) (at : ℕ) (bytes : List ℕ) → at * 512 + 512 ≤ length run → length bytes ≡ 512 → sector_at (sector_put run at bytes) at ≡ bytes
put_same run at bytes h e = part_same run bytes (at * 512) 512 h e

pub put_other : (run : List ℕ) (at q : ℕ) (bytes : List ℕ) → at * 512 + 512 ≤ length run → q * 512 + 512 ≤ length run → length bytes ≡ 512
    → (q ≡ at → ⊥) → sector_at (sector_put run at bytes) q ≡ sector_at run q
put_other run at q bytes h g e ne =
    part_other run bytes (at * 512) (q * 512) 512 h g e
    (elim (cases_order q at) [ inl same ↦ absurd (ne same) | inr o ↦ elim o [ inl below ↦ inl (omega arith) | inr above ↦ inr (omega arith) ] ])

-- what stands after a written sector
pub put_after : (run : List ℕ) (at : ℕ) (bytes : List ℕ) (i : ℕ) → at * 512 + 512 ≤ length run → length bytes ≡ 512 → at * 512 + 512 ≤ i
    → drop i (sector_put run at bytes) ≡ drop i run
put_after run at bytes i h e le = part_after run bytes (at * 512) 512 i h e le

-- a sector that a shelf has, in its image
pub image_in : (m z : ℕ) (run : List ℕ) (base k s : ℕ) → k < m → s < z → image_of m z run base k s ≡ sector_at run (base + (k * z + s))
image_in m z run base k s a b = cond-true (ltb k m) _ _ (lt-ltb k m a) ∙ cond-true (ltb s z) _ _ (lt-ltb s z b)

-- images agree on a sector where the runs do
pub image_same : (m z : ℕ) (run new : List ℕ) (base k s : ℕ) → (k < m → s < z → sector_at new (base + (k * z + s)) ≡ sector_at run (base + (k * z + s)))
    → image_of m z new base k s ≡ image_of m z run base k s
image_same m z run new base k s h =
    elim (cases_lt k m) [
      | inr le ↦ cond-false (ltb k m) _ _ (le-ltb k m le) ∙ sym (cond-false (ltb k m) _ _ (le-ltb k m le))
      | inl lt ↦ elim (cases_lt s z) [
        | inr le ↦ ap (λ x. cond (ltb k m) x []) (cond-false (ltb s z) _ _ (le-ltb s z le) ∙ sym (cond-false (ltb s z) (sector_at run (base + (k * z + s))) [] (le-ltb s z le)))
        | inl below ↦ image_in m z new base k s lt below ∙ (h lt below ∙ sym (image_in m z run base k s lt below))
      ]
    ]

-- a cell of the image
pub cell_inside : (m z k s : ℕ) → k < m → s < z → k * z + s < m * z
cell_inside m z k s a b = omega (arith, mul-add-lt k z s m a b, mul_comm z m)

-- the sectors of one member end where those of the next begin
pub member_end : (z k n : ℕ) → k < n → k * z + z ≤ n * z
member_end z k n h = omega (arith, mul-le (k + 1) z n z (omega arith) (omega arith), add-mul k 1 z)

-- two sectors in one cell are one
pub cell_one : (z k s m t : ℕ) → s < z → t < z → k * z + s ≡ m * z + t → (k ≡ m) × (s ≡ t)
cell_one z k s m t a b e =
    (sym (div-mul-add k z s a) ∙ (ap (λ x. x / z) e ∙ div-mul-add m z t b), sym (mod-mul-add k z s a) ∙ (ap (λ x. x % z) e ∙ mod-mul-add m z t b))

-- a sector of an image in a run, after another sector of the run was written
pub image_other : (m z : ℕ) (run : List ℕ) (base at : ℕ) (bytes : List ℕ) (k s : ℕ) → (base + m * z) * 512 ≤ length run → at * 512 + 512 ≤ length run
    → length bytes ≡ 512 → (k < m → s < z → base + (k * z + s) ≡ at → ⊥) → image_of m z (sector_put run at bytes) base k s ≡ image_of m z run base k s
image_other m z run base at bytes k s whole h e ne =
    image_same m z run (sector_put run at bytes) base k s (λ a b.
    put_other run at (base + (k * z + s)) bytes h (omega (arith, cell_inside m z k s a b)) e (ne a b))

-- and after it was written itself
pub image_put : (m z : ℕ) (run : List ℕ) (base at : ℕ) (bytes : List ℕ) (k s : ℕ) → at * 512 + 512 ≤ length run → length bytes ≡ 512 → k < m → s < z
    → base + (k * z + s) ≡ at → image_of m z (sector_put run at bytes) base k s ≡ bytes
image_put m z run base at bytes k s h e a b same =
    image_in m z (sector_put run at bytes) base k s a b ∙ (ap (sector_at (sector_put run at bytes)) same ∙ put_same run at bytes h e)

-- one sector more is pulled
pub pull_more : (image first at : ℕ) (old run new : List ℕ) → first ≤ at → at < image → RunHasSector old (image + at) → Pulled image first at old run
    → new ≡ sector_put run at (sector_at run (image + at)) → Pulled image first (at + 1) old new
pull_more image first at old run new le lt has p e =
    let here : RunHasSector run at = omega (arith, p.long) in
    let there : RunHasSector run (image + at) = omega (arith, p.long) in
    let size = sector_length run (image + at) there in
    rw e (record {
      long = put_length run at (sector_at run (image + at)) here size ∙ p.long;
      pulled = λ q a b. elim (cases_order q at) [
        | inl same ↦ ap (sector_at (sector_put run at (sector_at run (image + at)))) same
            ∙ (put_same run at (sector_at run (image + at)) here size ∙ (ap (take 512) (p.rest ((image + at) * 512) (omega arith)) ∙ ap (λ k. sector_at old (image + k)) (sym same)))
        | inr o ↦ elim o [
          | inl less ↦ put_other run at q (sector_at run (image + at)) here (omega arith) size (λ same. omega arith) ∙ p.pulled q a less
          | inr more ↦ absurd (omega arith)
        ]
      ];
      below = λ q a. put_other run at q (sector_at run (image + at)) here (omega arith) size (λ same. omega arith) ∙ p.below q a;
      rest = λ i a. put_after run at (sector_at run (image + at)) i here size (omega arith) ∙ p.rest i (omega arith);
    })
