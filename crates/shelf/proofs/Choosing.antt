-- A restart makes one content of two, sector by sector.
use Rattle.std.proofs.Common.{◌≡◌, ℕ, ◌+◌, ◌*◌, ◌<◌, ◌≤◌, cond, ◌⊎◌, List, length, take, drop, sym, refl, ap, ◌∙◌, inl, inr, arith}
use Rattle.std.proofs.lemmas.Bool.{cases_Bool, cases_order, cond-true, cond-false}
use Rattle.shelf.specs.Runs.{Chosen, RunHasSector, chosen_bit, chosen_of, sector_at, sector_put}
use Rattle.shelf.proofs.Cells.{put_after, put_length, put_other, put_same, sector_length}

-- one sector was written over by another, which is then what both hold
record Joined (run new : List ℕ) (from to : ℕ) : Type 0 where
  long : length new ≡ length run
  to_is : sector_at new to ≡ sector_at run from
  from_is : sector_at new from ≡ sector_at run from
  others : (q : ℕ) → RunHasSector run q → (q ≡ to → ⊥) → sector_at new q ≡ sector_at run q
  rest : (i : ℕ) → to * 512 + 512 ≤ i → drop i new ≡ drop i run

join : (run new : List ℕ) (from to : ℕ) → RunHasSector run from → RunHasSector run to → (from ≡ to → ⊥) → new ≡ sector_put run to (sector_at run from) → Joined run new from to
join run new from to hf ht ne e =
    let size = sector_length run from hf in
    rw e (record {
      long = put_length run to (sector_at run from) ht size;
      to_is = put_same run to (sector_at run from) ht size;
      from_is = put_other run to from (sector_at run from) ht hf size ne;
      others = λ q h d. put_other run to q (sector_at run from) ht h size d;
      rest = λ i a. put_after run to (sector_at run from) i ht size a;
    })

-- either way of the choice: from and to are the two sectors
step : (choice image first at : ℕ) (old run new : List ℕ) (from to : ℕ) → first ≤ at → at < image → RunHasSector old (image + at)
    → ((from ≡ image + at) × (to ≡ at)) ⊎ ((from ≡ at) × (to ≡ image + at)) → chosen_of choice image old at ≡ sector_at old from
    → Chosen choice image first at old run → Joined run new from to → Chosen choice image first (at + 1) old new
step choice image first at old run new from to le lt has way pick c j =
    let from_old : sector_at run from ≡ sector_at old from = elim way [
      | inl w ↦ ap (sector_at run) w.0 ∙ (ap (take 512) (c.rest ((image + at) * 512) (omega arith)) ∙ ap (sector_at old) (sym w.0))
      | inr w ↦ ap (sector_at run) w.0 ∙ (c.between at (omega arith) (omega arith) ∙ ap (sector_at old) (sym w.0))
    ] in
    let one : chosen_of choice image old at ≡ sector_at run from = pick ∙ sym from_old in
    record {
      long = j.long ∙ c.long;
      here = λ q a b. elim (cases_order q at) [
        | inl same ↦ ap (sector_at new) same ∙ (elim way [
          | inl w ↦ ap (sector_at new) (sym w.1) ∙ j.to_is
          | inr w ↦ ap (sector_at new) (sym w.0) ∙ j.from_is
        ] ∙ (sym one ∙ ap (chosen_of choice image old) (sym same)))
        | inr o ↦ elim o [
          | inl less ↦ j.others q (omega (arith, c.long)) (λ d. elim way [ inl w ↦ omega arith | inr w ↦ omega arith ]) ∙ c.here q a less
          | inr more ↦ absurd (omega arith)
        ]
      ];
      there = λ q a b. elim (cases_order q at) [
        | inl same ↦ ap (λ k. sector_at new (image + k)) same ∙ (elim way [
          | inl w ↦ ap (sector_at new) (sym w.0) ∙ j.from_is
          | inr w ↦ ap (sector_at new) (sym w.1) ∙ j.to_is
        ] ∙ (sym one ∙ ap (chosen_of choice image old) (sym same)))
        | inr o ↦ elim o [
          | inl less ↦ j.others (image + q) (omega (arith, c.long)) (λ d. elim way [ inl w ↦ omega arith | inr w ↦ omega arith ]) ∙ c.there q a less
          | inr more ↦ absurd (omega arith)
        ]
      ];
      below = λ q a. j.others q (omega (arith, c.long)) (λ d. elim way [ inl w ↦ omega arith | inr w ↦ omega arith ]) ∙ c.below q a;
      between = λ q a b. j.others q (omega (arith, c.long)) (λ d. elim way [ inl w ↦ omega arith | inr w ↦ omega arith ]) ∙ c.between q (omega arith) b;
      rest = λ i a. j.rest i (elim way [ inl w ↦ omega arith | inr w ↦ omega arith ]) ∙ c.rest i (omega arith);
    }

pub choose_more : (choice image first at : ℕ) (old run new : List ℕ) → first ≤ at → at < image → RunHasSector old (image + at) → Chosen choice image first at old run
    → new ≡ cond (chosen_bit choice at) (sector_put run at (sector_at run (image + at))) (sector_put run (image + at) (sector_at run at))
    → Chosen choice image first (at + 1) old new
choose_more choice image first at old run new le lt has c e =
    let there : RunHasSector run (image + at) = omega (arith, c.long) in
    let here : RunHasSector run at = omega (arith, c.long) in
    elim (cases_Bool (chosen_bit choice at)) [
      | inl yes-bit ↦ step choice image first at old run new (image + at) at le lt has (inl (refl, refl)) (cond-true (chosen_bit choice at) _ _ yes-bit) c
          (join run new (image + at) at there here (λ d. omega arith) (e ∙ cond-true (chosen_bit choice at) _ _ yes-bit))
      | inr no-bit ↦ step choice image first at old run new at (image + at) le lt has (inr (refl, refl)) (cond-false (chosen_bit choice at) _ _ no-bit) c
          (join run new at (image + at) here there (λ d. omega arith) (e ∙ cond-false (chosen_bit choice at) _ _ no-bit))
    ]
