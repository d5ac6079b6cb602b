-- A restart of the trial shelf, member by member.
use Rattle.std.proofs.Common.{◌≡◌, ℕ, ◌+◌, ◌*◌, ◌<◌, ◌≤◌, Bool, true, false, cond, ltb, ◌⊎◌, List, [], length, get_or, take, sym, refl, ap, ◌∙◌, subst, inl, inr, zero-add, arith}
use Rattle.std.proofs.lemmas.Bool.{cases_Bool, cases_lt, cases_order, cond-true, cond-false, lt-ltb, le-ltb, both_ways}
use Rattle.shelf.specs.Meaning.{OneContent, Restarts, Untouched}
use Rattle.shelf.specs.Runs.{Chosen, chosen_bit, chosen_of, image_of, sector_at}
use Rattle.shelf.specs.Trials.{Brought, BroughtOne, Trial, TrialRestarts, means, restarted, trial_meaning}
use Rattle.shelf.specs.declared.controls.Controls.{Controls}
use Rattle.shelf.proofs.Cells.{cell_inside, image_in, image_same, member_end}

-- the choice is made between what was there before
chosen_same : (choice image : ℕ) (old run : List ℕ) (q : ℕ) → sector_at run q ≡ sector_at old q → sector_at run (image + q) ≡ sector_at old (image + q)
    → chosen_of choice image run q ≡ chosen_of choice image old q
chosen_same choice image old run q e f = ap (λ x. cond (chosen_bit choice q) x (sector_at run q)) f ∙ ap (cond (chosen_bit choice q) (sector_at old (image + q))) e

-- a member that is not u, and one before it that is gone
other_member : (c : Controls) (k u : ℕ) → get_or c.present u false ≡ true → (u + 1 ≤ k) ⊎ (get_or c.present k false ≡ false) → (k < u) ⊎ (u < k)
other_member c k u there way = elim way [
  | inl le ↦ inr (omega arith)
  | inr gone ↦ elim (cases_order k u) [
    | inl same ↦ absurd (both_ways (get_or c.present k false) gone (ap (λ j. get_or c.present j false) same ∙ there))
    | inr o ↦ o
  ]
]

gone_of : (c : Controls) (k u : ℕ) → k < u → (u + 1 ≤ k) ⊎ (get_or c.present k false ≡ false) → get_or c.present k false ≡ false
gone_of c k u less way = elim way [ inl le ↦ absurd (omega arith) | inr gone ↦ gone ]

-- a present member more
there_more : (m z : ℕ) (c : Controls) (u : ℕ) (old run new : List ℕ) → u < m → m * z * 2 * 512 ≤ length old → get_or c.present u false ≡ true
    → Brought m z c u old run → Chosen c.choice (m * z) (u * z) (u * z + z) run new → Brought m z c (u + 1) old new
there_more m z c u old run new lt whole there b ch = record {
  long = ch.long ∙ b.long;
  durable = λ k s a t p. elim (cases_lt k u) [
    | inl less ↦ ch.below (k * z + s) (omega (arith, member_end z k u less)) ∙ b.durable k s less t p
    | inr more ↦ (let e : k ≡ u = omega arith in
        ch.here (k * z + s) (omega (arith, ap (λ x. x * z) e)) (omega (arith, ap (λ x. x * z) e))
        ∙ chosen_same c.choice (m * z) old run (k * z + s) (b.rest_durable k s (omega arith) t (inl more)) (b.rest_current k s (omega arith) t (inl more)))
  ];
  current = λ k s a t p. elim (cases_lt k u) [
    | inl less ↦ ch.between (m * z + (k * z + s)) (omega (arith, member_end z u m lt)) (omega (arith, member_end z k u less)) ∙ b.current k s less t p
    | inr more ↦ (let e : k ≡ u = omega arith in
        ch.there (k * z + s) (omega (arith, ap (λ x. x * z) e)) (omega (arith, ap (λ x. x * z) e))
        ∙ chosen_same c.choice (m * z) old run (k * z + s) (b.rest_durable k s (omega arith) t (inl more)) (b.rest_current k s (omega arith) t (inl more)))
  ];
  rest_durable = λ k s a t way. elim (other_member c k u there way) [
    | inl less ↦ ch.below (k * z + s) (omega (arith, member_end z k u less)) ∙ b.rest_durable k s a t (inr (gone_of c k u less way))
    | inr more ↦ ch.between (k * z + s) (omega (arith, member_end z u k more)) (omega (arith, cell_inside m z k s a t)) ∙ b.rest_durable k s a t (inl (omega arith))
  ];
  rest_current = λ k s a t way. elim (other_member c k u there way) [
    | inl less ↦ ch.between (m * z + (k * z + s)) (omega (arith, member_end z u m lt)) (omega (arith, member_end z k u less)) ∙ b.rest_current k s a t (inr (gone_of c k u less way))
    | inr more ↦ ap (take 512) (ch.rest ((m * z + (k * z + s)) * 512) (omega (arith, member_end z u k more))) ∙ b.rest_current k s a t (inl (omega arith))
  ];
  rest = λ i a. ch.rest i (omega (arith, member_end z u m lt)) ∙ b.rest i a;
}

-- an absent member more: nothing happens to it
gone_more : (m z : ℕ) (c : Controls) (u : ℕ) (old run : List ℕ) → get_or c.present u false ≡ false → Brought m z c u old run → Brought m z c (u + 1) old run
gone_more m z c u old run gone b = record {
  long = b.long;
  durable = λ k s a t p. b.durable k s (below k a p) t p;
  current = λ k s a t p. b.current k s (below k a p) t p;
  rest_durable = λ k s a t way. b.rest_durable k s a t (elim way [ inl le ↦ inl (omega arith) | inr g ↦ inr g ]);
  rest_current = λ k s a t way. b.rest_current k s a t (elim way [ inl le ↦ inl (omega arith) | inr g ↦ inr g ]);
  rest = b.rest;
}
  where
    below : (k : ℕ) → k < u + 1 → get_or c.present k false ≡ true → k < u
    below k a p = elim (cases_order k u) [
      | inl same ↦ absurd (both_ways (get_or c.present k false) (ap (λ j. get_or c.present j false) same ∙ gone) p)
      | inr o ↦ elim o [ inl less ↦ less | inr more ↦ absurd (omega arith) ]
    ]

pub brought_more : (m z : ℕ) (c : Controls) (u : ℕ) (old run new : List ℕ) → u < m → m * z * 2 * 512 ≤ length old → Brought m z c u old run
    → BroughtOne m z c u run new → Brought m z c (u + 1) old new
brought_more m z c u old run new lt whole b one =
    elim (cases_Bool (get_or c.present u false)) [
      | inl there ↦ there_more m z c u old run new lt whole there b (one.there there)
      | inr gone ↦ subst (Brought m z c (u + 1) old) (sym (one.gone gone)) (gone_more m z c u old run gone b)
    ]

-- a sector that a restart leaves, and one that it makes one
sector_left : (m z : ℕ) (c : Controls) (old new : List ℕ) (k s : ℕ) → Brought m z c m old new → (trial_meaning m z old c).present k ≡ false
    → Untouched (trial_meaning m z old c) (trial_meaning m z new (restarted c)) k s
sector_left m z c old new k s b gone = record {
  durable = image_same m z old new 0 k s (λ a t. ap (sector_at new) (zero-add (k * z + s)) ∙ (b.rest_durable k s a t (inr (sym (cond-true (ltb k m) _ _ (lt-ltb k m a)) ∙ gone)) ∙ ap (sector_at old) (sym (zero-add (k * z + s)))));
  current = image_same m z old new (m * z) k s (λ a t. b.rest_current k s a t (inr (sym (cond-true (ltb k m) _ _ (lt-ltb k m a)) ∙ gone)));
}

present_below : (m z : ℕ) (c : Controls) (run : List ℕ) (k : ℕ) → (trial_meaning m z run c).present k ≡ true → k < m
present_below m z c run k p = elim (cases_lt k m) [
  | inl lt ↦ lt
  | inr le ↦ absurd (both_ways ((trial_meaning m z run c).present k) (cond-false (ltb k m) _ _ (le-ltb k m le)) p)
]

sector_one : (m z : ℕ) (c : Controls) (old new : List ℕ) (k s : ℕ) → Brought m z c m old new → (trial_meaning m z old c).present k ≡ true
    → OneContent (trial_meaning m z old c) (trial_meaning m z new (restarted c)) k s
sector_one m z c old new k s b there =
    let lt : k < m = present_below m z c old k there in
    let here : get_or c.present k false ≡ true = sym (cond-true (ltb k m) _ _ (lt-ltb k m lt)) ∙ there in
    elim (cases_lt s z) [
      | inr le ↦ record {
        both = none new 0 le ∙ sym (none new (m * z) le);
        one = inl (none new (m * z) le ∙ sym (none old 0 le));
      }
      | inl t ↦
          (let set_is : image_of m z new 0 k s ≡ chosen_of c.choice (m * z) old (k * z + s) =
          image_in m z new 0 k s lt t ∙ (ap (sector_at new) (zero-add (k * z + s)) ∙ b.durable k s lt t here) in
          let cur-is : image_of m z new (m * z) k s ≡ chosen_of c.choice (m * z) old (k * z + s) =
          image_in m z new (m * z) k s lt t ∙ b.current k s lt t here in
          record {
            both = set_is ∙ sym cur-is;
            one = elim (cases_Bool (chosen_bit c.choice (k * z + s))) [
              | inl bit ↦ inr (cur-is ∙ (cond-true (chosen_bit c.choice (k * z + s)) _ _ bit ∙ sym (image_in m z old (m * z) k s lt t)))
              | inr nobit ↦ inl (cur-is ∙ (cond-false (chosen_bit c.choice (k * z + s)) _ _ nobit ∙ (ap (sector_at old) (sym (zero-add (k * z + s))) ∙ sym (image_in m z old 0 k s lt t))))
            ];
          })
    ]
  where
    none : (run : List ℕ) (base : ℕ) → z ≤ s → image_of m z run base k s ≡ []
    none run base le = elim (cases_lt k m) [
      | inl lt ↦ cond-true (ltb k m) _ _ (lt-ltb k m lt) ∙ cond-false (ltb s z) _ _ (le-ltb s z le)
      | inr ge ↦ cond-false (ltb k m) _ _ (le-ltb k m ge)
    ]

-- the relation, from the exact state
pub restarts : (a b : Trial) (r : Bool) → TrialRestarts a b r → Restarts (means a) (means b) r
restarts a b r h =
    let m = a.members in
    let z = a.sectors in
    let c = a.controls in
    let same : means b ≡ trial_meaning m z b.run (restarted c) = ap means h.after in
    subst (λ x. Restarts (means a) x r) (sym same) (record {
      members = refl;
      sectors = refl;
      answer = h.answer;
      present = λ k. refl;
      absent = λ k s gone. sector_left m z c a.run b.run k s h.brought gone;
      on = λ o k s there. sector_one m z c a.run b.run k s h.brought there;
      off = λ o k s there. inl (sector_one m z c a.run b.run k s h.brought there);
    })

-- the same, by other names of the same
pub brought_as : (m z : ℕ) (c : Controls) (u : ℕ) (old was new now : List ℕ) → old ≡ was → now ≡ new → Brought m z c u old new → Brought m z c u was now
brought_as m z c u old was new now e f b = subst (λ l. Brought m z c u l now) e (subst (λ l. Brought m z c u old l) (sym f) b)
