-- The operations of the trial shelf, by its controls and its images.
use Rattle.std.proofs.Common.{◌≡◌, ℕ, zero, suc, ◌+◌, ◌*◌, ◌<◌, ◌≤◌, Bool, true, false, cond, ltb, ◌⊎◌, List, [], ◌∷◌, length, get_or, take, set, sym, refl, ap, ◌∙◌, subst, inl, inr, zero-add, arith, get_or-set_other, Ok, Err}
use Rattle.std.proofs.lemmas.Bool.{cases_Bool, cases_eq, cases_lt, cond-true, cond-false, lt-ltb, le-ltb, both_ways}
use Rattle.shelf.specs.Meaning.{FlushIn, Flushed, Flushes, OthersStay, Meaning, Sets, AnswerTells, WriteIn, Writes}
use Rattle.shelf.specs.Runs.{InRange, Pulled, image_of, sector_at, sector_put}
use Rattle.shelf.specs.Trials.{FlushedRun, Trial, TrialFlushes, TrialWrites, answer_after, answer_of, means, struck, trial_meaning}
use Rattle.shelf.specs.Answers.{Answer, done}
use Rattle.shelf.specs.declared.Failure.TheVariants.{Absent, Off, OutOfRange}
use Rattle.shelf.specs.declared.controls.Controls.{Controls}
use Rattle.shelf.proofs.Cells.{cell_inside, cell_one, image_in, image_other, image_put, image_same, member_end}

-- what an answer tells
pub tells_after : (m z : ℕ) (run : List ℕ) (d : Controls) (k : ℕ) (r : Answer) → k < m → r ≡ answer_after d k → AnswerTells r k (trial_meaning m z run d)
tells_after m z run d k r lt e =
    let here : (trial_meaning m z run d).present k ≡ get_or d.present k false = cond-true (ltb k m) _ _ (lt-ltb k m lt) in
    elim (cases_Bool d.on) [
      | inr off ↦ subst (λ a. AnswerTells a k (trial_meaning m z run d)) (sym (e ∙ cond-false d.on _ _ off)) off
      | inl on ↦ elim (cases_Bool (get_or d.present k false)) [
        | inl there ↦ subst (λ a. AnswerTells a k (trial_meaning m z run d)) (sym (e ∙ (cond-true d.on _ _ on ∙ cond-true (get_or d.present k false) _ _ there))) (on, here ∙ there)
        | inr gone ↦ subst (λ a. AnswerTells a k (trial_meaning m z run d)) (sym (e ∙ (cond-true d.on _ _ on ∙ cond-false (get_or d.present k false) _ _ gone))) (on, here ∙ gone)
      ]
    ]

-- a write that reached a present member
pub sets_reached : (d : Controls) (k : ℕ) (r : Answer) (content old new : List ℕ) → r ≡ answer_after d k → get_or d.present k false ≡ true → new ≡ content
    → Sets r content old new
sets_reached d k r content old new e there same =
    elim (cases_Bool d.on) [
      | inr off ↦ subst (λ a. Sets a content old new) (sym (e ∙ cond-false d.on _ _ off)) (inr same)
      | inl on ↦ subst (λ a. Sets a content old new) (sym (e ∙ (cond-true d.on _ _ on ∙ cond-true (get_or d.present k false) _ _ there))) same
    ]

-- what was set to false is false
pub set_false : (l : List Bool) (k : ℕ) → get_or (set l k false) k false ≡ false
set_false [] k = refl
set_false (x ∷ xs) zero = refl
set_false (x ∷ xs) (suc k) = set_false xs k

-- who is there after an operation on member k
struck_others : (c : Controls) (k j : ℕ) → (j ≡ k → ⊥) → get_or (struck c k).present j false ≡ get_or c.present j false
struck_others c k j ne =
    elim (cases_Bool c.on) [
      | inr off ↦ ap (λ (d : Controls). get_or d.present j false) (cond-false c.on _ _ off)
      | inl on ↦ ap (λ (d : Controls). get_or d.present j false) (cond-true c.on _ _ on) ∙ (elim (cases_Bool (get_or c.losing k false)) [
        | inr stays ↦ ap (λ l. get_or l j false) (cond-false (get_or c.losing k false) _ _ stays)
        | inl goes ↦ ap (λ l. get_or l j false) (cond-true (get_or c.losing k false) _ _ goes) ∙ get_or-set_other c.present k j false false ne
      ])
    ]

struck_absent : (c : Controls) (k : ℕ) → get_or c.present k false ≡ false → get_or (struck c k).present k false ≡ false
struck_absent c k gone =
    elim (cases_Bool c.on) [
      | inr off ↦ ap (λ (d : Controls). get_or d.present k false) (cond-false c.on _ _ off) ∙ gone
      | inl on ↦ ap (λ (d : Controls). get_or d.present k false) (cond-true c.on _ _ on) ∙ (elim (cases_Bool (get_or c.losing k false)) [
        | inr stays ↦ ap (λ l. get_or l k false) (cond-false (get_or c.losing k false) _ _ stays) ∙ gone
        | inl goes ↦ ap (λ l. get_or l k false) (cond-true (get_or c.losing k false) _ _ goes) ∙ set_false c.present k
      ])
    ]

-- among those that the shelf has
present_as : (m : ℕ) (c d : Controls) (j : ℕ) → get_or d.present j false ≡ get_or c.present j false
    → cond (ltb j m) (get_or d.present j false) false ≡ cond (ltb j m) (get_or c.present j false) false
present_as m c d j e = ap (λ b. cond (ltb j m) b false) e

pub others_after : (m z : ℕ) (run new : List ℕ) (c d : Controls) (k : ℕ) → k < m → d ≡ struck c k
    → OthersStay k (trial_meaning m z run c) (trial_meaning m z new d)
others_after m z run new c d k lt e =
    let same : (j : ℕ) → get_or d.present j false ≡ get_or (struck c k).present j false = λ j. ap (λ (x : Controls). get_or x.present j false) e in
    record {
      members = refl;
      sectors = refl;
      off_stays = λ off. ap (λ (x : Controls). x.on) (e ∙ cond-false c.on _ _ off) ∙ off;
      absent_stays = λ gone. ap (λ b. cond (ltb k m) b false) (same k ∙ struck_absent c k (sym (cond-true (ltb k m) _ _ (lt-ltb k m lt)) ∙ gone)) ∙ cond-true (ltb k m) false false (lt-ltb k m lt);
      others = λ j ne. present_as m c d j (same j ∙ struck_others c k j ne);
    }

-- a write that reached the member's current image
reached : (m z : ℕ) (run : List ℕ) (c : Controls) (k s : ℕ) (bytes : List ℕ) (r : Answer) → m * z * 2 * 512 ≤ length run → InRange m z k s (length bytes)
    → r ≡ answer_after (struck c k) k → get_or (struck c k).present k false ≡ true
    → WriteIn k s bytes (trial_meaning m z run c) (trial_meaning m z (sector_put run (m * z + (k * z + s)) bytes) (struck c k)) r
reached m z run c k s bytes r whole range tell there =
    let at = m * z + (k * z + s) in
    let in_image = cell_inside m z k s range.member_below range.sector_below in
    let fit : at * 512 + 512 ≤ length run = omega (arith, in_image) in
    record {
      others = others_after m z run (sector_put run at bytes) c (struck c k) k range.member_below refl;
      persists = record {
        durable = λ j t. inl (image_other m z run 0 at bytes j t (omega arith) fit range.long
            (λ a b same. omega (arith, cell_inside m z j t a b, same)));
      };
      elsewhere = λ j t apart. image_other m z run (m * z) at bytes j t (omega arith) fit range.long
          (λ a b same. apart (cell_one z j t k s b range.sector_below (cell_in_image (m * z) (j * z + t) (k * z + s) same)));
      tells = tells_after m z (sector_put run at bytes) (struck c k) k r range.member_below tell;
      sets = sets_reached (struck c k) k r bytes _ _ tell there
          (image_put m z run (m * z) at bytes k s fit range.long range.member_below range.sector_below refl);
    }
  where
    cell_in_image : (base x y : ℕ) → base + x ≡ base + y → x ≡ y
    cell_in_image base x y h = omega arith

-- and one that did not
missed : (m z : ℕ) (run : List ℕ) (c : Controls) (k s : ℕ) (bytes : List ℕ) (r : Answer) → k < m → r ≡ answer_after (struck c k) k
    → (c.on ≡ false) ⊎ (get_or (struck c k).present k false ≡ false) → WriteIn k s bytes (trial_meaning m z run c) (trial_meaning m z run (struck c k)) r
missed m z run c k s bytes r lt tell way = record {
  others = others_after m z run run c (struck c k) k lt refl;
  persists = record { durable = λ j t. inl refl };
  elsewhere = λ j t apart. refl;
  tells = tells_after m z run (struck c k) k r lt tell;
  sets = sets_same r bytes _ (λ e. elim way [
    | inl off ↦ other_than_done (struck c k) k (inl (ap (λ (d : Controls). d.on) (cond-false c.on _ _ off) ∙ off)) (sym tell ∙ e)
    | inr gone ↦ other_than_done (struck c k) k (inr gone) (sym tell ∙ e)
  ]);
}
  where
    other_than_done : (d : Controls) (k : ℕ) → (d.on ≡ false) ⊎ (get_or d.present k false ≡ false) → answer_after d k ≡ done → ⊥
    other_than_done d k way e = elim (cases_Bool d.on) [
      | inr off ↦ (let w = cond-false d.on (cond (get_or d.present k false) done (Err Absent)) (Err Off) off in let z : ◌≡◌ {A = ℕ} 0 1 = cc in omega arith)
      | inl on ↦ elim way [
        | inl off ↦ absurd (both_ways d.on off on)
        | inr gone ↦ (let w = cond-true d.on (cond (get_or d.present k false) done (Err Absent)) (Err Off) on in let v = cond-false (get_or d.present k false) done (Err Absent) gone in let z : ◌≡◌ {A = ℕ} 0 1 = cc in omega arith)
      ]
    ]

    sets_same : (r : Answer) (content old : List ℕ) → (r ≡ done → ⊥) → Sets r content old old
    sets_same (Ok x) content old ne = absurd (ne refl)
    sets_same (Err Absent) content old ne = refl
    sets_same (Err Off) content old ne = inl refl
    sets_same (Err OutOfRange) content old ne = refl

pub trial_writes : (k s : ℕ) (bytes : List ℕ) (a b : Trial) (r : Answer) → a.members * a.sectors * 2 * 512 ≤ length a.run
    → TrialWrites k s bytes a b r → Writes k s bytes (means a) (means b) r
trial_writes k s bytes a b r whole h = record {
  inside = λ q. (let f = h.inside q in
      subst (λ x. WriteIn k s bytes (means a) (means x) r) (sym f.0) (elim (cases_Bool a.controls.on) [
        | inr off ↦ subst (In q) (sym (cond-false a.controls.on _ _ off)) (missed m z run c k s bytes r q.member_below f.1 (inl off))
        | inl on ↦ elim (cases_Bool (get_or (struck c k).present k false)) [
          | inr gone ↦ subst (In q) (sym (cond-true c.on _ _ on ∙ cond-false (get_or (struck c k).present k false) _ _ gone)) (missed m z run c k s bytes r q.member_below f.1 (inr gone))
          | inl there ↦ subst (In q) (sym (cond-true c.on _ _ on ∙ cond-true (get_or (struck c k).present k false) _ _ there)) (reached m z run c k s bytes r whole q f.1 there)
        ]
      ]));
  outside = λ no. (let f = h.outside no in (f.1, ap means f.0));
}
  where
    m : ℕ
    m = a.members

    z : ℕ
    z = a.sectors

    run : List ℕ
    run = a.run

    c : Controls
    c = a.controls

    In : InRange a.members a.sectors k s (length bytes) → List ℕ → Type 0
    In q new = WriteIn k s bytes (means a) (trial_meaning a.members a.sectors new (struck a.controls k)) r

-- a flush that makes the member durable
durable_member : (m z : ℕ) (run : List ℕ) (c d : Controls) (k : ℕ) (new : List ℕ) → k < m → d ≡ struck c k → done ≡ answer_after d k
    → Pulled (m * z) (k * z) (k * z + z) run new → FlushIn k (trial_meaning m z run c) (trial_meaning m z new d) done
durable_member m z run c d k new lt e tell p =
    let current : (j t : ℕ) → image_of m z new (m * z) j t ≡ image_of m z run (m * z) j t = λ j t. image_same m z run new (m * z) j t (λ a b.
    ap (take 512) (p.rest ((m * z + (j * z + t)) * 512) (omega (arith, member_end z k m lt)))) in
    record {
      others = others_after m z run new c d k lt e;
      persists = record { durable = λ j t. durable_or m z run new k j t p };
      current = current;
      tells = tells_after m z new d k done lt tell;
      flushes = λ t. durable_now m z run new k t lt p ∙ sym (current k t);
    }
  where
    durable_now : (m z : ℕ) (run new : List ℕ) (k t : ℕ) → k < m → Pulled (m * z) (k * z) (k * z + z) run new
        → image_of m z new 0 k t ≡ image_of m z run (m * z) k t
    durable_now m z run new k t lt p = elim (cases_lt t z) [
      | inr le ↦ cond-true (ltb k m) _ _ (lt-ltb k m lt) ∙ (cond-false (ltb t z) _ _ (le-ltb t z le) ∙ sym (cond-true (ltb k m) _ _ (lt-ltb k m lt) ∙ cond-false (ltb t z) (sector_at run (m * z + (k * z + t))) _ (le-ltb t z le)))
      | inl below ↦ image_in m z new 0 k t lt below ∙ (ap (sector_at new) (zero-add (k * z + t)) ∙ (p.pulled (k * z + t) (omega arith) (omega arith) ∙ sym (image_in m z run (m * z) k t lt below)))
    ]

    durable_or : (m z : ℕ) (run new : List ℕ) (k j t : ℕ) → Pulled (m * z) (k * z) (k * z + z) run new
        → (image_of m z new 0 j t ≡ image_of m z run 0 j t) ⊎ ((image_of m z new 0 j t ≡ image_of m z run (m * z) j t) ⊎ (image_of m z new 0 j t ≡ image_of m z new (m * z) j t))
    durable_or m z run new k j t p = elim (cases_lt j m) [
      | inr le ↦ inl (cond-false (ltb j m) _ _ (le-ltb j m le) ∙ sym (cond-false (ltb j m) _ _ (le-ltb j m le)))
      | inl lt ↦ elim (cases_eq j k) [
        | inl same ↦ inr (inl (durable_now m z run new j t lt (subst (λ x. Pulled (m * z) (x * z) (x * z + z) run new) (sym same) p)))
        | inr ne ↦ inl (image_same m z run new 0 j t (λ a b. kept_cell (0 + (j * z + t)) (apart j t b ne)))
      ]
    ]
      where
        apart : (j t : ℕ) → t < z → (j ≡ k → ⊥) → (0 + (j * z + t) < k * z) ⊎ (k * z + z ≤ 0 + (j * z + t))
        apart j t b ne = elim (cases_lt j k) [
          | inl less ↦ inl (omega (arith, member_end z j k less))
          | inr more ↦ inr (omega (arith, member_end z k j (omega arith)))
        ]

        kept_cell : (q : ℕ) → (q < k * z) ⊎ (k * z + z ≤ q) → sector_at new q ≡ sector_at run q
        kept_cell q way = elim way [ inl a ↦ p.below q a | inr a ↦ ap (take 512) (p.rest (q * 512) (omega arith)) ]

-- and one that did not
undurable : (m z : ℕ) (run : List ℕ) (c : Controls) (k : ℕ) (r : Answer) → k < m → r ≡ answer_after (struck c k) k → (r ≡ done → ⊥)
    → FlushIn k (trial_meaning m z run c) (trial_meaning m z run (struck c k)) r
undurable m z run c k r lt tell ne = record {
  others = others_after m z run run c (struck c k) k lt refl;
  persists = record { durable = λ j t. inl refl };
  current = λ j t. refl;
  tells = tells_after m z run (struck c k) k r lt tell;
  flushes = nothing r _ ne;
}
  where
    nothing : (r : Answer) (b : Meaning) → (r ≡ done → ⊥) → Flushes r k b
    nothing (Ok x) b ne = absurd (ne refl)
    nothing (Err u) b ne = tt

pub trial_flushes : (k : ℕ) (a b : Trial) (r : Answer) → TrialFlushes k a b r → Flushed k (means a) (means b) r
trial_flushes k a b r h = record {
  inside = λ q. (let f = h.inside q in subst (λ x. FlushIn k (means a) (means x) r) (sym f.0) (by r b.run q f.1 f.2));
  outside = λ no. (let f = h.outside no in (f.1, ap means f.0));
}
  where
    by : (r : Answer) (new : List ℕ) → k < a.members → r ≡ answer_of a k → FlushedRun r a k new → FlushIn k (means a) (trial_meaning a.members a.sectors new (struck a.controls k)) r
    by (Ok x) new lt tell p = durable_member a.members a.sectors a.run a.controls (struck a.controls k) k new lt refl tell p
    by (Err u) new lt tell e = rw e (undurable a.members a.sectors a.run a.controls k (Err u) lt tell (λ d. let z : ◌≡◌ {A = ℕ} 0 1 = cc in omega arith))

-- the same, by other names of the same
pub pulled_as : (image first end : ℕ) (old was new now : List ℕ) → old ≡ was → now ≡ new → Pulled image first end old new → Pulled image first end was now
pulled_as image first end old was new now e f p = subst (λ l. Pulled image first end l now) e (subst (λ l. Pulled image first end old l) (sym f) p)
