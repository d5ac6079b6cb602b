-- Enough members have every sector. This is all that anything above takes from the count of absent members.
use Rattle.std.proofs.Common.{◌≡◌, ℕ, zero, suc, ◌+◌, ◌<◌, ◌≤◌, ◌≢◌, Bool, true, false, not, cond, min, eqb, refl, sym, ap, ◌∙◌, subst, inl, inr, arith}
use Rattle.std.proofs.lemmas.Bool.{cond-true, cond-false, both_ways, cases_Bool, cases_eq, cases_lt, eq-eqb, ne_eqb, leb-true}
use Rattle.layout.specs.Geometry.{Geometry, capacity}
use Rattle.layout.specs.Lawful.{Lawful}
use Rattle.layout.specs.declared.place.Owner.TheVariants.{Datum, Parity}
use Rattle.shelf.specs.Meaning.{Meaning}
use Rattle.model.specs.Contents.{some}
use Rattle.model.specs.Crew.{absent, borne, count}
use Rattle.model.specs.Readable.{GroupGives, Readable, some_copy}

-- member m counts as there
abbrev with : ℕ → (ℕ → Bool) → ℕ → Bool
with m p k = cond (eqb k m) true (p k)

at_other : (m : ℕ) (p : ℕ → Bool) (k : ℕ) → (k ≢ m) → with m p k ≡ p k
at_other m p k ne = rw (ne_eqb k m ne) refl

at_self : (m : ℕ) (p : ℕ → Bool) (k : ℕ) → k ≡ m → with m p k ≡ true
at_self m p k e = rw (eq-eqb k m e) refl

same_below : (p : ℕ → Bool) (m n : ℕ) → n ≤ m → count (absent (with m p)) n ≡ count (absent p) n
same_below p m zero le = refl
same_below p m (suc n) le =
    ap (λ x. x + cond (not (with m p n)) 1 0) (same_below p m n (omega (arith, le))) ∙ ap (λ b. count (absent p) n + cond (not b) 1 0) (at_other m p n (λ e. omega (arith, le, e)))

-- one absent member fewer
one_more : (p : ℕ → Bool) (m n : ℕ) → m < n → p m ≡ false → count (absent p) n ≡ count (absent (with m p)) n + 1
one_more p m zero lt gone = omega (arith, lt)
one_more p m (suc n) lt gone = elim (cases_eq n m) [
  | inl e ↦ (let there = at_self m p n e in
      let off : p n ≡ false = ap p e ∙ gone in
      let before = same_below p m n (omega (arith, e)) in
      ap (λ b. count (absent p) n + cond (not b) 1 0) off ∙ (omega (arith, before) ∙ ap (λ b. count (absent (with m p)) n + cond (not b) 1 0 + 1) (sym there)))
  | inr ne ↦ (let here = at_other m p n ne in
      let before = one_more p m n (omega (arith, lt, ne)) gone in
      ap (λ x. x + cond (not (p n)) 1 0) before ∙ (omega arith ∙ ap (λ b. count (absent (with m p)) n + cond (not b) 1 0 + 1) (sym here)))
]

-- so many different members that are absent
pub absent_at_least : (p : ℕ → Bool) (n c : ℕ) (at : ℕ → ℕ) → ((j : ℕ) → j < c → (at j < n) × (p (at j) ≡ false))
    → ((j k : ℕ) → j < c → k < c → at j ≡ at k → j ≡ k) → c ≤ count (absent p) n
absent_at_least p n zero at gone apart = omega arith
absent_at_least p n (suc c) at gone apart =
    let last = gone c (omega arith) in
    let rest : c ≤ count (absent (with (at c) p)) n =
    absent_at_least (with (at c) p) n c at
    (λ j lt. ((gone j (omega (arith, lt))).0, at_other (at c) p (at j) (λ e. (let same = apart j c (omega (arith, lt)) (omega arith) e in omega (arith, lt, same))) ∙ (gone j (omega (arith, lt))).1))
    (λ j k a b e. apart j k (omega (arith, a)) (omega (arith, b)) e) in
    let more = one_more p (at c) n last.0 last.1 in
    omega (arith, rest, more)

two_absent : (p : ℕ → Bool) (n x y : ℕ) → x < n → y < n → p x ≡ false → p y ≡ false → (y ≢ x) → 2 ≤ count (absent p) n
two_absent p n x y a b gone lost ne =
    let first = one_more p x n a gone in
    let second = one_more (with x p) y n b (at_other x p y ne ∙ lost) in
    omega (arith, first, second)

pub few : (g : Geometry) (x : Meaning) → g.members ≤ x.members → borne g x ≡ true → count (absent x.present) g.members ≤ g.loss
few g x wide e =
    let all : min g.members x.members ≡ g.members = omega (arith, wide) in
    subst (λ n. count (absent x.present) n ≤ g.loss) all (leb-true (count (absent x.present) (min g.members x.members)) g.loss e)

pub none_of : (f : ℕ → Bool) (n : ℕ) → some f n ≡ false → (j : ℕ) → j < n → f j ≡ false
none_of f zero e j lt = absurd (omega (arith, lt))
none_of f (suc n) e j lt = elim (cases_Bool (some f n)) [
  | inl more ↦ absurd (both_ways (some f (suc n)) e (cond-true (some f n) true (f n) more))
  | inr less ↦ elim (cases_eq j n) [
    | inl same ↦ ap f same ∙ (sym (cond-false (some f n) true (f n) less) ∙ e)
    | inr ne ↦ none_of f n less j (omega (arith, lt, ne))
  ]
]

-- sector i's copies are gone, and no parity can give it
no_copies_lost : (g : Geometry) → Lawful g → (x : Meaning) → g.members ≤ x.members → borne g x ≡ true → (i : ℕ) → i < capacity g
    → some_copy g x.present i ≡ false → 0 < g.groups
no_copies_lost g law x wide e i lt none = elim (cases_lt 0 g.groups) [
  | inl any ↦ any
  | inr bare ↦ (let lost : g.copies ≤ count (absent x.present) g.members =
      absent_at_least x.present g.members g.copies (λ j. (g.datum i j).0)
      (λ j below. ((law.placing.inside (Datum i j) (lt, below)).member, none_of (λ k. x.present (g.datum i k).0) g.copies none j below))
      (λ j k a b same. law.placing.apart i j k lt a b same) in
      let most = few g x wide e in
      let loss = law.loss.of_copies (omega (arith, bare)) in
      absurd (omega (arith, lost, most, loss)))
]

-- a second place on another member is then there
pub other_there : (g : Geometry) → Lawful g → (x : Meaning) → g.members ≤ x.members → borne g x ≡ true → 0 < g.groups
    → (m k : ℕ) → m < g.members → k < g.members → x.present m ≡ false → (k ≢ m) → x.present k ≡ true
other_there g law x wide e any m k a b gone ne = elim (cases_Bool (x.present k)) [
  | inl there ↦ there
  | inr lost ↦ (let two = two_absent x.present g.members m k a b gone lost ne in
      let most = few g x wide e in
      let loss = (law.loss.of_parity any).1 in
      absurd (omega (arith, two, most, loss)))
]

pub group_gives : (g : Geometry) → Lawful g → (x : Meaning) → g.members ≤ x.members → borne g x ≡ true → (i : ℕ) → i < capacity g
    → some_copy g x.present i ≡ false → GroupGives g x.present i
group_gives g law x wide e i lt none =
    let any = no_copies_lost g law x wide e i lt none in
    let here = law.grouping.joined i any lt in
    let one : 0 < g.copies = law.limits.copies_some in
    let inside : (g.datum i 0).0 < g.members = (law.placing.inside (Datum i 0) (lt, one)).member in
    let gone : x.present (g.datum i 0).0 ≡ false = none_of (λ k. x.present (g.datum i k).0) g.copies none 0 one in
    record {
      any = any;
      peers = λ b below ne. (let peer = law.grouping.peer_is (g.group i) b here.group below in
          other_there g law x wide e any (g.datum i 0).0 (g.datum (g.peer (g.group i) b) 0).0 inside
          (law.placing.inside (Datum (g.peer (g.group i) b) 0) (peer.sector, one)).member gone
          (λ same. ne (ap (g.peer (g.group i))
          (law.grouping.peers_apart (g.group i) b here.index here.group below here.index_below (same ∙ ap (λ k. (g.datum k 0).0) (sym here.is))) ∙ here.is)));
      parity = other_there g law x wide e any (g.datum i 0).0 (g.parity (g.group i)).0 inside
          (law.placing.inside (Parity (g.group i)) here.group).member gone
          (λ same. law.grouping.parity_apart (g.group i) here.index here.group here.index_below (same ∙ ap (λ k. (g.datum k 0).0) (sym here.is)));
    }

-- each sector has a copy there, or its group gives it
pub enough_read : (g : Geometry) → Lawful g → (x : Meaning) → g.members ≤ x.members → borne g x ≡ true → Readable g x.present
enough_read g law x wide e = record {
  readable = λ i lt. elim (cases_Bool (some_copy g x.present i)) [ inl copy ↦ inl copy | inr none ↦ inr (group_gives g law x wide e i lt none) ];
}
