-- What looks show is what the definitions say.
use Rattle.std.proofs.Common.{◌≡◌, ℕ, zero, suc, ◌+◌, ◌%◌, ◌<◌, ◌≤◌, ◌≢◌, Bool, true, false, cond, not, ◌&&◌, ◌==◌, nat_eq, nat_lt, List, [], length, replicate, Ok, Result, refl, sym, ap, ◌∙◌, subst, inl, inr, add-one, arith}
use mathlib.Core.Path.{fun_ext}
use Rattle.std.proofs.lemmas.Bool.{cond-true, cond-false, both_ways, cases_Bool, cases_eq, cases_lt, eq-eqb, ne_eqb, le-ltb, lt-ltb}
use Rattle.answer.specs.declared.Fault.{Fault}
use Rattle.answer.specs.declared.Operation.TheVariants.{Read}
use Rattle.answer.specs.declared.Refused.{Refused}
use Rattle.sector.specs.Folds.{folded}
use Rattle.layout.specs.Geometry.{Geometry, Only, capacity}
use Rattle.layout.specs.Lawful.{Lawful}
use Rattle.layout.specs.declared.place.Owner.TheVariants.{Datum, Parity}
use Rattle.shelf.specs.Meaning.{Meaning}
use Rattle.model.specs.Contents.{at, gathered, held, is_there, peer_gone, rebuilt, some}
use Rattle.model.specs.Crew.{Crew}
use Rattle.model.specs.Reading.{common, laid, lowest, parity_with}
use Rattle.model.specs.Ends.{Stage}
use Rattle.model.specs.May.{nothing}
use Rattle.model.specs.Readable.{InUse, some_copy}
use Rattle.model.specs.Faults.{OnSector}
use Rattle.overlap.specs.declared.walk.Home.{Home}
use Rattle.overlap.specs.declared.walk.Home.TheVariants.{Source, Target, Backup}
use Rattle.model.proofs.Mays.{may_refl}
use Rattle.stage.proofs.Chains.{stage_as}
use Rattle.stage.specs.Done.{FromLowest}
use Rattle.stage.specs.Looks.{FoldsPlace, HasSector, HomeHas, InLayout, Lies, LostPeer, NoCopy, OnBody, OnHome, OneSure, OthersFolded, PeerGone, Shows, ShowsParity, ShowsSector, Sure, peer_at}
use Rattle.stage.proofs.Folds.{all, but, but_other, but_self, by_change, on_zeros, with_others}
use Rattle.stage.proofs.Looks.{Looking, NoneBelow, body_same, look_after}
use Rattle.stage.proofs.Places.{at_same, folds_at, has_stays, lies_at, lost_parity_sure, lost_stays, lowest_is, no_copy_groups, no_copy_stays, one_sure, others_there, own_sure, parity_sure, some_at, some_none}

held_is : (a : Meaning) (k s : ℕ) → k < a.members → s < a.sectors → held a k s ≡ a.current k s
held_is a k s lt below =
    ap (λ t. cond (t && nat_lt s a.sectors) (a.current k s) []) (lt-ltb k a.members lt) ∙ ap (λ t. cond t (a.current k s) []) (lt-ltb s a.sectors below)

-- a look whose fault is one of more
pub renamed : {A : Type 0} (w : Crew) (F G : Fault → Type 0) (a b : Meaning) (D : A → Type 0) → ((f : Fault) → F f → G f) → (r : Result A Refused)
    → Stage w nothing F a b D r → Stage w nothing G a b D r
renamed w F G a b D names r s = stage_as w a b (λ k n x p. p) names (λ x m d. d) r s

on_home : (w : Crew) (backup i : ℕ) (a b : Meaning) (f : Meaning → List ℕ) (r : Result (List ℕ) Refused) → Shows w (OnBody Read backup a) a b f r
    → Shows w (OnHome Read backup i a) a b f r
on_home w backup i a b f r s = renamed w (OnBody Read backup a) (OnHome Read backup i a) a b (λ x. x ≡ f b) (λ e n. inl n) r s

-- a sector that every member holds, from the lowest one that is there
pub lowest_holds : (t : ℕ) (b : Meaning) → ((k : ℕ) → b.present k ≡ true → k < b.members) → t < b.sectors → (content : List ℕ) → FromLowest t content b
    → content ≡ common b t
lowest_holds t b inside lt content f =
    let below = inside f.member f.lowest.there in
    f.content.inside lt ∙ (sym (held_is b f.member t below lt)
    ∙ ap (λ k. held b k t) (sym (lowest_is b.present f.member b.members below f.lowest.there f.lowest.below)))

-- by the lowest copy that is there
laid_at : (g : Geometry) (m : Meaning) (backup i j : ℕ) → j < g.copies → m.present (g.datum i j).0 ≡ true
    → ((k : ℕ) → k < j → m.present (g.datum i k).0 ≡ false) → laid g m backup i ≡ at m backup (g.datum i j)
laid_at g m backup i j lt there below =
    let f = λ (k : ℕ). is_there m (g.datum i k) in
    cond-true (some f g.copies) (at m backup (g.datum i (lowest f g.copies))) (rebuilt g m backup (g.group i) i) (some_at f j g.copies lt there)
    ∙ ap (λ k. at m backup (g.datum i k)) (lowest_is f j g.copies lt there below)

-- by the rest of its group
laid_by_group : (g : Geometry) (m : Meaning) (backup i : ℕ) → some_copy g m.present i ≡ false → laid g m backup i ≡ rebuilt g m backup (g.group i) i
laid_by_group g m backup i none =
    cond-false (some (λ k. is_there m (g.datum i k)) g.copies) (at m backup (g.datum i (lowest (λ k. is_there m (g.datum i k)) g.copies)))
    (rebuilt g m backup (g.group i) i) none

pub copy_shown : {w : Crew} (g : Geometry) → Lawful g → (backup i j : ℕ) (a b c : Meaning) (q : ℕ × ℕ) (content : List ℕ) → HasSector w g backup i a
    → Looking w a b → Looking w b c → NoneBelow g i j b → j < g.copies → Only q ((i < capacity g) × (j < g.copies)) (g.datum i j) (0, 0)
    → Lies backup q c content → content ≡ laid g c backup i
copy_shown g law backup i j a b c q content has l m none lt place lies =
    let is : q ≡ g.datum i j = place.0 (has.below, lt) in
    let here : Lies backup (g.datum i j) c content = subst (λ p. Lies backup p c content) is lies in
    let now = has_stays m g backup i (has_stays l g backup i has) in
    lies_at g law backup c now.of.room (Datum i j) (has.below, lt) content here
    ∙ sym (laid_at g c backup i j lt here.there (λ k less. m.may.absent_stays (g.datum i k).0 (none.none has.below k less (omega (arith, less, lt)))))

pub group_shown : {w : Crew} (g : Geometry) (backup i n : ℕ) (a b d : Meaning) (r : Result (List ℕ) Refused) → HasSector w g backup i a → Looking w a b
    → NoneBelow g i n b → g.copies ≤ n → (NoCopy w g backup i b → Shows w (OnBody Read backup b) b d (λ m. rebuilt g m backup (g.group i) i) r)
    → Shows w (OnBody Read backup a) a d (λ m. laid g m backup i) r
group_shown {w} g backup i n a b d r has l none end shows =
    let gone : NoCopy w g backup i b = record {
      has = has_stays l g backup i has;
      none = some_none (λ j. b.present (g.datum i j).0) g.copies (λ j lt. none.none has.below j (omega (arith, lt, end)) lt);
    } in
    look_after (OnBody Read backup b) (OnBody Read backup a) (λ x. x ≡ rebuilt g d backup (g.group i) i) (λ x. x ≡ laid g d backup i) l (body_same Read backup l.may)
    (λ x m e. e ∙ sym (laid_by_group g d backup i (no_copy_stays m g backup i gone).none)) r (shows gone)

-- a lost sector: its peers, and then the parity
pub parity_folded : {w : Crew} (g : Geometry) → Lawful g → (backup i x : ℕ) (a b d : Meaning) (content : List ℕ) (p : ℕ × ℕ) (r : Result (List ℕ) Refused)
    → x ≡ g.group i → NoCopy w g backup i a → Looking w a b → OthersFolded g backup x i (g.peers x) b (replicate 512 0) content
    → Only p (x < g.groups) (g.parity x) (0, 0)
    → (Sure w p.0 b → Stage w nothing (OnBody Read backup b) b d (λ y. FoldsPlace backup p d content y) r)
    → Shows w (OnBody Read backup a) a d (λ m. rebuilt g m backup x i) r
parity_folded {w} g law backup i x a b d content p r e n l others place stage =
    let now : NoCopy w g backup i b = no_copy_stays l g backup i n in
    let has : x < g.groups = subst (λ k. k < g.groups) (sym e) (no_copy_groups g law backup i b now).below in
    let is : p ≡ g.parity x = place.0 has in
    let sure : Sure w p.0 b = subst (λ q. Sure w q.0 b) (sym is) (subst (λ k. Sure w (g.parity k).0 b) (sym e) (parity_sure g law backup i b now)) in
    look_after (OnBody Read backup b) (OnBody Read backup a) (λ y. FoldsPlace backup p d content y) (λ y. y ≡ rebuilt g d backup x i) l (body_same Read backup l.may)
    (λ y m f. folds_at g law backup d (has_stays m g backup i now.has).of.room (Parity x) has content y (subst (λ q. FoldsPlace backup q d content y) is f)
    ∙ ap (λ t. folded t (at d backup (g.parity x))) (others.is ∙ (on_zeros (λ k. nat_eq (g.peer x k) i) (peer_at g b backup x) (g.peers x)
    ∙ ap (λ h. gathered (λ k. nat_eq (g.peer x k) i) h (g.peers x)) (fun_ext (λ k. sym (at_same m.may backup (g.datum (g.peer x k) 0)))))))
    r (stage sure)

-- what a group holds once sector i holds x
abbrev due : Geometry → Meaning → (backup i : ℕ) → List ℕ → ℕ → List ℕ
due g m backup i x k = cond (g.peer (g.group i) k == i) x (laid g m backup (g.peer (g.group i) k))

due_gathered : (g : Geometry) (m : Meaning) (backup i : ℕ) (x : List ℕ) → 0 < g.groups
    → gathered all (due g m backup i x) (g.peers (g.group i)) ≡ parity_with g m backup i x
due_gathered g m backup i x any = sym (cond-true (nat_lt 0 g.groups) (gathered all (due g m backup i x) (g.peers (g.group i))) (replicate 512 0) (lt-ltb 0 g.groups any))

due_own : (g : Geometry) (m : Meaning) (backup i : ℕ) (x : List ℕ) (k : ℕ) → g.peer (g.group i) k ≡ i → due g m backup i x k ≡ x
due_own g m backup i x k e = cond-true (g.peer (g.group i) k == i) x (laid g m backup (g.peer (g.group i) k)) (eq-eqb (g.peer (g.group i) k) i e)

due_other : (g : Geometry) (m : Meaning) (backup i : ℕ) (x : List ℕ) (k : ℕ) → (g.peer (g.group i) k ≢ i) → due g m backup i x k ≡ laid g m backup (g.peer (g.group i) k)
due_other g m backup i x k ne = cond-false (g.peer (g.group i) k == i) x (laid g m backup (g.peer (g.group i) k)) (ne_eqb (g.peer (g.group i) k) i ne)

due_there : (g : Geometry) → Lawful g → (m : Meaning) (backup i : ℕ) (x : List ℕ) (k : ℕ) → (g.peer (g.group i) k ≢ i)
    → m.present (g.datum (g.peer (g.group i) k) 0).0 ≡ true → due g m backup i x k ≡ peer_at g m backup (g.group i) k
due_there g law m backup i x k ne there =
    due_other g m backup i x k ne ∙ laid_at g m backup (g.peer (g.group i) k) 0 law.limits.copies_some there (λ j lt. absurd (omega (arith, lt)))

-- two indexes of one peer
one_index : (g : Geometry) → Lawful g → (x j k : ℕ) → x < g.groups → j < g.peers x → k < g.peers x → g.peer x j ≡ g.peer x k → j ≡ k
one_index g law x j k below a b e = law.grouping.peers_apart x j k below a b (ap (λ p. (g.datum p 0).0) e)

-- by the other peers
pub parity_by_others : (g : Geometry) → Lawful g → (backup i x : ℕ) (m : Meaning) (datum y : List ℕ) → 0 < g.groups → i < capacity g → x ≡ g.group i
    → length datum ≡ 512 → OthersFolded g backup x i (g.peers x) m datum y → y ≡ parity_with g m backup i datum
parity_by_others g law backup i x m datum y any below e long folded_x =
    let f : OthersFolded g backup (g.group i) i (g.peers (g.group i)) m datum y = subst (λ k. OthersFolded g backup k i (g.peers k) m datum y) e folded_x in
    let here = law.grouping.joined i any below in
    let skip = λ (k : ℕ). nat_eq (g.peer (g.group i) k) i in
    f.is ∙ (with_others (due g m backup i datum) (peer_at g m backup (g.group i)) skip datum here.index (g.peers (g.group i)) here.index_below long
    (due_own g m backup i datum here.index here.is)
    (record {
      skips = λ k lt. elim (cases_eq k here.index) [
        | inl same ↦ but_self here.index all k same ∙ sym (eq-eqb (g.peer (g.group i) k) i (ap (g.peer (g.group i)) same ∙ here.is))
        | inr ne ↦ but_other here.index all k ne
            ∙ sym (ne_eqb (g.peer (g.group i) k) i (λ own. ne (one_index g law (g.group i) k here.index here.group lt here.index_below (own ∙ sym here.is))))
      ];
      gives = λ k lt s. (let ne : g.peer (g.group i) k ≢ i = λ own. both_ways (skip k) s (eq-eqb (g.peer (g.group i) k) i own) in
          due_there g law m backup i datum k ne (f.each k lt ne));
    })
    ∙ due_gathered g m backup i datum any)

-- by the change, where another peer is lost
change_is : {w : Crew} (g : Geometry) → Lawful g → (backup i : ℕ) (m : Meaning) (datum : List ℕ) → LostPeer w g backup i m → length datum ≡ 512
    → folded (folded datum (at m backup (g.datum i 0))) (at m backup (g.parity (g.group i))) ≡ parity_with g m backup i datum
change_is g law backup i m datum p long =
    let x = g.group i in
    let d = p.lost.index in
    let here = law.grouping.joined i p.any p.has.below in
    let j = here.index in
    let peer = law.grouping.peer_is x d here.group p.lost.below in
    let skip = λ (k : ℕ). nat_eq (g.peer x k) (g.peer x d) in
    let apart : d ≢ j = λ same. p.lost.other (ap (g.peer x) same ∙ here.is) in
    let one : g.copies ≡ 1 = (law.loss.of_parity p.any).0 in
    let none : some_copy g m.present (g.peer x d) ≡ false =
    some_none (λ k. m.present (g.datum (g.peer x d) k).0) g.copies
    (λ k lt. ap (λ n. m.present (g.datum (g.peer x d) n).0) (let first : k ≡ 0 = omega (arith, lt, one) in first) ∙ p.lost.gone) in
    let other : due g m backup i datum d ≡ folded (gathered skip (peer_at g m backup x) (g.peers x)) (at m backup (g.parity x)) =
    due_other g m backup i datum d p.lost.other ∙ (laid_by_group g m backup (g.peer x d) none ∙ ap (λ k. rebuilt g m backup k (g.peer x d)) peer.group) in
    let self : skip d ≡ true = eq-eqb (g.peer x d) (g.peer x d) refl in
    let differs : (k : ℕ) → k < g.peers x → (k ≢ d) → skip k ≡ false =
    λ k lt ne. ne_eqb (g.peer x k) (g.peer x d) (λ same. ne (one_index g law x k d here.group lt p.lost.below same)) in
    ap (λ t. folded (folded datum (at m backup (g.datum t 0))) (at m backup (g.parity x))) (sym here.is)
    ∙ (by_change (due g m backup i datum) (peer_at g m backup x) skip datum (at m backup (g.parity x)) j d (g.peers x) here.index_below p.lost.below apart long
    (due_own g m backup i datum j here.is) other (differs j here.index_below (λ same. apart (sym same)))
    (record {
      skips = λ k lt. elim (cases_eq k d) [
        | inl same ↦ but_self d (but j all) k same ∙ sym (but_other j skip k (λ h. apart (sym same ∙ h)) ∙ (ap skip same ∙ self))
        | inr ne ↦ but_other d (but j all) k ne ∙ elim (cases_eq k j) [
          | inl own ↦ but_self j all k own ∙ sym (but_self j skip k own)
          | inr away ↦ but_other j all k away ∙ sym (but_other j skip k away ∙ differs k lt ne)
        ]
      ];
      gives = λ k lt s. (let away : k ≢ j = λ own. both_ways (but j skip k) s (but_self j skip k own) in
          let ne : k ≢ d = λ same. both_ways (but j skip k) s (but_other j skip k away ∙ (ap skip same ∙ self)) in
          let inside = law.grouping.peer_is x k here.group lt in
          due_there g law m backup i datum k (λ own. away (one_index g law x k j here.group lt here.index_below (own ∙ sym here.is)))
          (others_there g law backup i m p (g.datum (g.peer x k) 0).0 (law.placing.inside (Datum (g.peer x k) 0) (inside.sector, law.limits.copies_some)).member
          (λ same. ne (law.grouping.peers_apart x k d here.group lt p.lost.below same))));
    })
    ∙ due_gathered g m backup i datum p.any)

pub change_sure : {w : Crew} (g : Geometry) → Lawful g → (backup i : ℕ) (a : Meaning) (q : ℕ × ℕ) → LostPeer w g backup i a
    → Only q ((i < capacity g) × (0 < g.copies)) (g.datum i 0) (0, 0) → Sure w q.0 a
change_sure {w} g law backup i a q p place =
    subst (λ t. Sure w t.0 a) (sym (place.0 (p.has.below, law.limits.copies_some))) (own_sure g law backup i a p)

pub parity_changed : {w : Crew} (g : Geometry) → Lawful g → (backup i x : ℕ) (a b d : Meaning) (datum mid : List ℕ) (q p : ℕ × ℕ) (r : Result (List ℕ) Refused)
    → x ≡ g.group i → length datum ≡ 512 → LostPeer w g backup i a → Looking w a b
    → Only q ((i < capacity g) × (0 < g.copies)) (g.datum i 0) (0, 0) → Only p (x < g.groups) (g.parity x) (0, 0) → FoldsPlace backup q b datum mid
    → (Sure w p.0 b → Stage w nothing (OnBody Read backup b) b d (λ y. FoldsPlace backup p d mid y) r)
    → Shows w (OnBody Read backup a) a d (λ m. parity_with g m backup i datum) r
parity_changed {w} g law backup i x a b d datum mid q p r e long lost l own place first stage =
    let now : LostPeer w g backup i b = lost_stays l g backup i lost in
    let here = law.grouping.joined i lost.any lost.has.below in
    let copy = law.limits.copies_some in
    let is : p ≡ g.parity (g.group i) = place.0 (subst (λ k. k < g.groups) (sym e) here.group) ∙ ap g.parity e in
    let sure : Sure w p.0 b = subst (λ t. Sure w t.0 b) (sym is) (lost_parity_sure g law backup i b now) in
    let old : mid ≡ folded datum (at b backup (g.datum i 0)) =
    folds_at g law backup b now.has.of.room (Datum i 0) (lost.has.below, copy) datum mid (subst (λ t. FoldsPlace backup t b datum mid) (own.0 (lost.has.below, copy)) first) in
    look_after (OnBody Read backup b) (OnBody Read backup a) (λ y. FoldsPlace backup p d mid y) (λ y. y ≡ parity_with g d backup i datum) l (body_same Read backup l.may)
    (λ y m f. folds_at g law backup d (has_stays m g backup i now.has).of.room (Parity (g.group i)) here.group mid y (subst (λ t. FoldsPlace backup t d mid y) is f)
    ∙ (ap (λ t. folded t (at d backup (g.parity (g.group i)))) (old ∙ ap (folded datum) (sym (at_same m.may backup (g.datum i 0))))
    ∙ change_is g law backup i d datum (lost_stays m g backup i now) long))
    r (stage sure)

-- the search for a lost peer
pub gone_at : (g : Geometry) (a : Meaning) (x i n : ℕ) → (g.peer x n ≢ i) → a.present (g.datum (g.peer x n) 0).0 ≡ false → peer_gone g a x i n ≡ true
gone_at g a x i n ne gone =
    ap (λ t. not t && not (is_there a (g.datum (g.peer x n) 0))) (ne_eqb (g.peer x n) i ne) ∙ ap not gone

pub own_not_gone : (g : Geometry) (a : Meaning) (x i n : ℕ) → g.peer x n ≡ i → peer_gone g a x i n ≡ false
own_not_gone g a x i n own = ap (λ t. not t && not (is_there a (g.datum (g.peer x n) 0))) (eq-eqb (g.peer x n) i own)

pub there_not_gone : (g : Geometry) (a : Meaning) (x i n : ℕ) → a.present (g.datum (g.peer x n) 0).0 ≡ true → peer_gone g a x i n ≡ false
there_not_gone g a x i n there = elim (cases_eq (g.peer x n) i) [
  | inl own ↦ own_not_gone g a x i n own
  | inr ne ↦ ap (λ t. not t && not (is_there a (g.datum (g.peer x n) 0))) (ne_eqb (g.peer x n) i ne) ∙ ap not there
]

pub none_more : (f : ℕ → Bool) (n : ℕ) → some f n ≡ false → f n ≡ false → some f (n + 1) ≡ false
none_more f n before last = ap (some f) (add-one n) ∙ (cond-false (some f n) true (f n) before ∙ last)

pub peer_lost : (g : Geometry) (a : Meaning) (x i n : ℕ) → n ≤ g.peers x → some (peer_gone g a x i) n ≡ true → PeerGone g x i a
peer_lost g a x i zero le e = absurd (both_ways false refl e)
peer_lost g a x i (suc n) le e = elim (cases_Bool (some (peer_gone g a x i) n)) [
  | inl s ↦ peer_lost g a x i n (omega (arith, le)) s
  | inr s ↦ (let last : peer_gone g a x i n ≡ true = sym (cond-false (some (peer_gone g a x i) n) true (peer_gone g a x i n) s) ∙ e in
      record {
        index = n;
        below = omega (arith, le);
        other = λ own. both_ways (peer_gone g a x i n) (own_not_gone g a x i n own) last;
        gone = elim (cases_Bool (a.present (g.datum (g.peer x n) 0).0)) [
          | inl there ↦ absurd (both_ways (peer_gone g a x i n) (there_not_gone g a x i n there) last)
          | inr gone ↦ gone
        ];
      })
]

-- what a home's layout shows is what the home shows
pub shown_at : (h : Home) {w : Crew} (s t x : Geometry) (backup i : ℕ) (a b : Meaning) (r : Result (List ℕ) Refused) → InLayout h s t x
    → (HasSector w x backup i a → Shows w (OnBody Read backup a) a b (λ m. laid x m backup i) r) → HomeHas h w s t backup i a → ShowsSector h w s t backup i a b r
shown_at Source {w} s t x backup i a b r is shows has = on_home w backup i a b (λ m. laid s m backup i) r
    (subst (λ g. Shows w (OnBody Read backup a) a b (λ m. laid g m backup i) r) is (shows (subst (λ g. HasSector w g backup i a) (sym is) has)))
shown_at Target {w} s t x backup i a b r is shows has = on_home w backup i a b (λ m. laid t m backup i) r
    (subst (λ g. Shows w (OnBody Read backup a) a b (λ m. laid g m backup i) r) is (shows (subst (λ g. HasSector w g backup i a) (sym is) has)))
shown_at Backup {w} s t x backup i a b r is shows has = absurd is

pub slot_shown : (h : Home) {w : Crew} (s t : Geometry) → Lawful s → (backup i : ℕ) (a b : Meaning) (r : Result (List ℕ) Refused) → h ≡ Backup → 0 < backup
    → (OneSure w (3 + i % backup) a → Shows w (OnSector Read a (3 + i % backup)) a b (λ m. common m (3 + i % backup)) r)
    → HomeHas h w s t backup i a → ShowsSector h w s t backup i a b r
slot_shown h {w} s t law backup i a b r is some shows has =
    let use_it : InUse w s backup a = subst (λ k. HomeHas k w s t backup i a) is has in
    let below : i % backup < backup = omega (arith, some) in
    subst (λ k. ShowsSector k w s t backup i a b r) (sym is)
    (renamed w (OnSector Read a (3 + i % backup)) (OnHome Read backup i a) a b (λ x. x ≡ common b (3 + i % backup)) (λ f n. inr n) r
    (shows (one_sure s law backup (3 + i % backup) a use_it (omega (arith, below)))))

pub parity_at_home : (h : Home) {w : Crew} (s t x : Geometry) (backup i : ℕ) (datum : List ℕ) (a b : Meaning) (r : Result (List ℕ) Refused) → InLayout h s t x
    → (HasSector w x backup i a → Shows w (OnBody Read backup a) a b (λ m. parity_with x m backup i datum) r) → HomeHas h w s t backup i a
    → ShowsParity h w s t backup i datum a b r
parity_at_home Source {w} s t x backup i datum a b r is shows has =
    subst (λ g. Shows w (OnBody Read backup a) a b (λ m. parity_with g m backup i datum) r) is (shows (subst (λ g. HasSector w g backup i a) (sym is) has))
parity_at_home Target {w} s t x backup i datum a b r is shows has =
    subst (λ g. Shows w (OnBody Read backup a) a b (λ m. parity_with g m backup i datum) r) is (shows (subst (λ g. HasSector w g backup i a) (sym is) has))
parity_at_home Backup {w} s t x backup i datum a b r is shows has = absurd is

pub no_parity_at_slot : (h : Home) {w : Crew} (s t : Geometry) (backup i : ℕ) (datum : List ℕ) (a : Meaning) → h ≡ Backup
    → ShowsParity h w s t backup i datum a a (Ok (replicate 512 0))
no_parity_at_slot h {w} s t backup i datum a is =
    subst (λ k. ShowsParity k w s t backup i datum a a (Ok (replicate 512 0))) (sym is) (may_refl a, record { on = λ e. e; enough = λ e. e }, refl)

-- without groups there is no parity
pub no_parity : (g : Geometry) (m : Meaning) (backup i : ℕ) (x : List ℕ) → (0 < g.groups → ⊥) → parity_with g m backup i x ≡ replicate 512 0
no_parity g m backup i x none = elim (cases_lt 0 g.groups) [
  | inl any ↦ absurd (none any)
  | inr bare ↦ cond-false (nat_lt 0 g.groups) (gathered all (due g m backup i x) (g.peers (g.group i))) (replicate 512 0) (le-ltb 0 g.groups bare)
]
