-- What the places of a layout give, by the members that are there.
use Rattle.std.proofs.Common.{◌≡◌, ℕ, zero, suc, ◌+◌, ◌<◌, ◌≤◌, ◌≢◌, Bool, true, false, cond, ◌&&◌, nat_eq, nat_lt, List, [], refl, sym, ap, ◌∙◌, subst, inl, inr, arith}
use mathlib.Core.Path.{fun_ext}
use Rattle.std.proofs.lemmas.Bool.{cond-true, cond-false, both_ways, cases_Bool, cases_eq, cases_lt, eq-eqb, ne_eqb}
use Rattle.sector.specs.Folds.{folded}
use Rattle.layout.specs.Geometry.{Geometry, Is, Only, capacity, place_of}
use Rattle.layout.specs.Lawful.{Lawful}
use Rattle.layout.specs.declared.place.Owner.{Owner}
use Rattle.layout.specs.declared.place.Owner.TheVariants.{Datum, Parity}
use Rattle.shelf.specs.Meaning.{Meaning}
use Rattle.model.specs.Contents.{at, held, some}
use Rattle.model.specs.Crew.{Crew, absent, borne, count}
use Rattle.model.specs.Reading.{lowest}
use Rattle.model.specs.Ends.{GoesOn}
use Rattle.model.specs.May.{May, nothing}
use Rattle.model.specs.Readable.{GroupGives, InUse, Room, some_copy}
use Rattle.model.proofs.Readable.{absent_at_least, enough_read, few, none_of, other_there}
use Rattle.stage.specs.Cells.{Others}
use Rattle.stage.specs.Looks.{FoldsPlace, HasGroup, HasSector, Lies, LostPeer, NoCopy, OneSure, OthersFolded, PeerGone, Sure, gathered_on, peer_at}
use Rattle.stage.proofs.Folds.{gathered_more, gathered_skip}
use Rattle.stage.proofs.Looks.{Looking}

-- searches
pub some_at : (f : ℕ → Bool) (k n : ℕ) → k < n → f k ≡ true → some f n ≡ true
some_at f k zero lt e = absurd (omega (arith, lt))
some_at f k (suc n) lt e = elim (cases_eq k n) [
  | inl same ↦ elim (cases_Bool (some f n)) [
    | inl s ↦ cond-true (some f n) true (f n) s
    | inr s ↦ cond-false (some f n) true (f n) s ∙ (ap f (sym same) ∙ e)
  ]
  | inr ne ↦ cond-true (some f n) true (f n) (some_at f k n (omega (arith, lt, ne)) e)
]

pub some_none : (f : ℕ → Bool) (n : ℕ) → ((j : ℕ) → j < n → f j ≡ false) → some f n ≡ false
some_none f zero h = refl
some_none f (suc n) h = cond-false (some f n) true (f n) (some_none f n (λ j lt. h j (omega (arith, lt)))) ∙ h n (omega arith)

pub lowest_is : (f : ℕ → Bool) (k n : ℕ) → k < n → f k ≡ true → ((j : ℕ) → j < k → f j ≡ false) → lowest f n ≡ k
lowest_is f k zero lt e below = absurd (omega (arith, lt))
lowest_is f k (suc n) lt e below = elim (cases_eq k n) [
  | inl same ↦ cond-false (some f n) (lowest f n) n (some_none f n (λ j less. below j (omega (arith, less, same)))) ∙ sym same
  | inr ne ↦ (let under : k < n = omega (arith, lt, ne) in cond-true (some f n) (lowest f n) n (some_at f k n under e) ∙ lowest_is f k n under e below)
]

-- what a look leaves as it is
pub same_current : {a b : Meaning} → May nothing a b → (k s : ℕ) → b.current k s ≡ a.current k s
same_current m k s = elim (m.current k s) [ inl e ↦ e | inr w ↦ absurd w ]

held_same : {a b : Meaning} → May nothing a b → (k s : ℕ) → held b k s ≡ held a k s
held_same {a} {b} m k s =
    ap (λ n. cond (nat_lt k n && nat_lt s b.sectors) (b.current k s) []) m.members
    ∙ (ap (λ n. cond (nat_lt k a.members && nat_lt s n) (b.current k s) []) m.sectors
    ∙ ap (λ x. cond (nat_lt k a.members && nat_lt s a.sectors) x []) (same_current m k s))

pub at_same : {a b : Meaning} → May nothing a b → (backup : ℕ) (p : ℕ × ℕ) → at b backup p ≡ at a backup p
at_same m backup p = held_same m p.0 (3 + backup + p.1)

pub room_stays : {P : ℕ → ℕ → List ℕ → Type 0} {a b : Meaning} → May P a b → (backup : ℕ) (g : Geometry) → Room a.members a.sectors backup g → Room b.members b.sectors backup g
room_stays m backup g r = record {
  wide = (let wide = r.wide in let same = m.members in omega (arith, wide, same));
  deep = (let deep = r.deep in let same = m.sectors in omega (arith, deep, same));
}

pub use_kept : {P : ℕ → ℕ → List ℕ → Type 0} {w : Crew} {a b : Meaning} → May P a b → GoesOn w a b → (g : Geometry) (backup : ℕ) → InUse w g backup a → InUse w g backup b
use_kept m go g backup u = record { force = u.force; enough = go.enough u.enough; room = room_stays m backup g u.room }

pub use_stays : {w : Crew} {a b : Meaning} → Looking w a b → (g : Geometry) (backup : ℕ) → InUse w g backup a → InUse w g backup b
use_stays l g backup u = use_kept l.may l.goes g backup u

pub has_stays : {w : Crew} {a b : Meaning} → Looking w a b → (g : Geometry) (backup i : ℕ) → HasSector w g backup i a → HasSector w g backup i b
has_stays l g backup i h = record { of = use_stays l g backup h.of; below = h.below }

pub group_stays : {a b : Meaning} → May nothing a b → (g : Geometry) (backup x : ℕ) → HasGroup g backup x a → HasGroup g backup x b
group_stays m g backup x h = record { below = h.below; room = room_stays m backup g h.room }

pub no_copy_stays : {w : Crew} {a b : Meaning} → Looking w a b → (g : Geometry) (backup i : ℕ) → NoCopy w g backup i a → NoCopy w g backup i b
no_copy_stays {w} {a} {b} l g backup i n = record {
  has = has_stays l g backup i n.has;
  none = some_none (λ j. b.present (g.datum i j).0) g.copies (λ j lt. l.may.absent_stays (g.datum i j).0 (none_of (λ j. a.present (g.datum i j).0) g.copies n.none j lt));
}

pub lost_stays : {w : Crew} {a b : Meaning} → Looking w a b → (g : Geometry) (backup i : ℕ) → LostPeer w g backup i a → LostPeer w g backup i b
lost_stays l g backup i p = record {
  has = has_stays l g backup i p.has;
  any = p.any;
  lost = record { index = p.lost.index; below = p.lost.below; other = p.lost.other; gone = l.may.absent_stays _ p.lost.gone };
}

-- what members that are enough give
pub no_copy_gives : {w : Crew} (g : Geometry) → Lawful g → (backup i : ℕ) (a : Meaning) → NoCopy w g backup i a → GroupGives g a.present i
no_copy_gives g law backup i a n =
    elim ((enough_read g law a n.has.of.room.wide (n.has.of.force a n.has.of.enough)).readable i n.has.below) [
      | inl copy ↦ absurd (both_ways (some_copy g a.present i) n.none copy)
      | inr gives ↦ gives
    ]

pub no_copy_groups : {w : Crew} (g : Geometry) → Lawful g → (backup i : ℕ) (a : Meaning) → NoCopy w g backup i a → HasGroup g backup (g.group i) a
no_copy_groups g law backup i a n = record { below = (law.grouping.joined i (no_copy_gives g law backup i a n).any n.has.below).group; room = n.has.of.room }

pub parity_sure : {w : Crew} (g : Geometry) → Lawful g → (backup i : ℕ) (a : Meaning) → NoCopy w g backup i a → Sure w (g.parity (g.group i)).0 a
parity_sure g law backup i a n = record {
  there = λ x m go. (no_copy_gives g law backup i x (no_copy_stays (record { may = m; goes = go }) g backup i n)).parity;
}

pub peers_there : {w : Crew} (g : Geometry) → Lawful g → (backup i : ℕ) (a : Meaning) → NoCopy w g backup i a → PeerGone g (g.group i) i a → ⊥
peers_there g law backup i a n p = both_ways _ p.gone ((no_copy_gives g law backup i a n).peers p.index p.below p.other)

-- a layout in force has a member that is there
someone_there : (g : Geometry) → Lawful g → (x : Meaning) → g.members ≤ x.members → borne g x ≡ true → ((k : ℕ) → x.present k ≡ false) → ⊥
someone_there g law x wide e none =
    let lost : g.members ≤ count (absent x.present) g.members = absent_at_least x.present g.members g.members (λ j. j) (λ j lt. (lt, none j)) (λ j k a b same. same) in
    let most = few g x wide e in
    let copies = law.limits.copies_most in
    let two = law.limits.members_least in
    elim (cases_lt 0 g.groups) [
      | inl any ↦ (let loss = (law.loss.of_parity any).1 in omega (arith, lost, most, loss, two))
      | inr bare ↦ (let loss = law.loss.of_copies (omega (arith, bare)) in omega (arith, lost, most, loss, copies))
    ]

pub one_sure : {w : Crew} (g : Geometry) → Lawful g → (backup t : ℕ) (a : Meaning) → InUse w g backup a → t < 3 + backup → OneSure w t a
one_sure g law backup t a u lt = record {
  someone = λ x m go none. someone_there g law x (let wide = u.room.wide in let same = m.members in omega (arith, wide, same)) (u.force x (go.enough u.enough)) none;
  below = (let deep = u.room.deep in omega (arith, lt, deep));
}

-- with one peer lost, every other member of the layout is there
pub others_there : {w : Crew} (g : Geometry) → Lawful g → (backup i : ℕ) (a : Meaning) (p : LostPeer w g backup i a) → (m : ℕ) → m < g.members
    → (m ≢ (g.datum (g.peer (g.group i) p.lost.index) 0).0) → a.present m ≡ true
others_there g law backup i a p m lt ne =
    let here = law.grouping.joined i p.any p.has.below in
    let peer = law.grouping.peer_is (g.group i) p.lost.index here.group p.lost.below in
    other_there g law a p.has.of.room.wide (p.has.of.force a p.has.of.enough) p.any (g.datum (g.peer (g.group i) p.lost.index) 0).0 m
    (law.placing.inside (Datum (g.peer (g.group i) p.lost.index) 0) (peer.sector, law.limits.copies_some)).member lt p.lost.gone ne

pub own_there : {w : Crew} (g : Geometry) → Lawful g → (backup i : ℕ) (a : Meaning) → LostPeer w g backup i a → a.present (g.datum i 0).0 ≡ true
own_there g law backup i a p =
    let here = law.grouping.joined i p.any p.has.below in
    others_there g law backup i a p (g.datum i 0).0 (law.placing.inside (Datum i 0) (p.has.below, law.limits.copies_some)).member
    (λ same. p.lost.other (ap (g.peer (g.group i))
    (law.grouping.peers_apart (g.group i) p.lost.index here.index here.group p.lost.below here.index_below (sym same ∙ ap (λ k. (g.datum k 0).0) (sym here.is))) ∙ here.is))

pub own_sure : {w : Crew} (g : Geometry) → Lawful g → (backup i : ℕ) (a : Meaning) → LostPeer w g backup i a → Sure w (g.datum i 0).0 a
own_sure g law backup i a p = record { there = λ x m go. own_there g law backup i x (lost_stays (record { may = m; goes = go }) g backup i p) }

pub lost_parity_sure : {w : Crew} (g : Geometry) → Lawful g → (backup i : ℕ) (a : Meaning) → LostPeer w g backup i a → Sure w (g.parity (g.group i)).0 a
lost_parity_sure g law backup i a p =
    let here = law.grouping.joined i p.any p.has.below in
    record {
      there = λ x m go. (let q = lost_stays (record { may = m; goes = go }) g backup i p in
          others_there g law backup i x q (g.parity (g.group i)).0 (law.placing.inside (Parity (g.group i)) here.group).member
          (law.grouping.parity_apart (g.group i) q.lost.index here.group q.lost.below));
    }

-- what lies at a place of the layout
pub lies_at : (g : Geometry) → Lawful g → (backup : ℕ) (b : Meaning) → Room b.members b.sectors backup g → (o : Owner) → Is g o → (c : List ℕ)
    → Lies backup (place_of g o) b c → c ≡ at b backup (place_of g o)
lies_at g law backup b room o is c l =
    let offset = (law.placing.inside o is).offset in
    let most = law.limits.depth_most in
    let deep = room.deep in
    l.is (omega (arith, offset, most)) (omega (arith, offset, deep))

pub folds_at : (g : Geometry) → Lawful g → (backup : ℕ) (b : Meaning) → Room b.members b.sectors backup g → (o : Owner) → Is g o → (c d : List ℕ)
    → FoldsPlace backup (place_of g o) b c d → d ≡ folded c (at b backup (place_of g o))
folds_at g law backup b room o is c d l =
    let offset = (law.placing.inside o is).offset in
    let most = law.limits.depth_most in
    let deep = room.deep in
    l.is (omega (arith, offset, most)) (omega (arith, offset, deep))

-- a peer and its place, as the layout gives them
pub peer_place : (g : Geometry) → Lawful g → (x n p : ℕ) (q : ℕ × ℕ) → x < g.groups → n < g.peers x
    → Only p ((x < g.groups) × (n < g.peers x)) (g.peer x n) 0 → Only q ((p < capacity g) × (0 < g.copies)) (g.datum p 0) (0, 0)
    → (p ≡ g.peer x n) × (q ≡ g.datum (g.peer x n) 0)
peer_place g law x n p q below lt peer place =
    let is : p ≡ g.peer x n = peer.0 (below, lt) in
    (is, place.0 (subst (λ k. k < capacity g) (sym is) (law.grouping.peer_is x n below lt).sector, law.limits.copies_some) ∙ ap (λ k. g.datum k 0) is)

-- the peers that are folded, one more
pub none_folded : (g : Geometry) (backup x i : ℕ) (b : Meaning) (c : List ℕ) → OthersFolded g backup x i 0 b c c
none_folded g backup x i b c = record { each = λ k lt ne. absurd (omega (arith, lt)); is = refl }

pub own_skipped : (g : Geometry) (backup x i n : ℕ) (b : Meaning) (old new : List ℕ) → g.peer x n ≡ i → OthersFolded g backup x i n b old new
    → OthersFolded g backup x i (n + 1) b old new
own_skipped g backup x i n b old new same f = record {
  each = λ k lt ne. elim (cases_eq k n) [ inl e ↦ absurd (ne (ap (g.peer x) e ∙ same)) | inr other ↦ f.each k (omega (arith, lt, other)) ne ];
  is = f.is ∙ sym (gathered_skip (λ k. nat_eq (g.peer x k) i) (peer_at g b backup x) old n (eq-eqb (g.peer x n) i same));
}

pub other_folded : (g : Geometry) → Lawful g → (backup x i n : ℕ) (b c : Meaning) (old mid new read : List ℕ) → HasGroup g backup x b → n < g.peers x
    → (g.peer x n ≢ i) → May nothing b c → Others (g.datum (g.peer x n) 0).0 b c → Lies backup (g.datum (g.peer x n) 0) c read → new ≡ folded mid read
    → OthersFolded g backup x i n b old mid → OthersFolded g backup x i (n + 1) c old new
other_folded g law backup x i n b c old mid new read has lt ne m others lies e f =
    let peer = law.grouping.peer_is x n has.below lt in
    let content : read ≡ peer_at g c backup x n =
    lies_at g law backup c (room_stays m backup g has.room) (Datum (g.peer x n) 0) (peer.sector, law.limits.copies_some) read lies in
    let skip = λ (k : ℕ). nat_eq (g.peer x k) i in
    let before : mid ≡ gathered_on skip (peer_at g c backup x) old n =
    f.is ∙ ap (λ h. gathered_on skip h old n) (fun_ext (λ k. sym (at_same m backup (g.datum (g.peer x k) 0)))) in
    record {
      each = λ k less diff. elim (cases_eq k n) [
        | inl same ↦ subst (λ j. c.present (g.datum (g.peer x j) 0).0 ≡ true) (sym same) lies.there
        | inr other ↦ others (g.datum (g.peer x k) 0).0 (λ same. other (law.grouping.peers_apart x k n has.below (omega (arith, less, lt, other)) lt same))
            ∙ f.each k (omega (arith, less, other)) diff
      ];
      is = e ∙ (ap (λ t. folded t read) before ∙ (ap (folded (gathered_on skip (peer_at g c backup x) old n)) content
          ∙ sym (gathered_more skip (peer_at g c backup x) old n (ne_eqb (g.peer x n) i ne))));
    }

pub has_group : {w : Crew} (g : Geometry) → Lawful g → (backup i x : ℕ) (a : Meaning) → HasSector w g backup i a → 0 < g.groups → x ≡ g.group i
    → HasGroup g backup x a
has_group g law backup i x a has any e = record { below = subst (λ k. k < g.groups) (sym e) (law.grouping.joined i any has.below).group; room = has.of.room }
