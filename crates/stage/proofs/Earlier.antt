-- What members gave of a sector, from an earlier time on.
use Rattle.std.proofs.Common.{◌≡◌, ℕ, zero, suc, ◌+◌, ◌*◌, ◌/◌, ◌%◌, ◌<◌, Bool, true, false, cond, ◌&&◌, min, nat_eq, nat_le, nat_lt, List, [], refl, sym, ap, ◌∙◌, inl, inr, arith}
use Rattle.std.proofs.lemmas.Bool.{both_ways, cases_Bool, cond-false, cond-true}
use Rattle.head.specs.declared.TheConstants.{SLOTS_AT}
use Rattle.sector.specs.Folds.{folded}
use Rattle.layout.specs.Geometry.{Geometry, Is, place_of}
use Rattle.layout.specs.Lawful.{Lawful}
use Rattle.layout.specs.declared.place.Owner.{Owner}
use Rattle.layout.specs.declared.place.Owner.TheVariants.{Datum, Parity}
use Rattle.overlap.specs.Rows.{owner_row}
use Rattle.overlap.specs.declared.walk.Home.{Home}
use Rattle.overlap.specs.declared.walk.Home.TheVariants.{Source, Target, Backup}
use Rattle.shelf.specs.Meaning.{Meaning}
use Rattle.model.specs.Contents.{at, gathered, held, rebuilt, some}
use Rattle.model.specs.Crew.{Crew, absent, count, enough, enough_by}
use Rattle.model.specs.May.{May}
use Rattle.model.specs.Readable.{some_copy}
use Rattle.model.specs.Reading.{common, content_at, home_by, laid, lowest}
use Rattle.model.specs.Steps.{SeenBy, seen_by}
use Rattle.model.specs.declared.phase.Phase.{Phase}
use Rattle.model.specs.declared.phase.Phase.TheVariants.{Before, Moving, After, Shut}
use Rattle.model.proofs.Mays.{may_refl}
use Rattle.model.proofs.Readable.{enough_read}
use Rattle.model.proofs.Seeing.{OfCurrent, seen}
use Rattle.model.specs.Ends.{GoesOn}
use Rattle.model.specs.Knowing.{Volume}
use Rattle.stage.specs.Endings.{HasSize}
use Rattle.stage.specs.Looks.{HasSector, HomeHas}
use Rattle.stage.specs.Rows.{InRow, MayRead}
use Rattle.stage.proofs.Endings.{size_kept}
use Rattle.stage.proofs.Folds.{gathered_alike}
use Rattle.stage.proofs.Loops.{was_present}

-- shelves of one size that hold the same in some cells
pub record Alike (C : ℕ → ℕ → Type 0) (a b : Meaning) : Type 0 where
  pub members : b.members ≡ a.members
  pub sectors : b.sectors ≡ a.sectors
  pub current : (k n : ℕ) → C k n → b.current k n ≡ a.current k n

held_alike : {C : ℕ → ℕ → Type 0} {a b : Meaning} (there : ℕ → Bool) → Alike C a b → (k n : ℕ) → C k n → held (seen_by there b) k n ≡ held (seen_by there a) k n
held_alike {C} {a} {b} there e k n c =
    ap (λ j. cond (nat_lt k j && nat_lt n b.sectors) (b.current k n) []) e.members
    ∙ (ap (λ j. cond (nat_lt k a.members && nat_lt n j) (b.current k n) []) e.sectors
    ∙ ap (λ x. cond (nat_lt k a.members && nat_lt n a.sectors) x []) (e.current k n c))

place_alike : {a b : Meaning} (there : ℕ → Bool) (g : Geometry) (backup row : ℕ) → Alike (InRow g backup row) a b → (o : Owner) → Is g o → owner_row g o ≡ row
    → at (seen_by there b) backup (place_of g o) ≡ at (seen_by there a) backup (place_of g o)
place_alike there g backup row e o is in_row =
    held_alike there e (place_of g o).0 (SLOTS_AT + backup + (place_of g o).1) (record { owner = o; is = is; which = in_row; member = refl; sector = refl })

lowest_below : (f : ℕ → Bool) (n : ℕ) → some f n ≡ true → lowest f n < n
lowest_below f zero e = absurd (both_ways false refl e)
lowest_below f (suc n) e = elim (cases_Bool (some f n)) [
  | inl s ↦ (let is = cond-true (some f n) (lowest f n) n s in let lt = lowest_below f n s in omega (arith, is, lt))
  | inr s ↦ (let is = cond-false (some f n) (lowest f n) n s in omega (arith, is))
]

-- the group of sector i gives the same
rebuilt_alike : {a b : Meaning} (there : ℕ → Bool) (g : Geometry) → Lawful g → (backup i : ℕ) → Alike (InRow g backup (i / g.row_len)) a b → 0 < g.groups
    → i < g.rows * g.row_len → rebuilt g (seen_by there b) backup (g.group i) i ≡ rebuilt g (seen_by there a) backup (g.group i) i
rebuilt_alike {a} {b} there g law backup i e any below =
    let here = law.grouping.joined i any below in
    let x = g.group i in
    let first : g.peer x 0 / g.row_len ≡ i / g.row_len = sym (law.grouping.peer_is x here.index here.group here.index_below).row ∙ ap (λ j. j / g.row_len) here.is in
    let peer_at = λ (m : Meaning) (j : ℕ). at m backup (g.datum (g.peer x j) 0) in
    let skip = λ (j : ℕ). nat_eq (g.peer x j) i in
    ap (λ t. folded t (at (seen_by there b) backup (g.parity x)))
    (gathered_alike skip skip (peer_at (seen_by there b)) (peer_at (seen_by there a)) (g.peers x)
    (record {
      skips = λ k lt. refl;
      gives = λ k lt out. (let peer = law.grouping.peer_is x k here.group lt in
          place_alike there g backup (i / g.row_len) e (Datum (g.peer x k) 0) (peer.sector, law.limits.copies_some) (peer.row ∙ first));
    }))
    ∙ ap (folded (gathered skip (peer_at (seen_by there a)) (g.peers x))) (place_alike there g backup (i / g.row_len) e (Parity x) here.group first)

-- a layout gives the same of sector i
laid_alike : {w : Crew} {a b : Meaning} (there : ℕ → Bool) (g : Geometry) → Lawful g → (backup i : ℕ) → HasSector w g backup i (seen_by there b)
    → Alike (InRow g backup (i / g.row_len)) a b → laid g (seen_by there b) backup i ≡ laid g (seen_by there a) backup i
laid_alike {w} {a} {b} there g law backup i has e =
    let f = λ (j : ℕ). there (g.datum i j).0 in
    let copy = λ (m : Meaning). at m backup (g.datum i (lowest f g.copies)) in
    let group = λ (m : Meaning). rebuilt g m backup (g.group i) i in
    elim (cases_Bool (some_copy g there i)) [
      | inl some ↦ cond-true (some_copy g there i) (copy (seen_by there b)) (group (seen_by there b)) some
          ∙ (place_alike there g backup (i / g.row_len) e (Datum i (lowest f g.copies)) (has.below, lowest_below f g.copies some) refl
          ∙ sym (cond-true (some_copy g there i) (copy (seen_by there a)) (group (seen_by there a)) some))
      | inr none ↦ elim ((enough_read g law (seen_by there b) has.of.room.wide (has.of.force (seen_by there b) has.of.enough)).readable i has.below) [
        | inl some ↦ absurd (both_ways (some_copy g there i) none some)
        | inr gives ↦ cond-false (some_copy g there i) (copy (seen_by there b)) (group (seen_by there b)) none
            ∙ (rebuilt_alike there g law backup i e gives.any has.below
            ∙ sym (cond-false (some_copy g there i) (copy (seen_by there a)) (group (seen_by there a)) none))
      ]
    ]

-- so does a home
home_alike : (w : Crew) (a b : Meaning) (there : ℕ → Bool) (h : Home) (s t : Geometry) → Lawful s → Lawful t → (backup i : ℕ)
    → HomeHas h w s t backup i (seen_by there b) → Alike (MayRead h s t backup i) a b
    → content_at h s t (seen_by there b) backup i ≡ content_at h s t (seen_by there a) backup i
home_alike w a b there Source s t law next backup i has e = laid_alike there s law backup i has e
home_alike w a b there Target s t law next backup i has e = laid_alike there t next backup i has e
home_alike w a b there Backup s t law next backup i has e =
    held_alike there e (lowest there b.members) (SLOTS_AT + i % backup) refl
    ∙ ap (λ j. held (seen_by there a) (lowest there j) (SLOTS_AT + i % backup)) e.members

-- whether members are enough is a matter of how many there are
enough_alike : (p : Phase) (s t : Geometry) (there : ℕ → Bool) (a b : Meaning) → b.members ≡ a.members
    → enough_by p s t (seen_by there b) ≡ enough_by p s t (seen_by there a)
enough_alike Before s t there a b e = ap (λ n. nat_le (count (absent there) (min s.members n)) s.loss) e
enough_alike Moving s t there a b e =
    ap (λ n. nat_le (count (absent there) (min s.members n)) s.loss && nat_le (count (absent there) (min t.members n)) t.loss) e
enough_alike After s t there a b e = ap (λ n. nat_le (count (absent there) (min t.members n)) t.loss) e
enough_alike (Shut why) s t there a b e = refl

home_seen : (w : Crew) (h : Home) (s t : Geometry) (backup i : ℕ) (there : ℕ → Bool) (b : Meaning) → enough w (seen_by there b) ≡ true
    → HomeHas h w s t backup i b → HomeHas h w s t backup i (seen_by there b)
home_seen w Source s t backup i there b e has = record { of = record { force = has.of.force; enough = e; room = has.of.room }; below = has.below }
home_seen w Target s t backup i there b e has = record { of = record { force = has.of.force; enough = e; room = has.of.room }; below = has.below }
home_seen w Backup s t backup i there b e u = record { force = u.force; enough = e; room = u.room }

pub home_enough : (w : Crew) (h : Home) (s t : Geometry) (backup i : ℕ) (a : Meaning) → HomeHas h w s t backup i a → enough w a ≡ true
home_enough w Source s t backup i a has = has.of.enough
home_enough w Target s t backup i a has = has.of.enough
home_enough w Backup s t backup i a u = u.enough

-- what can be had now is seen now
pub seen_now : (w : Crew) (f : Meaning → List ℕ) (a : Meaning) → OfCurrent f → enough w a ≡ true → SeenBy w a a f (f a)
seen_now w f a of here = seen w f (f a) of here (record { may = may_refl a; goes = record { on = λ e. e; enough = λ e. e } }) refl

-- What was seen later was to be seen before, where what a look reads is as it was.
pub seen_before : {w : Crew} {P : ℕ → ℕ → List ℕ → Type 0} {a b d : Meaning} (h : Home) (s t : Geometry) → Lawful s → Lawful t → (backup i : ℕ)
    → HomeHas h w s t backup i b → May P a b → ((k n : ℕ) → MayRead h s t backup i k n → b.current k n ≡ a.current k n) → (x : List ℕ)
    → SeenBy w b d (λ m. content_at h s t m backup i) x → SeenBy w a d (λ m. content_at h s t m backup i) x
seen_before {w} {P} {a} {b} h s t law next backup i has m same x seen = record {
  there = seen.there;
  between = record { left = seen.between.left; were = λ k here. was_present m k (seen.between.were k here) };
  enough = sym (enough_alike w.phase w.source w.target seen.there a b m.members) ∙ seen.enough;
  is = seen.is ∙ home_alike w a b seen.there h s t law next backup i (home_seen w h s t backup i seen.there b seen.enough has)
      (record { members = m.members; sectors = m.sectors; current = same });
}

-- the same of a sector that every member holds
pub sector_before : {w : Crew} {P : ℕ → ℕ → List ℕ → Type 0} {a b d : Meaning} (t : ℕ) → May P a b → ((k : ℕ) → b.current k t ≡ a.current k t) → (x : List ℕ)
    → SeenBy w b d (λ m. common m t) x → SeenBy w a d (λ m. common m t) x
sector_before {w} {P} {a} {b} t m same x seen =
    let here : Alike (λ k n. n ≡ t) a b =
    record { members = m.members; sectors = m.sectors; current = λ k n e. ap (b.current k) e ∙ (same k ∙ ap (a.current k) (sym e)) } in
    record {
      there = seen.there;
      between = record { left = seen.between.left; were = λ k there. was_present m k (seen.between.were k there) };
      enough = sym (enough_alike w.phase w.source w.target seen.there a b m.members) ∙ seen.enough;
      is = seen.is ∙ (ap (λ n. held (seen_by seen.there b) (lowest seen.there n) t) m.members ∙ held_alike seen.there here (lowest seen.there a.members) t refl);
    }

-- and what was seen stays so
pub seen_later : {w : Crew} {P : ℕ → ℕ → List ℕ → Type 0} {a b d : Meaning} (f : Meaning → List ℕ) (x : List ℕ) → May P b d → SeenBy w a b f x → SeenBy w a d f x
seen_later f x m seen = record {
  there = seen.there;
  between = record { left = λ k here. seen.between.left k (was_present m k here); were = seen.between.were };
  enough = seen.enough;
  is = seen.is;
}

-- every sector below the size can be had
abbrev pub HasAll : Volume → Meaning → Type 0
HasAll v a = HasSize v.crew (home_by v) v.crew.source v.crew.target v.backup v.size a

-- so members are enough, where there is a sector at all
pub all_enough : (v : Volume) (a : Meaning) → HasAll v a → (i : ℕ) → i < v.size → enough v.crew a ≡ true
all_enough v a has i lt = home_enough v.crew (home_by v i) v.crew.source v.crew.target v.backup i a (has.each i lt)

-- and stays so
pub all_kept : {P : ℕ → ℕ → List ℕ → Type 0} (v : Volume) {a b : Meaning} → May P a b → GoesOn v.crew a b → HasAll v a → HasAll v b
all_kept v m go has = size_kept (home_by v) v.crew.source v.crew.target v.backup v.size (record { may = m; goes = go }) has
