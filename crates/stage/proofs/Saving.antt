-- Sectors saved one after another.
use Rattle.std.proofs.Common.{◌≡◌, ℕ, suc, ◌+◌, ◌-◌, ◌/◌, ◌%◌, ◌<◌, ◌≤◌, true, List, Ok, Err, Result, refl, sym, ap, ◌∙◌, subst, inl, inr, arith}
use Rattle.std.proofs.lemmas.Bool.{cases_eq}
use Rattle.std.proofs.lemmas.Nat.{mod_below}
use Rattle.answer.specs.declared.Refused.{Refused}
use Rattle.answer.specs.declared.Operation.TheVariants.{Flush, Read, Write}
use Rattle.head.specs.declared.TheConstants.{SLOTS_AT}
use Rattle.layout.specs.Lawful.{Lawful}
use Rattle.overlap.specs.declared.walk.Home.TheVariants.{Source}
use Rattle.shelf.specs.Meaning.{Meaning}
use Rattle.model.specs.Crew.{enough}
use Rattle.model.specs.Effects.{Readings}
use Rattle.model.specs.Ends.{GoesOn, Stage}
use Rattle.model.specs.Faults.{OnSector}
use Rattle.model.specs.Images.{saved}
use Rattle.model.specs.Knowing.{Volume}
use Rattle.model.specs.May.{AtSector, InSlots, May, nothing}
use Rattle.model.specs.Reading.{content_of, home_by}
use Rattle.model.specs.Steps.{SeenBy, Step}
use Rattle.model.proofs.Mays.{may_refl, may_then, may_unless, may_wider, quiet}
use Rattle.model.proofs.Seeing.{content_seen, seen}
use Rattle.model.proofs.Slots.{content_left, content_set, saved_before, saved_else, saved_last, saved_sofar, unsaved, with_content}
use Rattle.stage.specs.Done.{FlushedAll, WrittenAll}
use Rattle.stage.specs.Endings.{OnMember, StageEnds, reads_and_writes}
use Rattle.stage.specs.Looks.{HomeHas, OnHome, ShowsSector}
use Rattle.stage.specs.Rows.{InRow, MayRead, Savable, SavesBy, SavesSector}
use Rattle.stage.proofs.Chains.{names_as, stage_after, stage_may}
use Rattle.stage.proofs.Endings.{Going, ends_after, going_then, member_same, met_after, met_ends, no_plan, on_home, on_sector, slots, stage_ends}
use Rattle.stage.proofs.Loops.{was_present}
use Rattle.stage.proofs.Stepping.{Begun, carried_after}
use Rattle.stage.proofs.Earlier.{HasAll, all_enough, all_kept, home_enough, seen_before, seen_later, seen_now}

-- a look at the sector was met
pub look_unsaved : (v : Volume) (i : ℕ) (a b : Meaning) (e : Refused)
    → HomeHas (home_by v i) v.crew v.crew.source v.crew.target v.backup i a
    → ShowsSector (home_by v i) v.crew v.crew.source v.crew.target v.backup i a b (Err e) → SavesSector v i a b (Err e)
look_unsaved v i a b e has s =
    let slot = AtSector (SLOTS_AT + i % v.backup) (content_of v a i) in
    record {
      content = content_of v a i;
      given = seen_later (λ m. content_of v m i) (content_of v a i) s.0
          (seen_now v.crew (λ m. content_of v m i) a (content_seen v i) (home_enough v.crew (home_by v i) v.crew.source v.crew.target v.backup i a has));
      stage = met_ends v.crew reads_and_writes slot nothing (OnHome Read v.backup i a) a b (no_plan slot) (on_home Read refl v.backup i a) e s;
    }

-- what it gave is in the slot
pub look_saved : (v : Volume) (i : ℕ) (a b d : Meaning) (x : List ℕ) (r : Result Unit Refused)
    → HomeHas (home_by v i) v.crew v.crew.source v.crew.target v.backup i a
    → ShowsSector (home_by v i) v.crew v.crew.source v.crew.target v.backup i a b (Ok x)
    → Stage v.crew (AtSector (SLOTS_AT + i % v.backup) x) (OnSector Write b (SLOTS_AT + i % v.backup)) b d (λ u. WrittenAll (SLOTS_AT + i % v.backup) x d) r
    → SavesSector v i a d r
look_saved v i a b d x r has s put =
    let slot = SLOTS_AT + i % v.backup in
    let here = home_enough v.crew (home_by v i) v.crew.source v.crew.target v.backup i a has in
    record {
      content = x;
      given = seen_later (λ m. content_of v m i) x (stage_may _ _ _ r put)
          (seen v.crew (λ m. content_of v m i) x (content_seen v i) here (record { may = s.0; goes = s.1 }) s.2);
      stage = stage_after (AtSector slot x) (AtSector slot x) (OnSector Write b slot) (OnMember reads_and_writes a) (λ u. WrittenAll slot x d) (λ u. WrittenAll slot x d)
          (quiet s.0) s.1 (λ k n y p. p) (λ f n. member_same s.0 f (on_sector Write refl b slot f n)) (λ u m w. w) r put;
    }

-- So many sectors from the first on are saved, by contents that members gave meanwhile.
pub record Saving (v : Volume) (from : ℕ) (a : Meaning) (n : ℕ) (b : Meaning) : Type 0 where
  pub content : ℕ → List ℕ
  pub given : Readings v a b content
  pub may : May (λ k s x. x ≡ saved v.backup content from n a.current k s) a b
  pub current : (k s : ℕ) → b.present k ≡ true → s < b.sectors → b.current k s ≡ saved v.backup content from n a.current k s

pub none_saved : (v : Volume) (from : ℕ) (a : Meaning) → enough v.crew a ≡ true → Saving v from a 0 a
none_saved v from a e = record {
  content = content_of v a;
  given = λ i lt. seen_now v.crew (λ m. content_of v m i) a (content_seen v i) e;
  may = may_refl a;
  current = λ k s here lt. refl;
}

-- One more sector is on its way: it lives in the source, it can be had, there is a slot for it, and its look and its write came to r.
pub record SavesNext (v : Volume) (from : ℕ) (a : Meaning) (n : ℕ) (b d : Meaning) (r : Result Unit Refused) : Type 0 where
  pub sofar : Saving v from a n b
  pub room : n < v.backup
  pub home : home_by v (from + n) ≡ Source
  pub has : HomeHas (home_by v (from + n)) v.crew v.crew.source v.crew.target v.backup (from + n) b
  pub saves : SavesSector v (from + n) b d r

-- what is to be in the slots then
abbrev next_content : {v : Volume} {from n : ℕ} {a b d : Meaning} {r : Result Unit Refused} → SavesNext v from a n b d r → ℕ → List ℕ
next_content {v} {from} {n} p = with_content (from + n) p.saves.content p.sofar.content

-- no place of a layout is a slot
source_still : {v : Volume} {from n : ℕ} {a b d : Meaning} {r : Result Unit Refused} (p : SavesNext v from a n b d r) (k s : ℕ)
    → MayRead (home_by v (from + n)) v.crew.source v.crew.target v.backup (from + n) k s → b.current k s ≡ a.current k s
source_still {v} {from} {n} {a} {b} p k s reads =
    let in_row : InRow v.crew.source v.backup ((from + n) / v.crew.source.row_len) k s =
    subst (λ h. MayRead h v.crew.source v.crew.target v.backup (from + n) k s) p.home reads in
    elim (p.sofar.may.current k s) [
      | inl e ↦ e
      | inr e ↦ e ∙ unsaved v.backup p.sofar.content from n a.current k s (λ j lt at.
          (let room = p.room in let slot = mod_below (from + j) v.backup (omega (arith, room)) in let sector = in_row.sector in omega (arith, at, slot, sector)))
    ]

next_given : {v : Volume} {from n : ℕ} {a b d : Meaning} {r : Result Unit Refused} → Lawful v.crew.source → Lawful v.crew.target → (p : SavesNext v from a n b d r)
    → Readings v a d (next_content p)
next_given {v} {from} {n} {a} {b} {d} {r} law next p i lt =
    let f = λ (j : ℕ) (m : Meaning). content_of v m j in
    let x = p.saves.content in
    let before : SeenBy v.crew a d (f (from + n)) x =
    seen_before (home_by v (from + n)) v.crew.source v.crew.target law next v.backup (from + n) p.has p.sofar.may (source_still p) x p.saves.given in
    elim (cases_eq i (from + n)) [
      | inl e ↦ subst (SeenBy v.crew a d (f i)) (sym (content_set (from + n) x p.sofar.content i e)) (subst (λ j. SeenBy v.crew a d (f j) x) (sym e) before)
      | inr ne ↦ subst (SeenBy v.crew a d (f i)) (sym (content_left (from + n) x p.sofar.content i ne))
          (seen_later (f i) (p.sofar.content i) (stage_may _ _ _ r p.saves.stage) (p.sofar.given i lt))
    ]

next_may : {v : Volume} {from n : ℕ} {a b d : Meaning} {r : Result Unit Refused} (p : SavesNext v from a n b d r)
    → May (λ k s x. x ≡ saved v.backup (next_content p) from (suc n) a.current k s) a d
next_may {v} {from} {n} {a} {b} {d} {r} p =
    let x = p.saves.content in
    let room = p.room in
    may_then (may_unless (λ k s y e. (let same = e ∙ saved_before v.backup p.sofar.content from n x a.current k s in
    elim (saved_sofar v.backup (next_content p) from n (suc n) a.current k s (omega arith) (omega (arith, room))) [
      | inl o ↦ inl (same ∙ o)
      | inr o ↦ inr (same ∙ o)
    ])) p.sofar.may)
    (may_wider (λ k s y at. at.content ∙ sym (saved_last v.backup p.sofar.content from n x a.current k s at.sector)) (stage_may _ _ _ r p.saves.stage))

-- it is saved
one_saved : {v : Volume} {from n : ℕ} {a b d : Meaning} → Lawful v.crew.source → Lawful v.crew.target → SavesNext v from a n b d (Ok tt) → Saving v from a (suc n) d
one_saved {v} {from} {n} {a} {b} {d} law next p =
    let x = p.saves.content in
    let slot = SLOTS_AT + (from + n) % v.backup in
    let m = p.saves.stage.0 in
    record {
      content = next_content p;
      given = next_given law next p;
      may = next_may p;
      current = λ k s here lt. elim (cases_eq s slot) [
        | inl own ↦ ap (d.current k) own ∙ (p.saves.stage.2 k here (omega (arith, lt, own)) ∙ sym (saved_last v.backup p.sofar.content from n x a.current k s own))
        | inr other ↦ elim (m.current k s) [
          | inl e ↦ (let same = m.sectors in
              e ∙ (p.sofar.current k s (was_present m k here) (omega (arith, lt, same)) ∙ saved_else v.backup p.sofar.content from n x a.current k s other))
          | inr at ↦ absurd (other at.sector)
        ]
      ];
    }

-- power or members were met lacking
one_met : {v : Volume} {from to n : ℕ} {a b d : Meaning} {e : Refused} → Lawful v.crew.source → Lawful v.crew.target → n < to - from → to ≤ from + v.backup
    → SavesNext v from a n b d (Err e) → SavesBy v from to a d (Err e)
one_met {v} {from} {to} {n} {a} {b} {d} {e} law next lt most p = record {
  content = next_content p;
  given = next_given law next p;
  carries = (
    may_unless (λ k s y is. elim (saved_sofar v.backup (next_content p) from (suc n) (to - from) a.current k s (omega (arith, lt)) (omega (arith, most))) [
      | inl o ↦ inl (is ∙ o)
      | inr o ↦ inr (is ∙ o)
    ]) (next_may p),
    record {
      why = p.saves.stage.1.why;
      fault = names_as (OnMember reads_and_writes b) (OnMember reads_and_writes a) (member_same p.sofar.may) e.fault p.saves.stage.1.fault;
    },
  );
}

-- all are saved, and flushed
pub all_saved : (v : Volume) (from to : ℕ) (a b d : Meaning) → Saving v from a (to - from) b → GoesOn v.crew a b → (r : Result Unit Refused)
    → Stage v.crew nothing (OnSector Flush b 0) b d (λ u. FlushedAll d) r → SavesBy v from to a d r
all_saved v from to a b d so goes r flush =
    let f : Step = saved v.backup so.content from (to - from) in
    let begun : Begun v.crew f (λ k s. Unit {0}) a b = record { may = so.may; goes = goes; made = λ k s u here lt. so.current k s here lt } in
    record {
      content = so.content;
      given = λ i lt. seen_later (λ m. content_of v m i) (so.content i) (stage_may _ _ _ r flush) (so.given i lt);
      carries = carried_after d (OnMember reads_and_writes a) begun (λ k s. inl tt) (on_sector Flush refl a 0) r flush;
    }

-- a save that has come to sector i
pub record SavedUpto (v : Volume) (from to : ℕ) (a : Meaning) (i : ℕ) (b : Meaning) : Type 0 where
  pub going : Going v.crew (InSlots v.backup) a b
  pub has : HasAll v b
  pub saving : Savable v from to → Saving v from a (i - from) b

-- at its start
pub save_begins : (v : Volume) (from to : ℕ) (a : Meaning) → from < to → to ≤ v.size → HasAll v a → SavedUpto v from to a from a
save_begins v from to a lt most has = record {
  going = record { may = may_refl a; goes = record { on = λ e. e; enough = λ e. e } };
  has = has;
  saving = λ can. (let none : 0 ≡ from - from = omega arith in
      subst (λ n. Saving v from a n a) none
      (none_saved v from a (all_enough v a has from (omega (arith, lt, most)))));
}

-- at a sector, which came to r
pub record SavesAt (v : Volume) (from to : ℕ) (a : Meaning) (i : ℕ) (b d : Meaning) (r : Result Unit Refused) : Type 0 where
  pub upto : SavedUpto v from to a i b
  pub first : from ≤ i
  pub below : i < to
  pub saves : SavesSector v i b d r

pub saves_at : {v : Volume} {from to : ℕ} {a : Meaning} {i : ℕ} {b d : Meaning} {r : Result Unit Refused} → SavedUpto v from to a i b → from ≤ i → i < to → to ≤ v.size
    → (HomeHas (home_by v i) v.crew v.crew.source v.crew.target v.backup i b → SavesSector v i b d r) → SavesAt v from to a i b d r
saves_at {v} {from} {to} {a} {i} upto first below most saves =
    record { upto = upto; first = first; below = below; saves = saves (upto.has.each i (omega (arith, below, most))) }

next_saves : {v : Volume} {from to : ℕ} {a : Meaning} {i : ℕ} {b d : Meaning} {r : Result Unit Refused} → SavesAt v from to a i b d r → Savable v from to → i < v.size
    → SavesNext v from a (i - from) b d r
next_saves {v} {from} {to} {a} {i} {b} {d} {r} p can lt =
    let slots = can.slots in
    let first = p.first in
    let below = p.below in
    let is : i ≡ from + (i - from) = omega (arith, first) in
    record {
      sofar = p.upto.saving can;
      room = omega (arith, first, below, slots);
      home = subst (λ j. home_by v j ≡ Source) is (can.homes i first below);
      has = subst (λ j. HomeHas (home_by v j) v.crew v.crew.source v.crew.target v.backup j b) is (p.upto.has.each i lt);
      saves = subst (λ j. SavesSector v j b d r) is p.saves;
    }

-- it wrote in the slots alone
slot_ends : {v : Volume} {from to : ℕ} {a : Meaning} {i : ℕ} {b d : Meaning} {r : Result Unit Refused} → 0 < v.backup → SavesAt v from to a i b d r
    → StageEnds v.crew reads_and_writes (InSlots v.backup) b d r
slot_ends {v} {from} {to} {a} {i} {b} {d} {r} some p =
    let c = p.saves.content in
    stage_ends v.crew reads_and_writes (InSlots v.backup) (AtSector (SLOTS_AT + i % v.backup) c) (OnMember reads_and_writes b) b d
    (λ u. WrittenAll (SLOTS_AT + i % v.backup) c d) (λ k n x at. slots v.backup (i % v.backup) c k n x (mod_below i v.backup some) at) (λ f n. n) r p.saves.stage

pub save_next : {v : Volume} {from to : ℕ} {a : Meaning} {i : ℕ} {b d : Meaning} → Lawful v.crew.source → Lawful v.crew.target → 0 < v.backup → to ≤ v.size
    → SavesAt v from to a i b d (Ok tt) → SavedUpto v from to a (i + 1) d
save_next {v} {from} {to} {a} {i} {b} {d} law next some most p =
    let s = slot_ends some p in
    let first = p.first in
    let below = p.below in
    record {
      going = going_then p.upto.going s.0 s.1;
      has = all_kept v s.0 s.1 p.upto.has;
      saving = λ can. (let more : suc (i - from) ≡ i + 1 - from = omega (arith, first) in
          subst (λ n. Saving v from a n d) more (one_saved law next (next_saves p can (omega (arith, below, most)))));
    }

pub slots_met : {v : Volume} {from to : ℕ} {a : Meaning} {i : ℕ} {b : Meaning} (d : Meaning) (e : Refused) → 0 < v.backup → SavesAt v from to a i b d (Err e)
    → StageEnds {A = Unit} v.crew reads_and_writes (InSlots v.backup) a d (Err e)
slots_met d e some p = met_after d p.upto.going e (slot_ends some p)

pub save_met : {v : Volume} {from to : ℕ} {a : Meaning} {i : ℕ} {b : Meaning} (d : Meaning) (e : Refused) → Lawful v.crew.source → Lawful v.crew.target → to ≤ v.size
    → Savable v from to → SavesAt v from to a i b d (Err e) → SavesBy v from to a d (Err e)
save_met d e law next most can p =
    (let first = p.first in let below = p.below in one_met law next (omega (arith, first, below)) can.slots (next_saves p can (omega (arith, below, most))))

-- and at its end
pub save_done : {v : Volume} {from to : ℕ} {a : Meaning} (i : ℕ) {b : Meaning} (d : Meaning) → i ≡ to → SavedUpto v from to a i b → Savable v from to
    → (r : Result Unit Refused)
    → Stage v.crew nothing (OnSector Flush b 0) b d (λ u. FlushedAll d) r → SavesBy v from to a d r
save_done {v} {from} {to} {a} i {b} d end upto can r flush =
    all_saved v from to a b d (subst (λ n. Saving v from a (n - from) b) end (upto.saving can)) upto.going.goes r flush

pub slots_done : {v : Volume} {from to : ℕ} {a : Meaning} (i : ℕ) {b : Meaning} (d : Meaning) → SavedUpto v from to a i b → (r : Result Unit Refused)
    → Stage v.crew nothing (OnSector Flush b 0) b d (λ u. FlushedAll d) r → StageEnds v.crew reads_and_writes (InSlots v.backup) a d r
slots_done {v} {from} {to} {a} i {b} d upto r flush =
    ends_after reads_and_writes d upto.going r
    (stage_ends v.crew reads_and_writes (InSlots v.backup) nothing (OnSector Flush b 0) b d (λ u. FlushedAll d) (no_plan (InSlots v.backup))
    (on_sector Flush refl b 0) r flush)
