-- The worked examples of calls.
use Rattle.std.proofs.Common.{Bool, ◌≡◌, ℕ, ◌<◌, true, List, [], ◌∷◌, inl, inr, Some, None, refl, sym, ap, subst, ◌∙◌, arith, slice_index_or}
use Rattle.overlap.specs.declared.walk.Home.TheVariants.{Source}
use Rattle.shelf.specs.Meaning.{Meaning}
use Rattle.sector.specs.Bytes as bytes
use Rattle.head.proofs.Codecs.{one_head as same_head}
use Rattle.head.specs.Heads.{Fits, head_bytes}
use Rattle.head.specs.Checkpoints.{Next}
use Rattle.head.specs.declared.state.Head.{Head}
use Rattle.head.specs.declared.state.Progress.TheVariants.{Idle, Moving as UnderWay}
use Rattle.model.specs.Crew.{Crew, crew}
use Rattle.model.specs.Heads.{LedBelow}
use Rattle.model.specs.declared.phase.Phase.TheVariants.{Before, Moving}
use Rattle.model.specs.Effects.{Readings}
use Rattle.model.specs.Images.{applied, headed, logged}
use Rattle.model.specs.Opening.{Searched}
use Rattle.model.specs.Knowing.{Volume}
use Rattle.model.specs.Reading.{common, content_of, parity_at}
use Rattle.model.specs.Reopening.{OpensTo}
use Rattle.model.specs.Steps.{Follows, Part, Passed, Step, Through, TornIn}
use Rattle.model.specs.Steps.Part.{Checkpoint, Plain}
use Rattle.layout.specs.declared.label.Label.{Label}
use Rattle.head.specs.declared.state.Progress.{Progress}
use Rattle.model.specs.Worked.{label, mirror, mirror_label, stripe, volume_of}
use Rattle.model.specs.WorkedCalls.{KnownExamples, MakingExamples, WalkExamples, WriteExamples, armed, begun, carried, clear_places, copy_row, cut_in, disarmed, finished, first, group_steps, grouped_volume, keep_slots, keep_steps, kept_one, logged_shelf, new_parity, on_first, passed_by, redo_steps, settled_one, under, whole, write_home, write_steps, zeros}
use Rattle.model.specs.WorkedSteps.{grouped, resting, triple, walking_volume}
use Rattle.model.proofs.Working.{looked, passed, restarted, same, seen, torn, went_dark}

abbrev first_of : List ℕ → ℕ
first_of l = slice_index_or l 0 0

pub first_fits : Fits first
unfolding bytes.from_le bytes.le
first_fits = record { number = refl; source = refl; target = refl; size = refl; settled = refl; kept = refl; backup = refl; logged = refl }

pub armed_fits : Fits armed
unfolding bytes.from_le bytes.le
armed_fits = record { number = refl; source = refl; target = refl; size = refl; settled = refl; kept = refl; backup = refl; logged = refl }

pub disarmed_fits : Fits disarmed
unfolding bytes.from_le bytes.le
disarmed_fits = record { number = refl; source = refl; target = refl; size = refl; settled = refl; kept = refl; backup = refl; logged = refl }

pub begun_fits : Fits begun
unfolding bytes.from_le bytes.le
begun_fits = record { number = refl; source = refl; target = refl; size = refl; settled = refl; kept = refl; backup = refl; logged = refl }

pub kept_one_fits : Fits kept_one
unfolding bytes.from_le bytes.le
kept_one_fits = record { number = refl; source = refl; target = refl; size = refl; settled = refl; kept = refl; backup = refl; logged = refl }

pub settled_one_fits : Fits settled_one
unfolding bytes.from_le bytes.le
settled_one_fits = record { number = refl; source = refl; target = refl; size = refl; settled = refl; kept = refl; backup = refl; logged = refl }

pub finished_fits : Fits finished
unfolding bytes.from_le bytes.le
finished_fits = record { number = refl; source = refl; target = refl; size = refl; settled = refl; kept = refl; backup = refl; logged = refl }

-- the heads of a write
arms : Next first first.source first.progress (Some 1) armed
arms = record { left = omega arith; number = refl; source = refl; progress = refl; size = refl; backup = refl; armed = refl }

disarms : Next armed first.source first.progress None disarmed
disarms = record { left = omega arith; number = refl; source = refl; progress = refl; size = refl; backup = refl; armed = refl }

pub begins : Next first mirror_label (UnderWay (label 1) 0 0) None begun
begins = record { left = omega arith; number = refl; source = refl; progress = refl; size = refl; backup = refl; armed = refl }

pub keeps : Next begun mirror_label (UnderWay (label 1) 0 1) None kept_one
keeps = record { left = omega arith; number = refl; source = refl; progress = refl; size = refl; backup = refl; armed = refl }

settles : Next kept_one mirror_label (UnderWay (label 1) 1 1) None settled_one
settles = record { left = omega arith; number = refl; source = refl; progress = refl; size = refl; backup = refl; armed = refl }

pub finishes : Next settled_one (label 1) Idle None finished
finishes = record { left = omega arith; number = refl; source = refl; progress = refl; size = refl; backup = refl; armed = refl }

arm_follows : Follows first first.source first.progress (Some 1) armed
arm_follows = record { next = arms; fits = armed_fits }

disarm_follows : Follows armed first.source first.progress None disarmed
disarm_follows = record { next = disarms; fits = disarmed_fits }

-- a write of sector 1, by what it makes of log and home
abbrev write_parts : (log home : Step) → List Part
write_parts log home = Plain log ∷ Checkpoint first.source first.progress (Some 1) ∷ Plain home ∷ Checkpoint first.source first.progress None ∷ []

written : (w : Crew) (log home : Step) (a : Meaning) → Through w (write_parts log home) first a disarmed (carried (log ∷ headed armed ∷ home ∷ headed disarmed ∷ []) a)
written w log home a =
    (_, passed w log a, (armed, _, arm_follows, passed w (headed armed) _, (_, passed w home _, (disarmed, _, disarm_follows, passed w (headed disarmed) _, (refl, refl)))))

-- one that is cut in its home
cut_at_home : (w : Crew) (log home : Step) (reached : ℕ → ℕ → Bool) (a : Meaning) → TornIn w (write_parts log home) first a (cut_in home reached (carried (log ∷ headed armed ∷ []) a))
cut_at_home w log home reached a = inr (_, passed w log a, (armed, arm_follows, inr (_, passed w (headed armed) _, inl (torn home reached _))))

-- a call that is one checkpoint
one_head : (w : Crew) (h k : Head) (source : Label) (progress : Progress) (a : Meaning) → Follows h source progress None k
    → Through w (Checkpoint source progress None ∷ []) h a k (carried (headed k ∷ []) a)
one_head w h k source progress a follows = (k, _, follows, passed w (headed k) a, (refl, refl))

pub write_examples : WriteExamples
write_examples = record {
  done = record {
    mid = whole;
    looked = looked resting.crew whole;
    list = write_parts (λ f. logged (5 ∷ []) zeros f) write_home;
    parts = record { parity = zeros; made = seen resting.crew whole (carried write_steps whole) (λ m. zeros) (λ k e. refl) refl; parts = refl };
    through = written resting.crew (λ f. logged (5 ∷ []) zeros f) write_home whole;
  };
  in_group = record {
    mid = grouped;
    looked = looked grouped_volume.crew grouped;
    list = write_parts (λ f. logged (5 ∷ []) new_parity f) (λ f. applied Source triple triple 1 1 (5 ∷ []) new_parity f);
    parts = record {
      parity = new_parity;
      made = seen grouped_volume.crew grouped (carried group_steps grouped) (λ m. parity_at Source grouped_volume.crew.source grouped_volume.crew.target m 1 1 (5 ∷ [])) (λ k e. refl) refl;
      parts = refl;
    };
    through = written grouped_volume.crew (λ f. logged (5 ∷ []) new_parity f) (λ f. applied Source triple triple 1 1 (5 ∷ []) new_parity f) grouped;
  };
  while_reading = inl (went_dark write_home whole);
  in_its_places = inr (record {
    mid = whole;
    looked = looked resting.crew whole;
    list = write_parts (λ f. logged (5 ∷ []) zeros f) write_home;
    parts = record { parity = zeros; made = seen resting.crew whole (cut_in write_home on_first logged_shelf) (λ m. zeros) (λ k e. refl) refl; parts = refl };
    torn = cut_at_home resting.crew (λ f. logged (5 ∷ []) zeros f) write_home on_first whole;
  });
  one_copy = λ p. (let e : 8 ≡ 5 = ap first_of (p.current 1 5 refl (omega arith)) in omega (arith, e));
  other_content = λ t. elim (t.current 1 5) [
    | inl e ↦ (let n : 6 ≡ 8 = ap first_of e in omega (arith, n))
    | inr e ↦ (let n : 6 ≡ 5 = ap first_of e in omega (arith, n))
  ];
  read_done = record { mid = whole; looked = looked resting.crew whole; list = []; parts = refl; through = (refl, refl) };
  read_writes = λ d.
      let t = subst (λ ps. Through resting.crew ps first d.mid first (passed_by write_home whole)) d.parts d.through in
      elim (d.looked.may.current 1 5) [
        | inl e ↦ (let n : 5 ≡ 8 = ap first_of (ap (λ (m : Meaning). m.current 1 5) t.1 ∙ e) in omega (arith, n))
        | inr never ↦ absurd never
      ];
}

-- what is read of each sector, where all is there
readings : (kept : ℕ) (b : Meaning) → ((k : ℕ) → b.present k ≡ true → whole.present k ≡ true) → Readings (walking_volume kept) whole b (content_of (walking_volume kept) whole)
readings kept b left i lt = seen (walking_volume kept).crew whole b (λ m. content_of (walking_volume kept) m i) left refl

without : (v : Volume) (k : Head) (a b : Meaning) → Passed v.crew (headed k) a b → b.present 0 ≡ true → 0 < b.sectors → b.current 0 0 ≡ 9 ∷ [] → ⊥
without v k a b p here lt nine = (let e : 9 ≡ 0x52 = ap first_of (sym nine ∙ p.current 0 0 here lt) in omega (arith, e))

begin_follows : Follows first mirror_label (UnderWay (label 1) 0 0) None begun
begin_follows = record { next = begins; fits = begun_fits }

keep_follows : Follows begun mirror_label (UnderWay (label 1) 0 1) None kept_one
keep_follows = record { next = keeps; fits = kept_one_fits }

settle_follows : Follows kept_one mirror_label (UnderWay (label 1) 1 1) None settled_one
settle_follows = record { next = settles; fits = settled_one_fits }

finish_follows : Follows settled_one (label 1) Idle None finished
finish_follows = record { next = finishes; fits = finished_fits }

abbrev keep_parts : List Part
keep_parts = Plain keep_slots ∷ Checkpoint mirror_label (UnderWay (label 1) 0 1) None ∷ []

abbrev redo_parts : List Part
redo_parts = Plain (headed armed) ∷ Plain write_home ∷ Checkpoint mirror_label Idle None ∷ []

pub walk_examples : WalkExamples
walk_examples = record {
  begin_done = record { mid = whole; looked = looked resting.crew whole; list = _; parts = refl; through = one_head resting.crew first begun mirror_label (UnderWay (label 1) 0 0) whole begin_follows };
  begin_torn = inr (record { mid = whole; looked = looked resting.crew whole; list = _; parts = refl; torn = (begun, begin_follows, inl (torn (headed begun) on_first whole)) });
  begin_without_head = λ d.
      let t = subst (λ ps. Through resting.crew ps first d.mid begun whole) d.parts d.through in
      without resting t.0 d.mid whole (subst (λ m. Passed resting.crew (headed t.0) d.mid m) (sym t.4.1) t.3) refl (omega arith) refl;
  keep_done = record {
    mid = whole;
    looked = looked (walking_volume 0).crew whole;
    list = keep_parts;
    parts = record {
      content = content_of (walking_volume 0) whole;
      given = readings 0 (carried keep_steps whole) (λ k e. refl);
      from = 0;
      to = 1;
      span = record { end = refl; start = λ i lt from. (omega arith, omega arith); whole = λ i lt row past. omega arith };
      parts = refl;
    };
    through = (_, passed (walking_volume 0).crew keep_slots whole, one_head (walking_volume 0).crew begun kept_one mirror_label (UnderWay (label 1) 0 1) _ keep_follows);
  };
  keep_torn = inr (record {
    mid = whole;
    looked = looked (walking_volume 0).crew whole;
    list = keep_parts;
    parts = record {
      content = content_of (walking_volume 0) whole;
      given = readings 0 (cut_in keep_slots on_first whole) (λ k e. refl);
      from = 0;
      to = 1;
      span = record { end = refl; start = λ i lt from. (omega arith, omega arith); whole = λ i lt row past. omega arith };
      parts = refl;
    };
    torn = inl (torn keep_slots on_first whole);
  });
  keep_without_slot = λ p. (let e : 9 ≡ 7 = ap first_of (p.current 1 3 refl (omega arith)) in omega (arith, e));
  copy_done = record {
    mid = whole;
    looked = looked (walking_volume 1).crew whole;
    list = Plain copy_row ∷ [];
    parts = record { content = content_of (walking_volume 1) whole; given = readings 1 (carried (copy_row ∷ []) whole) (λ k e. refl); parts = refl };
    through = (_, passed (walking_volume 1).crew copy_row whole, (refl, refl));
  };
  copy_torn = inr (record {
    mid = whole;
    looked = looked (walking_volume 1).crew whole;
    list = Plain copy_row ∷ [];
    parts = record { content = content_of (walking_volume 1) whole; given = readings 1 (cut_in copy_row on_first whole) (λ k e. refl); parts = refl };
    torn = inl (torn copy_row on_first whole);
  });
  copy_without_row = λ p. (let e : 7 ≡ 8 = ap first_of (p.current 1 4 refl (omega arith)) in omega (arith, e));
  settle_done = record {
    mid = whole;
    looked = looked (walking_volume 1).crew whole;
    list = _;
    parts = refl;
    through = one_head (walking_volume 1).crew kept_one settled_one mirror_label (UnderWay (label 1) 1 1) whole settle_follows;
  };
  hand_back_done = record { mid = whole; looked = looked (walking_volume 1).crew whole; list = []; parts = (refl, refl); through = (refl, refl) };
  finish_done = record {
    mid = whole;
    looked = looked (volume_of Moving 1 1 None 4).crew whole;
    list = _;
    parts = refl;
    through = one_head (volume_of Moving 1 1 None 4).crew settled_one finished (label 1) Idle whole finish_follows;
  };
  finish_torn = inr (record { mid = whole; looked = looked (volume_of Moving 1 1 None 4).crew whole; list = _; parts = refl; torn = (finished, finish_follows, inl (torn (headed finished) on_first whole)) });
  finish_without_head = λ p. without (volume_of Moving 1 1 None 4) finished whole whole p refl (omega arith) refl;
}

pub known_examples : KnownExamples
known_examples = record { after_begin = refl; after_copy = refl; after_settle = refl; after_open = refl; admitted = refl }

-- the head that every member holds leads
led : (h : Head) (a : Meaning) → Fits h → 0 < a.members → 0 < a.sectors → ((k : ℕ) → a.present k ≡ true) → ((k : ℕ) → a.current k 0 ≡ head_bytes h) → LedBelow a a.members (Some h)
led h a fits members sectors there bytes = record {
  member = 0;
  below = members;
  held = record { there = there 0; some = sectors; bytes = bytes 0; fits = fits };
  highest = λ k g lt p. (let e : g.number ≡ h.number = ap (λ (x : Head). x.number) (same_head g h p.fits fits (sym p.bytes ∙ bytes k)) in omega (arith, e));
  lowest = λ k g lt p. absurd (omega (arith, lt));
}

pub searched : (h : Head) (a : Meaning) → Fits h → 0 < a.members → 0 < a.sectors → ((k : ℕ) → a.present k ≡ true) → ((k : ℕ) → a.current k 0 ≡ head_bytes h) → true ≡ a.on
    → ((k s : ℕ) → a.durable k s ≡ a.current k s) → Searched a a (Some h)
searched h a fits members sectors there bytes on both = record {
  restarted = a;
  restarts = restarted a on both;
  looked = record { may = same a; on = λ e. e };
  led = led h a fits members sectors there bytes;
}

-- who holds one head holds no other
other_head : OpensTo mirror_label (label 1) mirror stripe (under first) (under first) disarmed disarmed → ⊥
other_head o =
    let found = o.taken.found in
    let holds = found.led.held in
    let member = found.led.member in
    let one = (found.restarts.on (sym found.restarts.answer) member 0 refl).one in
    let bytes : found.restarted.current member 0 ≡ head_bytes first = elim one [ inl e ↦ e | inr e ↦ e ] in
    elim (found.looked.may.current member 0) [
      | inl e ↦ (let n : 1 ≡ 3 = ap (λ (x : Head). x.number) (same_head first disarmed first_fits holds.fits (sym bytes ∙ (sym e ∙ holds.bytes))) in omega (arith, n))
      | inr never ↦ absurd never
    ]

pub making_examples : MakingExamples
making_examples = record {
  created = record {
    mid = _;
    cleared = passed (crew Before mirror mirror) clear_places whole;
    first = record { number = refl; source = refl; progress = refl; size = refl; backup = refl; armed = refl };
    fits = first_fits;
    stands = passed (crew Before mirror mirror) (headed first) _;
  };
  create_torn = inl (torn clear_places on_first whole);
  create_without_zeros = λ p. (let e : 8 ≡ 0 = ap first_of (p.current 1 5 refl (omega arith)) in omega (arith, e));
  opened = record {
    mid = under first;
    taken = record { found = searched first (under first) first_fits (omega arith) (omega arith) (λ k. refl) (λ k. refl) refl (λ k s. refl); verdict = refl };
    list = Plain (headed first) ∷ [];
    parts = refl;
    through = (_, passed (crew Before mirror stripe) (headed first) (under first), (refl, refl));
  };
  redone = record {
    mid = logged_shelf;
    taken = record { found = searched armed logged_shelf armed_fits (omega arith) (omega arith) (λ k. refl) (λ k. refl) refl (λ k s. refl); verdict = refl };
    list = redo_parts;
    parts = record {
      datum = 5 ∷ [];
      parity = zeros;
      logged_datum = seen (crew Before mirror stripe) logged_shelf (carried redo_steps logged_shelf) (λ m. common m 1) (λ k e. refl) refl;
      logged_parity = seen (crew Before mirror stripe) logged_shelf (carried redo_steps logged_shelf) (λ m. common m 2) (λ k e. refl) refl;
      parts = refl;
    };
    through =
        (_, passed (crew Before mirror stripe) (headed armed) logged_shelf, (_, passed (crew Before mirror stripe) write_home _, one_head (crew Before mirror stripe) armed disarmed mirror_label Idle _ disarm_follows));
  };
  redo_torn = record {
    mid = logged_shelf;
    taken = record { found = searched armed logged_shelf armed_fits (omega arith) (omega arith) (λ k. refl) (λ k. refl) refl (λ k s. refl); verdict = refl };
    list = redo_parts;
    parts = record {
      datum = 5 ∷ [];
      parity = zeros;
      logged_datum = seen (crew Before mirror stripe) logged_shelf _ (λ m. common m 1) (λ k e. refl) refl;
      logged_parity = seen (crew Before mirror stripe) logged_shelf _ (λ m. common m 2) (λ k e. refl) refl;
      parts = refl;
    };
    torn = inr (_, passed (crew Before mirror stripe) (headed armed) logged_shelf, inl (torn write_home on_first (passed_by (headed armed) logged_shelf)));
  };
  other_head = other_head;
  not_redone = λ p. (let e : 8 ≡ 5 = ap first_of (p.current 0 5 refl (omega arith)) in omega (arith, e));
}
