-- How an open ends.
use Rattle.std.proofs.Common.{◌≡◌, ℕ, ◌<◌, List, [], ◌∷◌, true, false, Some, None, Ok, Err, Option, Result, inl, inr, refl, sym, ap, ◌∙◌, subst, rules, arith}
use Rattle.std.proofs.lemmas.Bool.{leb-false, ltb-true}
use Rattle.answer.specs.declared.Fault.{Fault}
use Rattle.answer.specs.declared.Refused.{Refused}
use Rattle.layout.specs.Geometry.{Geometry}
use Rattle.layout.specs.declared.label.Label.{Label}
use Rattle.head.specs.Heads.{head_bytes}
use Rattle.head.specs.declared.TheConstants.{HEAD_AT, LOGGED_DATUM_AT, LOGGED_PARITY_AT, MOST_NUMBER}
use Rattle.head.specs.declared.state.Head.{Head}
use Rattle.head.specs.declared.state.Progress.{Progress}
use Rattle.head.specs.declared.state.Progress.TheVariants.{Idle, Moving}
use Rattle.shelf.specs.Meaning.{Meaning}
use Rattle.model.specs.Answers.{InCall}
use Rattle.model.specs.Crew.{borne, crew, enough}
use Rattle.model.specs.Ends.{GoesOn, Met}
use Rattle.model.specs.Faults.{OnHeads}
use Rattle.model.specs.Images.{applied, headed}
use Rattle.model.specs.Knowing.{phase_by}
use Rattle.model.specs.May.{May}
use Rattle.model.specs.Opening.{cannot_disarm, head_fits, logged_fits}
use Rattle.model.specs.Readable.{InUse}
use Rattle.model.specs.Reading.{common, home_by}
use Rattle.model.specs.Reopening.{OpenParts, TakenUp, opened_crew, opened_volume}
use Rattle.model.specs.Steps.{Part, Passed, Step, Torn}
use Rattle.model.specs.Steps.Part.{Checkpoint, Plain}
use Rattle.model.specs.Verdicts.{fits}
use Rattle.model.specs.declared.phase.Phase.{Phase}
use Rattle.model.specs.declared.request.Request.TheVariants.{Open}
use Rattle.model.proofs.Carrying.{sector_left}
use Rattle.model.proofs.Seeing.{common_seen, seen_until}
use Rattle.stage.specs.Arrays.{crew_of}
use Rattle.stage.specs.Checkpoint.{Checkpointed}
use Rattle.stage.specs.Places.{HasHome, RedoneBy, home_step}
use Rattle.stage.specs.declared.array.Array.{Array}
use Rattle.stage.specs.Endings.{Carries, OnMember, reads_and_writes}
use Rattle.stage.proofs.Earlier.{sector_before, seen_now}
use Rattle.stage.proofs.Endings.{member_as}
use Rattle.stage.proofs.Loops.{was_present}
use Rattle.stage.proofs.Places.{use_kept}
use Rattle.volume.specs.declared.Volume.{Volume}
use Rattle.volume.specs.TakingUp.{LetPass, OpenedBy, TookUp, WentOn}
use Rattle.volume.specs.Volumes.{Alike, CheckpointOf, OnlyShelf, PartsEnd, known}
use Rattle.volume.proofs.Carrying.{checkpoint_last, parts_may, plain_then}
use Rattle.volume.proofs.Ending.{checkpoint_met, heads_on_member}
use Rattle.volume.proofs.Founding.{fits_housed, fits_room, headed_by}
use Rattle.volume.proofs.Housing.{both_left, both_right, home_has}
use Rattle.volume.proofs.Looking.{in_call, met_as, operates_all}
use Rattle.volume.proofs.Writing.{in_home, met_later, onto}

-- the source is in force in each phase that a volume is opened in
source_in_force : (p : Progress) (s t : Geometry) (x : Meaning) → enough (crew (phase_by p) s t) x ≡ true → borne s x ≡ true
source_in_force Idle s t x e = e
source_in_force (Moving label p q) s t x e = both_left (borne s x) (borne t x) e

-- so the source is in use under a head that was let pass
passed_in_use : {S L : Type 0} (mean : S → Meaning) (place : L → Geometry) (v : Volume S L) → LetPass mean place v
    → InUse (crew_of place v.array) (place v.array.source) v.array.head.backup (mean v.shelf)
passed_in_use mean place v pass =
    let h = v.array.head in
    let s = place v.array.source in
    let t = place v.array.target in
    let a = mean v.shelf in
    record {
      force = λ x e. source_in_force h.progress s t x (subst (λ p. enough (crew p s t) x ≡ true) pass.phase e);
      enough = pass.enough;
      room = (fits_room (opened_volume s t h) a s (both_left (fits a s h.backup h.size) _ (both_right (logged_fits h.armed h.size) _ pass.fits))).room;
    }

-- it still is once the head was spread
pub spread_in_use : {S L : Type 0} (mean : S → Meaning) (place : L → Geometry) (v : Volume S L) (shelf : S) {P : ℕ → ℕ → List ℕ → Type 0} → LetPass mean place v
    → May P (mean v.shelf) (mean shelf) → GoesOn (crew_of place v.array) (mean v.shelf) (mean shelf)
    → InUse (crew_of place v.array) (place v.array.source) v.array.head.backup (mean shelf)
spread_in_use mean place v shelf pass may goes = use_kept may goes (place v.array.source) v.array.head.backup (passed_in_use mean place v pass)

-- an armed head that was let pass has a number left
number_left : (armed : Option ℕ) (i number : ℕ) → armed ≡ Some i → cannot_disarm armed number ≡ false → number < MOST_NUMBER
number_left None i number is left = absurd (search rules)
number_left (Some j) i number is left = (let kept = leb-false _ _ left in omega (arith, kept))

-- an armed head that was let pass is armed for a sector that its home has
logged_below : (armed : Option ℕ) (i size : ℕ) → armed ≡ Some i → logged_fits armed size ≡ true → i < size
logged_below armed i size is fits = ltb-true i size (subst (λ o. logged_fits o size ≡ true) is fits)

-- the crew in the phase that the head says, and the array
opened_as : {S L : Type 0} (mean : S → Meaning) (place : L → Geometry) (v : Volume S L) → LetPass mean place v
    → crew_of place v.array ≡ opened_crew (place v.array.source) (place v.array.target) v.array.head
opened_as mean place v pass = ap (λ p. crew p (place v.array.source) (place v.array.target)) pass.phase

abbrev by_head : {L : Type 0} → Array L → Array L
by_head a = record { source = a.source; target = a.target; phase = phase_by a.head.progress; head = a.head }

by_its_head : {L : Type 0} (a : Array L) → a.phase ≡ phase_by a.head.progress → a ≡ by_head a
by_its_head a is = ap (λ p. record { source = a.source; target = a.target; phase = p; head = a.head }) is

pub logged_home : {S L : Type 0} (mean : S → Meaning) (place : L → Geometry) (i : ℕ) (v : Volume S L) → LetPass mean place v → v.array.head.armed ≡ Some i → HasHome place v.array i
logged_home mean place i v pass is =
    let s = place v.array.source in
    let t = place v.array.target in
    let h = v.array.head in
    let a = mean v.shelf in
    let u = opened_volume s t h in
    let below = logged_below h.armed i h.size is (both_left (logged_fits h.armed h.size) _ pass.fits) in
    let here = subst (λ w. enough w a ≡ true) (opened_as mean place v pass) pass.enough in
    subst (λ y. HasHome place y i) (sym (by_its_head v.array pass.phase))
    (in_home (home_by u i) u.crew s t h.backup i a (home_has u a i (fits_housed h a s t pass.fits) here below))

-- Whatever the log holds, an open begins with its head.
head_first : (armed : Option ℕ) (s t : Geometry) (h : Head) (a b : Meaning) → enough (opened_crew s t h) a ≡ true → ((k : ℕ) → b.present k ≡ true → a.present k ≡ true)
    → (ps : List Part) × OpenParts armed s t h a b (Plain (λ f. headed h f) ∷ ps)
head_first None s t h a b here left = ([], refl)
head_first (Some i) s t h a b here left =
    let w = opened_crew s t h in
    let x = common a LOGGED_DATUM_AT in
    let y = common a LOGGED_PARITY_AT in (
      Plain (λ f. applied (home_by (opened_volume s t h) i) s t h.backup i x y f) ∷ Checkpoint h.source h.progress None ∷ [],
      record {
        datum = x;
        parity = y;
        logged_datum = seen_until w (λ m. common m LOGGED_DATUM_AT) x left (seen_now w (λ m. common m LOGGED_DATUM_AT) a (common_seen LOGGED_DATUM_AT) here);
        logged_parity = seen_until w (λ m. common m LOGGED_PARITY_AT) y left (seen_now w (λ m. common m LOGGED_PARITY_AT) a (common_seen LOGGED_PARITY_AT) here);
        parts = refl;
      },
    )

-- met while the head was spread
pub spread_met : {S L : Type 0} (mean : S → Meaning) (place : L → Geometry) (v : Volume S L) (shelf : S) (e : Refused) → LetPass mean place v
    → Torn (headed v.array.head) (mean v.shelf) (mean shelf) × Met (crew_of place v.array) (OnHeads (mean v.shelf)) (mean shelf) e → WentOn mean place v (onto v shelf) (Err e)
spread_met mean place v shelf e pass cut =
    let s = place v.array.source in
    let t = place v.array.target in
    let h = v.array.head in
    let first = head_first h.armed s t h (mean v.shelf) (mean shelf) (subst (λ w. enough w (mean v.shelf) ≡ true) (opened_as mean place v pass) pass.enough) (was_present cut.0) in (
      met_as (OnHeads (mean v.shelf)) (OnMember reads_and_writes (mean v.shelf)) (heads_on_member refl refl (mean v.shelf)) e cut.1,
      record { list = Plain (λ f. headed h f) ∷ first.0; parts = first.1; ends = inl cut.0 },
    )

-- a head that is not armed was spread
pub spread_done : {S L : Type 0} (mean : S → Meaning) (place : L → Geometry) (v : Volume S L) (shelf : S) → LetPass mean place v → v.array.head.armed ≡ None
    → Passed (crew_of place v.array) (headed v.array.head) (mean v.shelf) (mean shelf) → WentOn mean place v (onto v shelf) (Ok tt)
spread_done mean place v shelf pass is passed =
    let s = place v.array.source in
    let t = place v.array.target in
    let h = v.array.head in
    record {
      list = Plain (λ f. headed h f) ∷ [];
      parts = subst (λ o. OpenParts o s t h (mean v.shelf) (mean shelf) (Plain (λ f. headed h f) ∷ [])) (sym is) refl;
      ends = (mean shelf, subst (λ w. Passed w (headed h) (mean v.shelf) (mean shelf)) (opened_as mean place v pass) passed, (refl, refl));
    }

-- a spread of a head leaves the log
log_left : (h : Head) (a b : Meaning) (t : ℕ) → (t ≡ HEAD_AT → ⊥) → Torn (headed h) a b → (k : ℕ) → b.current k t ≡ a.current k t
log_left h a b t other torn k = elim (torn.current k t) [ inl same ↦ same | inr set ↦ set ∙ sector_left HEAD_AT (head_bytes h) a.current k t other ]

-- what a write of a sector to its home is followed by, when it is done again
abbrev disarm : Head → List Part
disarm h = Checkpoint h.source h.progress None ∷ []

-- the head was spread and the log read, and the rest ended so
redo_went : {S L : Type 0} (mean : S → Meaning) (place : L → Geometry) (i : ℕ) (v w : Volume S L) (before after : S) → LetPass mean place v → v.array.head.armed ≡ Some i
    → Passed (crew_of place v.array) (headed v.array.head) (mean v.shelf) (mean before) → (o r : Result Unit Refused) → RedoneBy place (by_head v.array) i (mean before) (mean after) o
    → ((f : Step) → Carries (crew_of place (by_head v.array)) reads_and_writes f (mean before) (mean after) o
    → PartsEnd (crew_of place (by_head v.array)) (Plain f ∷ disarm v.array.head) v.array.head (mean before) w.array.head (mean w.shelf) r)
    → ((k : ℕ) → (mean w.shelf).present k ≡ true → (mean after).present k ≡ true) → OpenedBy mean place v w r
redo_went mean place i v w before after pass is passed o r redone rest left =
    let s = place v.array.source in
    let t = place v.array.target in
    let h = v.array.head in
    let c = opened_crew s t h in
    let step : Step = λ f. home_step place (by_head v.array) i redone.datum redone.parity f in
    let ps = Plain (λ f. headed h f) ∷ Plain step ∷ disarm h in
    record {
      list = ps;
      parts = subst (λ p. OpenParts p s t h (mean v.shelf) (mean w.shelf) ps) (sym is) (record {
        datum = redone.datum;
        parity = redone.parity;
        logged_datum = sector_before LOGGED_DATUM_AT passed.may (log_left h (mean v.shelf) (mean before) LOGGED_DATUM_AT (λ e. absurd (omega (arith, e))) passed.may) redone.datum
            (seen_until c (λ m. common m LOGGED_DATUM_AT) redone.datum left redone.logged_datum);
        logged_parity = sector_before LOGGED_PARITY_AT passed.may (log_left h (mean v.shelf) (mean before) LOGGED_PARITY_AT (λ e. absurd (omega (arith, e))) passed.may) redone.parity
            (seen_until c (λ m. common m LOGGED_PARITY_AT) redone.parity left redone.logged_parity);
        parts = refl;
      });
      ends = plain_then (Plain step ∷ disarm h) h w.array.head (mean v.shelf) (mean before) (mean w.shelf)
          (subst (λ y. Passed y (headed h) (mean v.shelf) (mean before)) (opened_as mean place v pass) passed) r (rest step redone.carries);
    }

-- met in the log or at the places
pub redo_met : {S L : Type 0} (mean : S → Meaning) (place : L → Geometry) (i : ℕ) (v : Volume S L) (before after : S) (e : Refused) → LetPass mean place v
    → v.array.head.armed ≡ Some i → Passed (crew_of place v.array) (headed v.array.head) (mean v.shelf) (mean before)
    → RedoneBy place v.array i (mean before) (mean after) (Err e) → WentOn mean place v (onto v after) (Err e)
redo_met mean place i v before after e pass is passed redone = (
  met_later passed.may (OnMember reads_and_writes (mean before)) (λ f n. n) e redone.carries.1,
  redo_went mean place i v (onto v after) before after pass is passed (Err e) (Err e)
      (subst (λ y. RedoneBy place y i (mean before) (mean after) (Err e)) (by_its_head v.array pass.phase) redone) (λ f s. inl s.0) (λ k there. there),
)

-- the checkpoint that follows
disarmed : {S L : Type 0} (mean : S → Meaning) (place : L → Geometry) (i : ℕ) (v w : Volume S L) (before after : S)
    → LetPass mean place v → v.array.head.armed ≡ Some i → Passed (crew_of place v.array) (headed v.array.head) (mean v.shelf) (mean before)
    → RedoneBy place v.array i (mean before) (mean after) (Ok tt) → (r : Result Unit Refused)
    → CheckpointOf mean place v.array.head.source v.array.head.progress None (onto v after) w r → OpenedBy mean place v w r
disarmed mean place i v w before after pass is passed redone r c =
    let h = v.array.head in
    let own = opened_as mean place v pass in
    let b = mean after in
    let e = mean w.shelf in
    let k = w.array.head in
    let last = checkpoint_last (crew_of place (by_head v.array)) h.source h.progress None h k b e (number_left h.armed i h.number is pass.left) r
    (subst (λ y. Checkpointed y h.source h.progress None h k b e r) own c.stage) c.fits in
    redo_went mean place i v w before after pass is passed (Ok tt) r
    (subst (λ y. RedoneBy place y i (mean before) b (Ok tt)) (by_its_head v.array pass.phase) redone)
    (λ f s. plain_then (disarm h) h k (mean before) b e s.2 r last)
    (was_present (parts_may (crew_of place (by_head v.array)) (disarm h) h k b e r last))

-- disarmed after the logged write was done again, or met there
pub redo_ends : {S L : Type 0} (mean : S → Meaning) (place : L → Geometry) (i : ℕ) (v w : Volume S L) (before after : S)
    → LetPass mean place v → v.array.head.armed ≡ Some i → Passed (crew_of place v.array) (headed v.array.head) (mean v.shelf) (mean before)
    → RedoneBy place v.array i (mean before) (mean after) (Ok tt) → (r : Result Unit Refused)
    → CheckpointOf mean place v.array.head.source v.array.head.progress None (onto v after) w r → WentOn mean place v w r
redo_ends mean place i v w before after pass is passed redone (Ok u) c = disarmed mean place i v w before after pass is passed redone (Ok u) c
redo_ends mean place i v w before after pass is passed redone (Err e) c = (
  met_later passed.may (OnMember reads_and_writes (mean before)) (λ f n. n) e
      (met_later redone.carries.0 (OnHeads (mean after)) (heads_on_member refl refl (mean after)) e
      (checkpoint_met e (number_left v.array.head.armed i v.array.head.number is pass.left) c.stage)),
  disarmed mean place i v w before after pass is passed redone (Err e) c,
)

-- what the judge of a head knows
pub let_pass : {S L : Type 0} (mean : S → Meaning) (place : L → Geometry) (m : Volume S L) (h : Head) (phase : Phase) → phase ≡ phase_by h.progress
    → head_fits h (mean m.shelf) (place m.array.source) (place m.array.target) ≡ true
    → enough (crew (phase_by h.progress) (place m.array.source) (place m.array.target)) (mean m.shelf) ≡ true → cannot_disarm h.armed h.number ≡ false
    → LetPass mean place (headed_by m phase h)
let_pass mean place m h phase is fits here left = record {
  phase = is;
  fits = fits;
  enough = subst (λ p. enough (crew p (place m.array.source) (place m.array.target)) (mean m.shelf) ≡ true) (sym is) here;
  left = left;
}

-- what is done once the verdict is told is done by an open
open_in_call : (a : Meaning) (f : Fault) → OnMember reads_and_writes a f → InCall Open None a f
open_in_call a f n = in_call Open a f (member_as (operates_all Open refl refl refl) a f n)

-- taken up from the head that was found, or met on the way
taken_by : {S L : Type 0} (mean : S → Meaning) (place : L → Geometry) (sl tl : Label) (a : Meaning) (m w : Volume S L) (h : Head) (phase : Phase) → phase ≡ phase_by h.progress
    → m.hand ≡ None → TakenUp sl tl (place m.array.source) (place m.array.target) a (mean m.shelf) h → Alike mean (headed_by m phase h) w → (r : Result Unit Refused)
    → WentOn mean place (headed_by m phase h) w r → TookUp sl tl (place m.array.source) (place m.array.target) a (known place w) w.array.head (mean w.shelf) r
taken_by mean place sl tl a m w h phase is hand taken alike (Ok u) went = record {
  head = h;
  opens = record { mid = mean m.shelf; taken = taken; list = went.list; parts = went.parts; through = went.ends };
  known = search rules;
}
taken_by mean place sl tl a m w h phase is hand taken alike (Err e) went = inr (inr (inr (record {
  head = h;
  torn = record { mid = mean m.shelf; taken = taken; list = went.1.list; parts = went.1.parts; torn = went.1.ends };
  met = subst (λ p. Met (crew p (place m.array.source) (place m.array.target)) (InCall Open None (mean m.shelf)) (mean w.shelf) e) is
      (met_as (OnMember reads_and_writes (mean m.shelf)) (InCall Open None (mean m.shelf)) (open_in_call (mean m.shelf)) e went.0);
})))

-- the same of the volume before the search, which changes its shelf alone
pub took_up : {S L : Type 0} (mean : S → Meaning) (place : L → Geometry) (name : L → Label) (v m w : Volume S L) (h : Head) (phase : Phase) → phase ≡ phase_by h.progress
    → OnlyShelf v m → v.hand ≡ None
    → TakenUp (name m.array.source) (name m.array.target) (place m.array.source) (place m.array.target) (mean v.shelf) (mean m.shelf) h
    → Alike mean (headed_by m phase h) w → (r : Result Unit Refused) → WentOn mean place (headed_by m phase h) w r
    → TookUp (name v.array.source) (name v.array.target) (place v.array.source) (place v.array.target) (mean v.shelf) (known place w) w.array.head (mean w.shelf) r
took_up mean place name v m w h phase is only hand taken alike r went =
    subst (λ x. TookUp (name x.source) (name x.target) (place x.source) (place x.target) (mean v.shelf) (known place w) w.array.head (mean w.shelf) r) only.array
    (taken_by mean place (name m.array.source) (name m.array.target) (mean v.shelf) m w h phase is (only.hand ∙ hand) taken alike r went)
