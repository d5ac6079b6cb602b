-- A logged write that is carried out again.
use Rattle.std.proofs.Common.{◌≡◌, ℕ, ◌+◌, ◌<◌, true, List, Ok, Err, Result, refl, ap, ◌∙◌}
use Rattle.answer.specs.declared.Operation.TheVariants.{Read}
use Rattle.answer.specs.declared.Refused.{Refused}
use Rattle.head.specs.declared.TheConstants.{LOGGED_DATUM_AT, LOGGED_PARITY_AT, SLOTS_AT}
use Rattle.layout.specs.Geometry.{Geometry}
use Rattle.layout.specs.Lawful.{Lawful}
use Rattle.shelf.specs.Meaning.{Meaning}
use Rattle.model.specs.Crew.{Crew, enough}
use Rattle.model.specs.Ends.{GoesOn, Met}
use Rattle.model.specs.Faults.{OnSector}
use Rattle.model.specs.May.{May, nothing}
use Rattle.model.specs.Reading.{common}
use Rattle.model.specs.Readable.{InUse}
use Rattle.model.specs.Steps.{SeenBy, Step}
use Rattle.model.proofs.Carrying.{carried}
use Rattle.model.proofs.Mays.{may_refl, may_then, may_wider, quiet}
use Rattle.model.proofs.Seeing.{common_seen, seen, seen_until, unwritten}
use Rattle.stage.specs.Arrays.{crew_of}
use Rattle.stage.specs.Endings.{Carries, OnMember, only_writes, reads_and_writes}
use Rattle.stage.specs.Places.{RedoneBy, home_step}
use Rattle.stage.specs.declared.array.Array.{Array}
use Rattle.stage.specs.Looks.{OneSure}
use Rattle.stage.proofs.Chains.{names_as, stage_may}
use Rattle.stage.proofs.Endings.{member_as, member_same, on_sector, writes_too}
use Rattle.stage.proofs.Looks.{Looking, look_met, looking_then}
use Rattle.stage.proofs.Places.{one_sure, use_stays}
use Rattle.stage.proofs.Loops.{goes_then, was_present}

-- a step that was carried out after a look, which left what is current
pub carries_looked : (w : Crew) (f : Step) (a m b : Meaning) → Looking w a m → (r : Result Unit Refused) → Carries w only_writes f m b r
    → Carries w reads_and_writes f a b r
carries_looked w f a m b look (Ok u) s =
    let same : (k n : ℕ) → f m.current k n ≡ f a.current k n = λ k n. ap (λ i. f i k n) (unwritten look.may) in
    let torn = may_then (quiet look.may) (may_wider (λ k n x e. e ∙ same k n) s.0) in
    let goes = goes_then look.goes s.1 in
    (torn, goes, carried f torn goes (λ k n there lt. s.2.current k n there lt ∙ same k n) s.2.durable)
carries_looked w f a m b look (Err e) s = (
  may_then (quiet look.may) (may_wider (λ k n x e. e ∙ ap (λ i. f i k n) (unwritten look.may)) s.0),
  record {
    why = s.1.why;
    fault = names_as (OnMember only_writes m) (OnMember reads_and_writes a) (λ x n. member_same look.may x (member_as writes_too m x n)) e.fault s.1.fault;
  },
)

-- a sector of the log is read, after a look that members were enough for: what it holds, or how that was met
pub log_read : (w : Crew) (g : Geometry) → Lawful g → (backup t : ℕ) (a m b : Meaning) (x : List ℕ) → InUse w g backup a → t < SLOTS_AT + backup → Looking w a m
    → (OneSure w t m → May nothing m b × GoesOn w m b × (x ≡ common b t)) → Looking w a b × (x ≡ common b t)
log_read w g law backup t a m b x u lt l shows =
    let s = shows (one_sure g law backup t m (use_stays l g backup u) lt) in
    (looking_then l s.0 s.1, s.2)

pub log_met : (w : Crew) (g : Geometry) → Lawful g → (backup t : ℕ) (a m b : Meaning) (e : Refused) → InUse w g backup a → t < SLOTS_AT + backup → Looking w a m
    → (OneSure w t m → May nothing m b × Met w (OnSector Read m t) b e) → May nothing a b × Met w (OnMember reads_and_writes a) b e
log_met w g law backup t a m b e u lt l shows =
    look_met w (OnSector Read m t) (OnMember reads_and_writes a) l (λ f n. member_same l.may f (on_sector Read refl m t f n)) e
    (shows (one_sure g law backup t m (use_stays l g backup u) lt))

pub no_look : (w : Crew) (a : Meaning) → Looking w a a
no_look w a = record { may = may_refl a; goes = record { on = λ e. e; enough = λ e. e } }

-- a sector of the log, seen of who is there at the end of a look
logged_seen : (w : Crew) (t : ℕ) (a m b : Meaning) (x : List ℕ) → enough w a ≡ true → Looking w a m → x ≡ common m t
    → ((k : ℕ) → b.present k ≡ true → m.present k ≡ true) → SeenBy w a b (λ n. common n t) x
logged_seen w t a m b x here look is were =
    seen_until w (λ n. common n t) x were (seen w (λ n. common n t) x (common_seen t) here (record { may = look.may; goes = look.goes }) is)

-- met while the log was read: what it holds is seen of who was there
pub redo_met : {L : Type 0} (place : L → Geometry) (v : Array L) (i : ℕ) (a b : Meaning) (e : Refused) → enough (crew_of place v) a ≡ true
    → May nothing a b → Met (crew_of place v) (OnMember reads_and_writes a) b e → RedoneBy place v i a b (Err e)
redo_met place v i a b e here m met =
    let w = crew_of place v in
    let look = no_look w a in
    record {
      datum = common a LOGGED_DATUM_AT;
      parity = common a LOGGED_PARITY_AT;
      logged_datum = logged_seen w LOGGED_DATUM_AT a a b _ here look refl (was_present m);
      logged_parity = logged_seen w LOGGED_PARITY_AT a a b _ here look refl (was_present m);
      carries = (quiet m, met);
    }

-- the log was read, and what it held went to its home
pub redo_done : {L : Type 0} (place : L → Geometry) (v : Array L) (i : ℕ) (a m n b : Meaning) (x y : List ℕ) (r : Result Unit Refused)
    → enough (crew_of place v) a ≡ true → Looking (crew_of place v) a m × (x ≡ common m LOGGED_DATUM_AT) → May nothing m n
    → Looking (crew_of place v) a n × (y ≡ common n LOGGED_PARITY_AT) → Carries (crew_of place v) only_writes (home_step place v i x y) n b r → RedoneBy place v i a b r
redo_done place v i a m n b x y r here first between both carries =
    let w = crew_of place v in
    let left = was_present (stage_may w (OnMember only_writes n) _ r carries) in
    record {
      datum = x;
      parity = y;
      logged_datum = logged_seen w LOGGED_DATUM_AT a m b x here first.0 first.1 (λ k there. was_present between k (left k there));
      logged_parity = logged_seen w LOGGED_PARITY_AT a n b y here both.0 both.1 left;
      carries = carries_looked w (home_step place v i x y) a n b both.0 r carries;
    }
