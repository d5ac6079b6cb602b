-- Calls that are one checkpoint or nothing: how they end, and what they make of every sector.
use Rattle.std.proofs.Common.{◌≡◌, ℕ, zero, suc, ◌+◌, ◌<◌, ◌∙◌, List, [], ◌∷◌, Some, None, Ok, Err, Option, Result, inl, inr, refl, sym, ap, subst, rules, arith}
use Rattle.answer.specs.declared.Fault.{Fault}
use Rattle.answer.specs.declared.Refusal.{Refusal}
use Rattle.answer.specs.declared.Refused.{Refused}
use Rattle.layout.specs.Geometry.{Geometry}
use Rattle.layout.specs.declared.label.Label.{Label}
use Rattle.head.specs.Heads.{Fits, kept_rows, settled_rows}
use Rattle.head.specs.declared.TheConstants.{MOST_NUMBER}
use Rattle.head.specs.declared.state.Head.{Head}
use Rattle.head.specs.declared.state.Progress.{Progress}
use Rattle.head.specs.declared.state.Progress.TheVariants.{Moving}
use Rattle.shelf.specs.Meaning.{Meaning}
use Rattle.model.specs.Answers.{HeadLeft, InCall, MetAt, hand_left, row_about}
use Rattle.model.specs.Crew.{Crew}
use Rattle.model.specs.Effects.{DoneBy, MetBy, PartsOf, checkpoint_of, progress_after, some_first, source_after}
use Rattle.model.specs.Faults.{OnHeads}
use Rattle.model.specs.Handed.Handed.{Nothing}
use Rattle.model.specs.Knowing.{Volume as Known}
use Rattle.model.specs.May.{May}
use Rattle.model.specs.Steps.{Looked, Part, Passed, Step, Through, Torn, TornIn}
use Rattle.model.specs.Steps.Part.{Checkpoint}
use Rattle.model.specs.declared.request.Request.{Request}
use Rattle.model.specs.declared.request.Request.TheVariants.{HandBack, Settle}
use Rattle.model.specs.Verdicts.{emptied}
use Rattle.model.proofs.Mays.{may_refl, may_wider}
use Rattle.stage.specs.Checkpoint.{Checkpointed}
use Rattle.volume.specs.declared.Volume.{Volume}
use Rattle.volume.specs.Volumes.{CallCame, CheckpointOf, OnlyHand, known, rowed}
use Rattle.volume.proofs.Ending.{checkpoint_met, heads_on_member, holding, is_holding, met_rowed}
use Rattle.volume.proofs.Looking.{in_call_of_row, met_as}

-- a call whose parts come at once
pub not_looked : (w : Crew) (a : Meaning) → Looked w a a
not_looked w a = record { may = may_refl a; goes = record { on = λ e. e; enough = λ e. e } }

-- a call that only looks, done
pub looks_only : (r : Request) (v : Known) (l : Label) (h k : Head) (a b : Meaning) → Looked v.crew a b → PartsOf r v l h a b [] → k ≡ h → DoneBy r v l h a b k
looks_only r v l h k a b looked parts same = record { mid = b; looked = looked; list = []; parts = parts; through = (same, refl) }

-- one checkpoint was done
pub through_one : {w : Crew} {s : Label} {p : Progress} {i : Option ℕ} {h k : Head} {a b : Meaning} → Checkpointed w s p i h k a b (Ok tt) → Fits k
    → Through w (Checkpoint s p i ∷ []) h a k b
through_one {w} {s} {p} {i} {h} {k} {a} {b} c fits = (k, b, record { next = c.0; fits = fits }, c.1, (refl, refl))

-- or it was met, where a number was left, whatever was to follow
pub torn_at : {w : Crew} {s : Label} {p : Progress} {i : Option ℕ} {h k : Head} {a b : Meaning} (ps : List Part) (e : Refused) → h.number < MOST_NUMBER
    → Checkpointed w s p i h k a b (Err e) → TornIn w (Checkpoint s p i ∷ ps) h a b
torn_at {w} {s} {p} {i} {h} {k} {a} {b} ps e lt c = elim c.1 [
  | inl spent ↦ (let last = spent.last in absurd (omega (arith, lt, last)))
  | inr m ↦ (m.head, record { next = m.next; fits = m.fits }, inl m.torn)
]

pub torn_one : {w : Crew} {s : Label} {p : Progress} {i : Option ℕ} {h k : Head} {a b : Meaning} (e : Refused) → h.number < MOST_NUMBER
    → Checkpointed w s p i h k a b (Err e) → TornIn w (Checkpoint s p i ∷ []) h a b
torn_one e lt c = torn_at [] e lt c

-- after a step over so many sectors, if there are any
pub through_first : (w : Crew) (h k : Head) (a m b : Meaning) (n : ℕ) (f : Step) (ps : List Part) → (n ≡ 0 → m ≡ a) → (0 < n → Passed w f a m) → Through w ps h m k b
    → Through w (some_first n f ps) h a k b
through_first w h k a m b zero f ps none first rest = subst (λ x. Through w ps h x k b) (none refl) rest
through_first w h k a m b (suc n) f ps none first rest = (m, first (omega arith), rest)

pub torn_after : (w : Crew) (h : Head) (a m b : Meaning) (n : ℕ) (f : Step) (ps : List Part) → (n ≡ 0 → m ≡ a) → (0 < n → Passed w f a m) → TornIn w ps h m b
    → TornIn w (some_first n f ps) h a b
torn_after w h a m b zero f ps none first rest = subst (λ x. TornIn w ps h x b) (none refl) rest
torn_after w h a m b (suc n) f ps none first rest = inr (m, first (omega arith), rest)

-- in that step
pub torn_first : (w : Crew) (h : Head) (a b : Meaning) (n : ℕ) (f : Step) (ps : List Part) → 0 < n → Torn f a b → TornIn w (some_first n f ps) h a b
torn_first w h a b zero f ps lt torn = absurd (omega (arith, lt))
torn_first w h a b (suc n) f ps lt torn = inl torn

-- a checkpoint that was met may have written heads
pub checkpoint_may : {w : Crew} {s : Label} {p : Progress} {i : Option ℕ} {h k : Head} {a b : Meaning} (e : Refused) → h.number < MOST_NUMBER
    → Checkpointed w s p i h k a b (Err e) → May (λ k s x. Unit {0}) a b
checkpoint_may {w} {s} {p} {i} {h} {k} {a} {b} e lt c = elim c.1 [
  | inl spent ↦ (let last = spent.last in absurd (omega (arith, lt, last)))
  | inr m ↦ may_wider (λ k s x p. tt) m.torn
]

-- a call that is one checkpoint, done
pub checkpoint_done : (r : Request) (v : Known) (l : Label) (h k : Head) (a b : Meaning) → PartsOf r v l h a b (checkpoint_of r v l h ∷ [])
    → Checkpointed v.crew (source_after r l h) (progress_after r v l h) None h k a b (Ok tt) → Fits k → DoneBy r v l h a b k
checkpoint_done r v l h k a b parts c fits =
    record { mid = a; looked = not_looked v.crew a; list = checkpoint_of r v l h ∷ []; parts = parts; through = through_one c fits }

-- the same, met
pub checkpoint_torn : (r : Request) (v : Known) (l : Label) (h k : Head) (a b : Meaning) (e : Refused) → PartsOf r v l h a b (checkpoint_of r v l h ∷ [])
    → h.number < MOST_NUMBER → Checkpointed v.crew (source_after r l h) (progress_after r v l h) None h k a b (Err e) → MetBy r v l h a b
checkpoint_torn r v l h k a b e parts left c =
    inr (record { mid = a; looked = not_looked v.crew a; list = checkpoint_of r v l h ∷ []; parts = parts; torn = torn_one e left c })

-- a call that is one checkpoint of v, met
pub checkpoint_met_at : {S L : Type 0} (mean : S → Meaning) (place : L → Geometry) (verdict : Option Refusal) (r : Request) (label : Label) (progress : Progress) (v w : Volume S L)
    (e : Refused) → verdict ≡ None → v.array.head.number < MOST_NUMBER → CheckpointOf mean place label progress None v w (Err e)
    → ((f : Fault) → OnHeads (mean v.shelf) f → InCall r (row_about r (known place v)) (mean v.shelf) f) → (w.array.head ≡ v.array.head → HeadLeft r v.array.head w.array.head)
    → hand_left r v.hand ≡ v.hand → MetAt verdict r (known place v) v.array.head (mean v.shelf) (known place w) w.array.head (mean w.shelf) e
checkpoint_met_at mean place verdict r label progress v w e none left c names head hand = record {
  by = none;
  met = met_as (OnHeads (mean v.shelf)) (InCall r (row_about r (known place v)) (mean v.shelf)) names e (checkpoint_met e left c.stage);
  head = head c.stage.0;
  known = search rules;
}

-- a hand that was emptied
pub hand_emptied : {S L : Type 0} (mean : S → Meaning) (place : L → Geometry) (l : Label) (row : ℕ) (v w : Volume S L) (held : Option ℕ) → OnlyHand v w held
    → DoneBy (HandBack row) (known place v) l v.array.head (mean v.shelf) (mean w.shelf) w.array.head
hand_emptied mean place l row v w held only = record {
  mid = mean v.shelf;
  looked = not_looked (known place v).crew (mean v.shelf);
  list = [];
  parts = (refl, ap mean only.shelf);
  through = (ap (λ y. y.head) only.array, ap mean only.shelf);
}

-- the next target row was settled, with the hand that its grant left, or this was met
settle_by : {S L : Type 0} (mean : S → Meaning) (place : L → Geometry) (name : L → Label) (verdict : Option Refusal) (same : Type 0) (row : ℕ) (v w : Volume S L)
    → verdict ≡ None → v.array.head.number < MOST_NUMBER → (x : Result Unit Refused)
    → CheckpointOf mean place v.array.head.source (Moving (name v.array.target) (settled_rows v.array.head.progress + 1) (kept_rows v.array.head.progress)) None
    (holding v (emptied v.hand row)) w x
    → CallCame mean place name verdict (λ u. Nothing) (Settle row) same v w (rowed (settled_rows v.array.head.progress) x)
settle_by mean place name verdict same row v w none left (Ok x) c =
    (search rules, checkpoint_done (Settle row) (known place v) (name v.array.target) v.array.head w.array.head (mean v.shelf) (mean w.shelf) refl c.stage c.fits)
settle_by mean place name verdict same row v w none left (Err e) c = inr (
  record {
    by = none;
    met = met_rowed (settled_rows v.array.head.progress) (OnHeads (mean v.shelf)) (InCall (Settle row) (Some (settled_rows v.array.head.progress)) (mean v.shelf))
        (λ f n. in_call_of_row (Settle row) (settled_rows v.array.head.progress) (mean v.shelf) f (heads_on_member refl refl (mean v.shelf) f n)) e
        (checkpoint_met e left c.stage);
    head = c.stage.0;
    known = search rules;
  },
  checkpoint_torn (Settle row) (known place v) (name v.array.target) v.array.head w.array.head (mean v.shelf) (mean w.shelf) e refl left c.stage,
)

pub settle_ends : {S L : Type 0} (mean : S → Meaning) (place : L → Geometry) (name : L → Label) (verdict : Option Refusal) (same : Type 0) (row : ℕ) (v m w : Volume S L)
    → verdict ≡ None → v.array.head.number < MOST_NUMBER → OnlyHand v m (emptied v.hand row) → (x : Result Unit Refused)
    → CheckpointOf mean place m.array.head.source (Moving (name m.array.target) (settled_rows m.array.head.progress + 1) (kept_rows m.array.head.progress)) None m w x
    → (about : ℕ) → about ≡ settled_rows m.array.head.progress → (r : Result Unit Refused) → r ≡ rowed about x
    → CallCame mean place name verdict (λ u. Nothing) (Settle row) same v w r
settle_ends mean place name verdict same row v m w none left only x c about is r e =
    let about_v = is ∙ ap (λ y. settled_rows y.head.progress) only.array in
    subst (λ y. CallCame mean place name verdict (λ u. Nothing) (Settle row) same v w y) (sym (e ∙ ap (λ y. rowed y x) about_v))
    (settle_by mean place name verdict same row v w none left x
    (subst (λ y. CheckpointOf mean place y.array.head.source (Moving (name y.array.target) (settled_rows y.array.head.progress + 1) (kept_rows y.array.head.progress)) None y w x)
    (is_holding v m (emptied v.hand row) only) c))
