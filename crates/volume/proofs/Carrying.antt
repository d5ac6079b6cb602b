-- Calls of several parts: how those from here on end.
use Rattle.std.proofs.Common.{ℕ, ◌<◌, List, [], ◌∷◌, Ok, Err, OnOk, Option, Result, inl, inr, sym, subst}
use Rattle.answer.specs.declared.Refused.{Refused}
use Rattle.layout.specs.declared.label.Label.{Label}
use Rattle.head.specs.Heads.{Fits}
use Rattle.head.specs.declared.TheConstants.{MOST_NUMBER}
use Rattle.head.specs.declared.state.Head.{Head}
use Rattle.head.specs.declared.state.Progress.{Progress}
use Rattle.shelf.specs.Meaning.{Meaning}
use Rattle.model.specs.Crew.{Crew}
use Rattle.model.specs.Images.{headed}
use Rattle.model.specs.May.{May}
use Rattle.model.specs.Steps.{Part, Passed, Step, Through, Torn, TornIn}
use Rattle.model.specs.Steps.Part.{Checkpoint, Plain}
use Rattle.model.proofs.Mays.{may_refl, may_then, may_wider}
use Rattle.stage.specs.Checkpoint.{Checkpointed}
use Rattle.volume.specs.Volumes.{PartsEnd}
use Rattle.volume.proofs.Coming.{through_one, torn_one}

-- a step was carried out, and then the rest ended so
pub plain_then : {w : Crew} {f : Step} (ps : List Part) (h k : Head) (a m b : Meaning) → Passed w f a m → (r : Result Unit Refused) → PartsEnd w ps h m k b r
    → PartsEnd w (Plain f ∷ ps) h a k b r
plain_then ps h k a m b passed (Ok u) rest = (m, passed, rest)
plain_then ps h k a m b passed (Err e) rest = inr (m, passed, rest)

-- the same of a checkpoint
pub checkpoint_then : {w : Crew} {s : Label} {p : Progress} {i : Option ℕ} (ps : List Part) (h j k : Head) (a m b : Meaning) → Checkpointed w s p i h j a m (Ok tt) → Fits j
    → (r : Result Unit Refused) → PartsEnd w ps j m k b r → PartsEnd w (Checkpoint s p i ∷ ps) h a k b r
checkpoint_then ps h j k a m b c fits (Ok u) rest = (j, m, record { next = c.0; fits = fits }, c.1, rest)
checkpoint_then ps h j k a m b c fits (Err e) rest = (j, record { next = c.0; fits = fits }, inr (m, c.1, rest))

-- a checkpoint with nothing after it
pub checkpoint_last : (w : Crew) (s : Label) (p : Progress) (i : Option ℕ) (h k : Head) (a b : Meaning) → h.number < MOST_NUMBER → (r : Result Unit Refused)
    → Checkpointed w s p i h k a b r → OnOk r (Fits k) → PartsEnd w (Checkpoint s p i ∷ []) h a k b r
checkpoint_last w s p i h k a b left (Ok u) c fits = through_one c fits
checkpoint_last w s p i h k a b left (Err e) c fits = torn_one e left c

-- whatever parts wrote
abbrev pub anything : ℕ → ℕ → List ℕ → Type 0
anything k s x = Unit {0}

step_may : (f : Step) (a b : Meaning) → Torn f a b → May anything a b
step_may f a b torn = may_wider (λ k s x p. tt) torn

through_may : (w : Crew) (ps : List Part) (h k : Head) (a b : Meaning) → Through w ps h a k b → May anything a b
through_may w [] h k a b t = subst (May anything a) (sym t.1) (may_refl a)
through_may w (Plain f ∷ ps) h k a b t = may_then (step_may f a t.0 t.1.may) (through_may w ps h k t.0 b t.2)
through_may w (Checkpoint s p i ∷ ps) h k a b t = may_then (step_may (headed t.0) a t.1 t.3.may) (through_may w ps t.0 k t.1 b t.4)

torn_may : (w : Crew) (ps : List Part) (h : Head) (a b : Meaning) → TornIn w ps h a b → May anything a b
torn_may w [] h a b t = absurd t
torn_may w (Plain f ∷ ps) h a b t = elim t [ inl torn ↦ step_may f a b torn | inr n ↦ may_then (step_may f a n.0 n.1.may) (torn_may w ps h n.0 b n.2) ]
torn_may w (Checkpoint s p i ∷ ps) h a b t = elim t.2 [
  | inl torn ↦ step_may (headed t.0) a b torn
  | inr n ↦ may_then (step_may (headed t.0) a n.0 n.1.may) (torn_may w ps t.0 n.0 b n.2)
]

pub parts_may : (w : Crew) (ps : List Part) (h k : Head) (a b : Meaning) (r : Result Unit Refused) → PartsEnd w ps h a k b r → May anything a b
parts_may w ps h k a b (Ok u) t = through_may w ps h k a b t
parts_may w ps h k a b (Err e) t = torn_may w ps h a b t
