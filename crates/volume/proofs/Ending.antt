-- How calls end that are one checkpoint.
use Rattle.std.proofs.Common.{◌≡◌, ℕ, ◌<◌, Bool, true, false, Some, None, Err, Option, inl, inr, ap, ◌∙◌, arith}
use Rattle.std.specs.Option.{option_map}
use Rattle.answer.specs.Faults.{fault_in_row, in_row}
use Rattle.answer.specs.declared.Fault.{Fault}
use Rattle.answer.specs.declared.Operation.{Operation}
use Rattle.answer.specs.declared.Operation.TheVariants.{Flush, Write as Writes}
use Rattle.answer.specs.declared.Refused.{Refused}
use Rattle.layout.specs.declared.label.Label.{Label}
use Rattle.head.specs.declared.TheConstants.{MOST_NUMBER}
use Rattle.head.specs.declared.state.Head.{Head}
use Rattle.head.specs.declared.state.Progress.{Progress}
use Rattle.shelf.specs.Meaning.{Meaning}
use Rattle.model.specs.Answers.{InCall, operates}
use Rattle.model.specs.Crew.{Crew}
use Rattle.model.specs.Ends.{Met, Names}
use Rattle.model.specs.Faults.{OnHeads}
use Rattle.model.specs.declared.request.Request.{Request}
use Rattle.stage.specs.Checkpoint.{Checkpointed}
use Rattle.stage.specs.Endings.{OnMember}
use Rattle.stage.proofs.Endings.{on_sector}
use Rattle.volume.specs.declared.Volume.{Volume}
use Rattle.volume.specs.Volumes.{OnlyHand}
use Rattle.volume.proofs.Looking.{in_call}

-- a head on its way is written and flushed on members
pub heads_on_member : {does : Operation → Bool} → does Writes ≡ true → does Flush ≡ true → (a : Meaning) (f : Fault) → OnHeads a f → OnMember does a f
heads_on_member writes flushes a f n = elim n [ inl p ↦ on_sector Writes writes a 0 f p | inr p ↦ on_sector Flush flushes a 0 f p ]

-- so it is an operation of a call that writes and flushes
pub heads_in_call : (r : Request) → operates r Writes ≡ true → operates r Flush ≡ true → (a : Meaning) (f : Fault) → OnHeads a f → InCall r None a f
heads_in_call r writes flushes a f n = in_call r a f (heads_on_member writes flushes a f n)

-- names of a fault, and of the same fault with a row
names_rowed : (row : ℕ) (F G : Fault → Type 0) → ((f : Fault) → F f → G (fault_in_row row f)) → (o : Option Fault) → Names F o → Names G (option_map (fault_in_row row) o)
names_rowed row F G h None n = n
names_rowed row F G h (Some f) n = h f n

-- what was met keeps its cause where its fault is given a row
pub met_rowed : {w : Crew} {b : Meaning} (row : ℕ) (F G : Fault → Type 0) → ((f : Fault) → F f → G (fault_in_row row f)) → (e : Refused) → Met w F b e → Met w G b (in_row e row)
met_rowed {w} {b} row F G h e m = record {
  why = elim m.why [
    | inl cut ↦ inl (record { refusal = cut.refusal; off = cut.off })
    | inr few ↦ inr (record {
      refusal = few.refusal;
      on = few.on;
      few = few.few;
      lost = names_rowed row (λ f. b.present f.member ≡ false) (λ f. b.present f.member ≡ false) (λ f n. n) e.fault few.lost;
    })
  ];
  fault = names_rowed row F G h e.fault m.fault;
}

-- where a number is left, a checkpoint that was not done was met
pub checkpoint_met : {w : Crew} {s : Label} {p : Progress} {i : Option ℕ} {h k : Head} {a b : Meaning} (e : Refused)
    → h.number < MOST_NUMBER → Checkpointed w s p i h k a b (Err e) → Met w (OnHeads a) b e
checkpoint_met {w} {s} {p} {i} {h} {k} {a} {b} e lt c = elim c.1 [ inl spent ↦ (let last = spent.last in absurd (omega (arith, lt, last))) | inr m ↦ m.met ]

-- the volume with another row in hand
abbrev pub holding : {S L : Type 0} → Volume S L → Option ℕ → Volume S L
holding v hand = record { shelf = v.shelf; array = v.array; hand = hand }

pub is_holding : {S L : Type 0} (v m : Volume S L) (hand : Option ℕ) → OnlyHand v m hand → m ≡ holding v hand
is_holding v m hand only =
    ap (λ x. record { shelf = x; array = m.array; hand = m.hand }) only.shelf
    ∙ (ap (λ x. record { shelf = v.shelf; array = x; hand = m.hand }) only.array ∙ ap (holding v) only.hand)
