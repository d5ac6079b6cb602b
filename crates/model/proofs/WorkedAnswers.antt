-- The worked examples of answers.
use Rattle.std.proofs.Common.{slice_index_or, List, [], ◌∷◌, cond, ◌==◌, ◌∙◌, ◌≡◌, ℕ, true, false, Bool, inl, inr, Some, None, Option, refl, ap, arith}
use Rattle.std.proofs.lemmas.Bool.{both_ways}
use Rattle.answer.specs.declared.Refusal.{Refusal}
use Rattle.answer.specs.declared.Refusal.TheVariants.{MembersLost, NoHead, PowerLost, WrongPhase}
use Rattle.answer.specs.declared.Fault.{Fault}
use Rattle.answer.specs.declared.Operation.{Operation}
use Rattle.answer.specs.declared.Operation.TheVariants.{Restart, Read as Reads}
use Rattle.answer.specs.declared.Refused.{Refused}
use Rattle.model.specs.Crew.{Crew}
use Rattle.model.specs.declared.phase.Phase.{Phase}
use Rattle.model.specs.declared.phase.Phase.TheVariants.{Shut}
use Rattle.layout.specs.Labels.{true_label}
use Rattle.model.specs.Answers.{OpenEnded}
use Rattle.model.specs.Handed.{Handed}
use Rattle.model.specs.Handed.Handed.{Distance, Row, Counts}
use Rattle.model.specs.Knowing.{Volume, volume}
use Rattle.model.specs.Worked.{label, mirror, mirror_label, stripe}
use Rattle.model.specs.WorkedAnswers.{AnswerExamples, MakingAnswers, bare, dark, met_at, plain}
use Rattle.model.specs.WorkedCalls.{first, under, whole}
use Rattle.model.proofs.WorkedCalls.{begins, finishes, first_fits, keeps, searched}
use Rattle.model.specs.Reading.{content_of}
use Rattle.model.specs.Steps.{seen_by}
use Rattle.model.specs.WorkedSteps.{resting}
use Rattle.model.proofs.Working.{restarted, same, seen}

abbrev is_some : {A : Type 0} → Option A → Bool
is_some None = false
is_some (Some x) = true

none_some : {A : Type 0} {x : A} → None ≡ Some x → ⊥
none_some e = both_ways false refl (ap is_some e)

some_none : {A : Type 0} {x : A} → Some x ≡ None → ⊥
some_none e = both_ways true (ap is_some e) refl

abbrev is_power : Refusal → Bool
is_power PowerLost = true
is_power r = false

abbrev distance_in : Handed → ℕ
distance_in (Distance n) = n
distance_in h = 0

abbrev row_in : Handed → ℕ
row_in (Row row) = row
row_in h = 0

abbrev rows_of : Handed → ℕ
rows_of (Counts rows kept) = rows
rows_of h = 0

abbrev is_shut : Phase → Bool
is_shut (Shut why) = true
is_shut phase = false

no_head_found : OpenEnded mirror_label (label 1) mirror stripe bare (volume (Shut WrongPhase) mirror stripe first None) first bare (plain NoHead)
no_head_found = (
  record { crew = refl; hand = refl },
  inr (inr (inl (record {
    found = None;
    mid = bare;
    searched = record { restarted = bare; restarts = restarted bare refl (λ k s. refl); looked = record { may = same bare; on = λ e. e }; led = λ k g lt h. both_ways false refl h.there };
    answer = record { by = refl; fault = refl; same = refl };
  }))),
)

without_cause : OpenEnded mirror_label (label 1) mirror stripe whole (volume (Shut WrongPhase) mirror stripe first None) first whole (met_at MembersLost Reads None) → ⊥
without_cause r =
    elim r.1 [
      | inl off ↦ both_ways false refl (ap (λ (e : Refused). is_power e.refusal) off.refused)
      | inr o ↦ elim o [
        | inl dark ↦ both_ways false refl (ap is_power dark.cut.refusal)
        | inr p ↦ elim p [
          | inl away ↦ some_none away.answer.fault
          | inr m ↦ elim m.met.why [ inl cut ↦ both_ways false refl (ap is_power cut.refusal) | inr few ↦ both_ways true few.lost refl ]
        ]
      ]
    ]

abbrev sector_in : Option Fault → ℕ
sector_in None = 0
sector_in (Some f) = f.sector

abbrev is_read : Operation → Bool
is_read Reads = true
is_read o = false

restarts_late : OpenEnded mirror_label (label 1) mirror stripe (under first) (volume (Shut PowerLost) mirror stripe first None) first dark (met_at PowerLost Restart None) → ⊥
restarts_late r =
    elim r.1 [
      | inl off ↦ (let differs : 4 ≡ 0 = ap (λ (e : Refused). sector_in e.fault) off.refused in omega (arith, differs))
      | inr o ↦ elim o [
        | inl dark ↦ both_ways false refl (ap is_read dark.fault.operation)
        | inr p ↦ elim p [ inl away ↦ some_none away.answer.fault | inr m ↦ both_ways false refl m.met.fault.operation ]
      ]
    ]

-- sector 1 of the mirrors, by whether each member is there
abbrev shown : Bool → Bool → List ℕ
shown x y = content_of resting (seen_by (λ k. cond (k == 0) x y) whole) 1

shown_by : (there : ℕ → Bool) → content_of resting (seen_by there whole) 1 ≡ shown (there 0) (there 1)
shown_by there = refl

shown_other : (x y : Bool) → 5 ∷ [] ≡ shown x y → ⊥
shown_other true true e = (let differs = ap (λ bs. slice_index_or bs 0 0) e in omega (arith, differs))
shown_other true false e = (let differs = ap (λ bs. slice_index_or bs 0 0) e in omega (arith, differs))
shown_other false true e = (let differs = ap (λ bs. slice_index_or bs 0 0) e in omega (arith, differs))
shown_other false false e = (let differs = ap (λ bs. slice_index_or bs 0 0) e in omega (arith, differs))

pub answer_examples : AnswerExamples
unfolding true_label
answer_examples = record {
  read = record { by = refl; goes = record { on = λ e. e; enough = λ e. e }; head = refl; known = refl; out = seen resting.crew whole whole (λ m. content_of resting m 1) (λ k here. here) refl };
  past = inl (record { by = refl; fault = refl; same = refl });
  went_dark = inr (record { by = refl; met = record { why = inl (record { refusal = refl; off = refl }); fault = record { operation = refl; there = refl; sector = omega arith; row = refl } }; head = refl; known = refl });
  bereft = inr (record { by = refl; met = record { why = inr (record { refusal = refl; on = refl; few = refl; lost = refl }); fault = record { operation = refl; there = refl; sector = omega arith; row = refl } }; head = refl; known = refl });
  other_content = λ g. shown_other (g.out.there 0) (g.out.there 1) (g.out.is ∙ shown_by g.out.there);
  done_dark = λ g. both_ways false refl (g.goes.on refl);
  not_past = λ r. elim r [ inl t ↦ none_some t.by | inr m ↦ m.met.fault ];
  done_past = λ g. some_none g.by;
  without_cause = λ r. elim r [
    | inl t ↦ none_some t.by
    | inr m ↦ elim m.met.why [ inl cut ↦ both_ways false refl (ap is_power cut.refusal) | inr few ↦ both_ways true few.few refl ]
  ];
  lit = λ r. elim r [
    | inl t ↦ none_some t.by
    | inr m ↦ elim m.met.why [ inl cut ↦ both_ways true cut.off refl | inr few ↦ both_ways true (ap is_power few.refusal) refl ]
  ];
  writing = λ r. elim r [ inl t ↦ none_some t.by | inr m ↦ both_ways false refl m.met.fault.operation ];
  no_operation = λ r. elim r [ inl t ↦ none_some t.by | inr m ↦ m.met.fault ];
  no_sector = λ r. elim r [ inl t ↦ none_some t.by | inr m ↦ (let below = m.met.fault.sector in omega (arith, below)) ];
  keep_done = record { by = refl; goes = record { on = λ e. e; enough = λ e. e }; head = keeps; known = refl; out = refl };
  keep_met = inr (record { by = refl; met = record { why = inl (record { refusal = refl; off = refl }); fault = record { operation = refl; there = refl; sector = omega arith; row = refl } }; head = refl; known = refl });
  keep_without_row = λ r. elim r [ inl t ↦ none_some t.by | inr m ↦ none_some m.met.fault.row ];
  not_counted = λ g. (let e : 0 ≡ 1 = ap (λ (v : Volume). v.kept) g.known in omega (arith, e));
  begin_done = record { by = refl; goes = record { on = λ e. e; enough = λ e. e }; head = begins; known = refl; out = refl };
  other_distance = λ g. (let e : 2 ≡ 1 = ap distance_in g.out in omega (arith, e));
  granted = record { by = refl; goes = record { on = λ e. e; enough = λ e. e }; head = refl; known = refl; out = refl };
  other_grant = λ g. (let e : 1 ≡ 0 = ap row_in g.out in omega (arith, e));
  finish_done = record { by = refl; goes = record { on = λ e. e; enough = λ e. e }; head = finishes; known = refl; out = refl };
  other_count = λ g. (let e : 2 ≡ 1 = ap rows_of g.out in omega (arith, e));
}

pub making_answers : MakingAnswers
unfolding true_label
making_answers = record {
  created = record { by = refl; goes = record { on = λ e. e; enough = λ e. e }; first = record { number = refl; source = refl; progress = refl; size = refl; backup = refl; armed = refl }; known = refl };
  no_slots = (record { crew = refl; hand = refl }, inl (record { by = refl; fault = refl; same = refl }));
  create_met = (record { crew = refl; hand = refl }, inr (record { by = refl; met = record { why = inl (record { refusal = refl; off = refl }); fault = record { operation = refl; there = refl; sector = omega arith; row = refl } } }));
  create_reads = λ r. elim r.1 [ inl t ↦ none_some t.by | inr m ↦ both_ways false refl m.met.fault.operation ];
  create_dark = λ g. both_ways false refl (g.goes.on refl);
  not_shut = λ r. both_ways false refl (ap (λ (c : Crew). is_shut c.phase) r.0.crew);
  no_head = no_head_found;
  opened = record {
    head = first;
    mid = under first;
    taken = record { found = searched first (under first) first_fits (omega arith) (omega arith) (λ k. refl) (λ k. refl) refl (λ k s. refl); verdict = refl };
    goes = record { on = λ e. e; enough = λ e. e };
    last = refl;
    known = refl;
  };
  open_restarts = restarts_late;
  open_without_cause = without_cause;
}
