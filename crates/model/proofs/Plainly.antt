-- Nothing is met on the plain shelf.
use Rattle.std.proofs.Common.{◌≡◌, ℕ, true, false, nat_lt, List, Some, None, Option, inl, inr, refl, sym, ◌∙◌}
use Rattle.std.proofs.lemmas.Bool.{both_ways, cases_Bool}
use Rattle.answer.specs.declared.Fault.{Fault}
use Rattle.answer.specs.declared.Refused.{Refused}
use Rattle.shelf.specs.Meaning.{Meaning, plain_meaning}
use Rattle.model.specs.Crew.{Crew}
use Rattle.model.specs.Ends.{Met, Names}
use Rattle.model.specs.Plain.{NoCallMet, NoCreateMet, NoOpenMet}

-- a fault names a member that was there, so it is not gone
fault_there : (m z : ℕ) (new : List ℕ) (F : Fault → Type 0) → ((f : Fault) → F f → nat_lt f.member m ≡ true) → (o : Option Fault) → Names F o
    → Names (λ f. (plain_meaning m z new).present f.member ≡ false) o → ⊥
fault_there m z new F there None n lost = n
fault_there m z new F there (Some f) n lost = both_ways (nat_lt f.member m) lost (there f n)

never_met : (w : Crew) (m z : ℕ) (new : List ℕ) (F : Fault → Type 0) → ((f : Fault) → F f → nat_lt f.member m ≡ true) → (e : Refused) → Met w F (plain_meaning m z new) e → ⊥
never_met w m z new F there e met = elim met.why [
  | inl cut ↦ both_ways true cut.off refl
  | inr few ↦ fault_there m z new F there e.fault met.fault few.lost
]

pub no_call_met : NoCallMet
no_call_met = λ verdict r v h u k m z old new e at. never_met v.crew m z new _ (λ f n. n.there) e at.met

pub no_create_met : NoCreateMet
no_create_met = λ verdict s t m z old new e at. never_met _ m z new _ (λ f n. n.there) e at.met

-- a member that is found there was there before the restart
found_there : (m : ℕ) (mid restarted : Meaning) → ((k : ℕ) → restarted.present k ≡ nat_lt k m) → ((k : ℕ) → restarted.present k ≡ false → mid.present k ≡ false)
    → (k : ℕ) → mid.present k ≡ true → nat_lt k m ≡ true
found_there m mid restarted same left k here = elim (cases_Bool (restarted.present k)) [
  | inl was ↦ sym (same k) ∙ was
  | inr gone ↦ absurd (both_ways (mid.present k) (left k gone) here)
]

pub no_open_met : NoOpenMet
no_open_met = record {
  restart = λ m z old new e off. both_ways true (sym off.restarts.answer) refl;
  search = λ m z old new e dark. both_ways true dark.cut.off refl;
  after = λ sl tl s t m z old new e met. (let found = met.taken.found in
      never_met _ m z new _ (λ f n. found_there m met.mid found.restarted found.restarts.present found.looked.may.absent_stays f.member n.there) e met.met);
}
