-- Steps on their way: what is written of them, and the flush that carries them out.
use Rattle.std.proofs.Common.{◌≡◌, ℕ, ◌⊎◌, List, Ok, Err, Result, sym, ap, ◌∙◌, inl, inr, arith}
use Rattle.std.proofs.lemmas.Bool.{cases_eq}
use Rattle.answer.specs.declared.Fault.{Fault}
use Rattle.answer.specs.declared.Operation.TheVariants.{Flush}
use Rattle.answer.specs.declared.Refused.{Refused}
use Rattle.shelf.specs.Meaning.{Meaning}
use Rattle.model.specs.Crew.{Crew}
use Rattle.model.specs.Ends.{GoesOn, Stage}
use Rattle.model.specs.Faults.{OnSector}
use Rattle.model.specs.Images.{with_sector}
use Rattle.model.specs.May.{AtSector, May, nothing}
use Rattle.model.specs.Steps.{MadeAt, Passed, Step, Torn, WrittenBy}
use Rattle.model.proofs.Carrying.{carried, sector_left}
use Rattle.model.proofs.Mays.{may_refl, may_then, may_wider, quiet}
use Rattle.stage.specs.Done.{FlushedAll, WrittenAll}
use Rattle.stage.proofs.Chains.{names_as, sector_same}
use Rattle.stage.proofs.Loops.{goes_then, was_present}

-- a step that was begun: it is torn at most, and the cells of which D holds are as it makes them
pub record Begun (w : Crew) (f : Step) (D : ℕ → ℕ → Type 0) (a b : Meaning) : Type 0 where
  pub may : Torn f a b
  pub goes : GoesOn w a b
  pub made : (k s : ℕ) → D k s → MadeAt f a b k s

pub not_begun : (w : Crew) (f : Step) (D : ℕ → ℕ → Type 0) (a : Meaning) → ((k s : ℕ) → D k s → ⊥) → Begun w f D a a
not_begun w f D a nowhere = record { may = may_refl a; goes = record { on = λ e. e; enough = λ e. e }; made = λ k s d. absurd (nowhere k s d) }

-- a cell stays as the step makes it while the step is written on
pub made_stays : (f : Step) (a : Meaning) {b c : Meaning} (k s : ℕ) → MadeAt f a b k s → May (λ k s x. x ≡ f a.current k s) b c → MadeAt f a c k s
made_stays f a k s made m there lt = elim (m.current k s) [
  | inl same ↦ (let sectors = m.sectors in same ∙ made (was_present m k there) (omega (arith, lt, sectors)))
  | inr now ↦ now
]

-- more of it is written: each cell of E was made before, or is now
pub begun_more : {w : Crew} {f : Step} {D : ℕ → ℕ → Type 0} (E : ℕ → ℕ → Type 0) {a b : Meaning} (c : Meaning) → Begun w f D a b
    → May (λ k s x. x ≡ f a.current k s) b c → GoesOn w b c → ((k s : ℕ) → E k s → D k s ⊎ MadeAt f a c k s) → Begun w f E a c
begun_more {w} {f} {D} E {a} c so m goes each = record {
  may = may_then so.may m;
  goes = goes_then so.goes goes;
  made = λ k s e. elim (each k s e) [ inl d ↦ made_stays f a k s (so.made k s d) m | inr made ↦ made ];
}

-- what is torn by a step, but stands where the step leaves it, is as the step makes it
pub made_left : (f : Step) {a b : Meaning} → Torn f a b → (k s : ℕ) → f a.current k s ≡ a.current k s → MadeAt f a b k s
made_left f torn k s left there lt = elim (torn.current k s) [ inl same ↦ same ∙ sym left | inr made ↦ made ]

-- where a step was made, or leaves what was there, all is as it makes it
pub made_all : {w : Crew} {f : Step} {D : ℕ → ℕ → Type 0} {a b : Meaning} → Begun w f D a b → ((k s : ℕ) → D k s ⊎ (f a.current k s ≡ a.current k s))
    → WrittenBy f a b
made_all {w} {f} so covers k s there lt = elim (covers k s) [ inl d ↦ so.made k s d there lt | inr left ↦ made_left f so.may k s left there lt ]

-- written wherever it writes, and then flushed: carried out
pub carried_after : {w : Crew} {f : Step} {D : ℕ → ℕ → Type 0} {a b : Meaning} (d : Meaning) (G : Fault → Type 0) → Begun w f D a b
    → ((k s : ℕ) → D k s ⊎ (f a.current k s ≡ a.current k s)) → ((x : Fault) → OnSector Flush a 0 x → G x)
    → (r : Result Unit Refused) → Stage w nothing (OnSector Flush b 0) b d (λ u. FlushedAll d) r
    → Stage w (λ k s x. x ≡ f a.current k s) G a d (λ u. Passed w f a d) r
carried_after {w} {f} {D} {a} {b} d G so covers names (Ok x) s =
    let now = begun_more D d so (quiet s.0) s.1 (λ k t e. inl e) in
    (now.may, now.goes, carried f now.may now.goes (made_all now covers) (λ k t there. s.2 k there t))
carried_after {w} {f} {D} {a} {b} d G so covers names (Err e) s =
    (may_then so.may (quiet s.0), record { why = s.1.why; fault = names_as (OnSector Flush b 0) G (λ x n. names x (sector_same Flush 0 so.may x n)) e.fault s.1.fault })

-- one content in a sector of every member, which the step makes of it
pub sector_planned_by : (f : Step) (t : ℕ) (c : List ℕ) (a : Meaning) → ((k : ℕ) → f a.current k t ≡ c) → (k s : ℕ) (x : List ℕ) → AtSector t c k s x
    → x ≡ f a.current k s
sector_planned_by f t c a sets k s x p = p.content ∙ (sym (sets k) ∙ ap (f a.current k) (sym p.sector))

pub sector_written : {w : Crew} {f : Step} {D : ℕ → ℕ → Type 0} {a b : Meaning} (t : ℕ) (c : List ℕ) (d : Meaning) → Begun w f D a b
    → ((k : ℕ) → f a.current k t ≡ c) → May (AtSector t c) b d → GoesOn w b d → WrittenAll t c d → Begun w f (λ k s. D k s ⊎ (s ≡ t)) a d
sector_written {w} {f} {D} {a} {b} t c d so sets m goes written =
    begun_more (λ k s. D k s ⊎ (s ≡ t)) d so (may_wider (sector_planned_by f t c a sets) m) goes (λ k s e. elim e [
      | inl before ↦ inl before
      | inr at ↦ inr (λ there lt. ap (d.current k) at ∙ (written k there (omega (arith, lt, at)) ∙ (sym (sets k) ∙ ap (f a.current k) (sym at))))
    ])

-- the cells that such a step leaves
pub sector_covers : (D : ℕ → ℕ → Type 0) (t : ℕ) (c : List ℕ) (f : ℕ → ℕ → List ℕ) (a : Meaning) → ((k s : ℕ) → D k s ⊎ (f k s ≡ a.current k s)) → (k s : ℕ)
    → (D k s ⊎ (s ≡ t)) ⊎ (with_sector t c f k s ≡ a.current k s)
sector_covers D t c f a before k s = elim (before k s) [
  | inl d ↦ inl (inl d)
  | inr same ↦ elim (cases_eq s t) [ inl e ↦ inl (inr e) | inr ne ↦ inr (sector_left t c f k s ne ∙ same) ]
]
