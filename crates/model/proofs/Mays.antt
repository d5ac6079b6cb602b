-- The relation of every stage: it holds of nothing done, of one stage after another, and of a wider plan.
use Rattle.std.proofs.Common.{◌≡◌, ℕ, ◌⊎◌, List, sym, refl, ◌∙◌, subst, inl, inr}
use Rattle.shelf.specs.Meaning.{Meaning}
use Rattle.model.specs.May.{May, nothing}

pub may_refl : {P : ℕ → ℕ → List ℕ → Type 0} (a : Meaning) → May P a a
may_refl a = record { members = refl; sectors = refl; off_stays = λ e. e; absent_stays = λ k e. e; current = λ k s. inl refl; durable = λ k s. inl refl }

-- by another plan that allows what the first one does, but for contents that stood there anyway
pub may_unless : {P Q : ℕ → ℕ → List ℕ → Type 0} {a b : Meaning} → ((k s : ℕ) (x : List ℕ) → P k s x → (x ≡ a.current k s) ⊎ Q k s x) → May P a b → May Q a b
may_unless {P} {Q} {a} {b} w m = record {
  members = m.members;
  sectors = m.sectors;
  off_stays = m.off_stays;
  absent_stays = m.absent_stays;
  current = λ k s. elim (m.current k s) [ inl e ↦ inl e | inr p ↦ w k s _ p ];
  durable = λ k s. elim (m.durable k s) [ inl e ↦ inl e | inr o ↦ inr (elim o [ inl e ↦ inl e | inr p ↦ w k s _ p ]) ];
}

pub may_wider : {P Q : ℕ → ℕ → List ℕ → Type 0} {a b : Meaning} → ((k s : ℕ) (x : List ℕ) → P k s x → Q k s x) → May P a b → May Q a b
may_wider w m = may_unless (λ k s x p. inr (w k s x p)) m

pub may_then : {P : ℕ → ℕ → List ℕ → Type 0} {a b c : Meaning} → May P a b → May P b c → May P a c
may_then {P} {a} {b} {c} m n =
    let now : (k s : ℕ) (x : List ℕ) → x ≡ b.current k s → (x ≡ a.durable k s) ⊎ ((x ≡ a.current k s) ⊎ P k s x) =
    λ k s x e. elim (m.current k s) [ inl f ↦ inr (inl (e ∙ f)) | inr p ↦ inr (inr (subst (P k s) (sym e) p)) ] in
    record {
      members = n.members ∙ m.members;
      sectors = n.sectors ∙ m.sectors;
      off_stays = λ e. n.off_stays (m.off_stays e);
      absent_stays = λ k e. n.absent_stays k (m.absent_stays k e);
      current = λ k s. elim (n.current k s) [
        | inl e ↦ elim (m.current k s) [ inl f ↦ inl (e ∙ f) | inr p ↦ inr (subst (P k s) (sym e) p) ]
        | inr p ↦ inr p
      ];
      durable = λ k s. elim (n.durable k s) [
        | inl e ↦ elim (m.durable k s) [
          | inl f ↦ inl (e ∙ f)
          | inr o ↦ elim o [ inl f ↦ inr (inl (e ∙ f)) | inr p ↦ inr (inr (subst (P k s) (sym e) p)) ]
        ]
        | inr o ↦ elim o [ inl e ↦ now k s _ e | inr p ↦ inr (inr p) ]
      ];
    }

-- what writes nothing keeps to any plan
pub quiet : {P : ℕ → ℕ → List ℕ → Type 0} {a b : Meaning} → May nothing a b → May P a b
quiet m = may_wider (λ k s x p. absurd p) m
