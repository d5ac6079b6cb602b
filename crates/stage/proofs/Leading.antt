-- The search for the head that leads.
use Rattle.std.proofs.Common.{◌≡◌, ℕ, ◌+◌, ◌<◌, ◌≤◌, true, List, Option, None, Some, MatchOption, ◌≢◌, sym, ap, ◌∙◌, subst, inl, inr, arith}
use Rattle.std.proofs.lemmas.Bool.{cases_eq, cases_lt}
use Rattle.head.specs.Checkpoints.{Leads}
use Rattle.head.specs.Heads.{Accepted, Fits, head_bytes}
use Rattle.head.specs.declared.state.Head.{Head}
use Rattle.head.proofs.Codecs.{accepted, one_head}
use Rattle.shelf.specs.Meaning.{Meaning}
use Rattle.stage.specs.Cells.{Others}
use Rattle.model.specs.Heads.{HeadOf, HoldsHead, LedBelow, LedBy, HeadsRead}
use Rattle.model.specs.May.{May, nothing}
use Rattle.model.proofs.Mays.{may_then}

-- what a member's first sector is read as
pub read_as : (b : Meaning) (k : ℕ) (bytes : List ℕ) (r : Option Head) → b.present k ≡ true → 0 < b.sectors → bytes ≡ b.current k 0
    → MatchOption r (Accepted bytes → ⊥) (λ h. Accepted bytes × (head_bytes h ≡ bytes) × Fits h) → HeadOf b k r
read_as b k bytes None there some e w = λ g held. w (subst Accepted (sym held.bytes ∙ sym e) (accepted g held.fits))
read_as b k bytes (Some h) there some e w = record { there = there; some = some; bytes = sym e ∙ sym w.1; fits = w.2 }

-- a member has one head
one_number : (b : Meaning) (k : ℕ) (g h : Head) → HoldsHead b k g → HoldsHead b k h → g.number ≡ h.number
one_number b k g h p q = ap (λ (x : Head). x.number) (one_head g h p.fits q.fits (sym p.bytes ∙ q.bytes))

-- an operation on member k that writes nothing leaves the heads of the others
held_before : (b c : Meaning) (k j : ℕ) (g : Head) → May nothing b c → Others k b c → (j ≢ k) → HoldsHead c j g → HoldsHead b j g
held_before b c k j g m o ne p = record {
  there = sym (o j ne) ∙ p.there;
  some = (let some = p.some in let same = m.sectors in omega (arith, some, same));
  bytes = elim (m.current j 0) [ inl e ↦ sym e ∙ p.bytes | inr w ↦ absurd w ];
  fits = p.fits;
}

held_after : (b c : Meaning) (k j : ℕ) (g : Head) → May nothing b c → Others k b c → (j ≢ k) → HoldsHead b j g → HoldsHead c j g
held_after b c k j g m o ne p = record {
  there = o j ne ∙ p.there;
  some = (let some = p.some in let same = m.sectors in omega (arith, some, same));
  bytes = elim (m.current j 0) [ inl e ↦ e ∙ p.bytes | inr w ↦ absurd w ];
  fits = p.fits;
}

below_apart : (j k : ℕ) → j < k → j ≢ k
below_apart j k lt e = omega (arith, lt, e)

led_still : (b c : Meaning) (k : ℕ) (found : Option Head) → May nothing b c → Others k b c → LedBelow b k found → LedBelow c k found
led_still b c k None m o p = λ j g lt q. p j g lt (held_before b c k j g m o (below_apart j k lt) q)
led_still b c k (Some h) m o p = record {
  member = p.member;
  below = p.below;
  held = held_after b c k p.member h m o (below_apart p.member k p.below) p.held;
  highest = λ j g lt q. p.highest j g lt (held_before b c k j g m o (below_apart j k lt) q);
  lowest = λ j g lt q. p.lowest j g lt (held_before b c k j g m o (let under = p.below in omega (arith, lt, under)) q);
}

-- member k's head takes the lead, or not
taken : (c : Meaning) (k : ℕ) (h : Head) → HoldsHead c k h → ((j : ℕ) (g : Head) → j < k → HoldsHead c j g → g.number < h.number) → LedBy c (k + 1) h
taken c k h n less = record {
  member = k;
  below = omega arith;
  held = n;
  highest = λ j g lt q. elim (cases_eq j k) [
    | inl e ↦ (let same = one_number c k g h (subst (λ x. HoldsHead c x g) e q) n in omega (arith, same))
    | inr ne ↦ (let under = less j g (omega (arith, lt, ne)) q in omega (arith, under))
  ];
  lowest = less;
}

kept : (c : Meaning) (k : ℕ) (f : Head) → LedBy c k f → ((g : Head) → HoldsHead c k g → g.number ≤ f.number) → LedBy c (k + 1) f
kept c k f p most = record {
  member = p.member;
  below = (let under = p.below in omega (arith, under));
  held = p.held;
  highest = λ j g lt q. elim (cases_eq j k) [
    | inl e ↦ most g (subst (λ x. HoldsHead c x g) e q)
    | inr ne ↦ p.highest j g (omega (arith, lt, ne)) q
  ];
  lowest = p.lowest;
}

led_next : (c : Meaning) (k : ℕ) (found next r : Option Head) → LedBelow c k found → HeadOf c k next → Leads found next r → LedBelow c (k + 1) r
led_next c k None None r p n l = subst (LedBelow c (k + 1)) (sym l) (λ j g lt q. elim (cases_eq j k) [
  | inl e ↦ n g (subst (λ x. HoldsHead c x g) e q)
  | inr ne ↦ p j g (omega (arith, lt, ne)) q
])
led_next c k None (Some h) r p n l = subst (LedBelow c (k + 1)) (sym l) (taken c k h n (λ j g lt q. absurd (p j g lt q)))
led_next c k (Some f) None r p n l = subst (LedBelow c (k + 1)) (sym l) (kept c k f p (λ g q. absurd (n g q)))
led_next c k (Some f) (Some h) r p n l = elim (cases_lt f.number h.number) [
  | inl lt ↦ subst (LedBelow c (k + 1)) (sym (l.0 lt)) (taken c k h n (λ j g under q. (let most = p.highest j g under q in omega (arith, most, lt))))
  | inr ge ↦ subst (LedBelow c (k + 1)) (sym (l.1 ge)) (kept c k f p (λ g q. (let same = one_number c k g h q n in omega (arith, same, ge))))
]

-- one member more
pub led_more : (b c : Meaning) (k : ℕ) (found next r : Option Head) → HeadsRead b c → Others k b c → LedBelow b k found → HeadOf c k next → Leads found next r
    → LedBelow c (k + 1) r
led_more b c k found next r m o p n l = led_next c k found next r (led_still b c k found m.may o p) n l

pub looked_then : {a b c : Meaning} → HeadsRead a b → HeadsRead b c → HeadsRead a c
looked_then f g = record { may = may_then f.may g.may; on = λ e. g.on (f.on e) }
