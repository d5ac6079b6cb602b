-- What the laws say of groups, for every lawful layout.
use Rattle.std.proofs.Common.{◌≡◌, ℕ, ◌<◌, ◌==◌, Bool, true, false, Option, Some, None, MatchOption, sym, ap, ◌∙◌, subst, arith}
use Rattle.std.specs.Bool.{then_some}
use Rattle.std.proofs.lemmas.Bool.{eqb-true, eqb-false}
use Rattle.layout.specs.Geometry.{Geometry, GroupAt, LedAt}
use Rattle.layout.specs.Lawful.{Lawful}

-- a sector's group, kept where the sector is its first: M tells what was asked of the group
pub led : (g : Geometry) → Lawful g → (i : ℕ) (o r : Option ℕ) (M : ℕ → Bool → Type 0) → GroupAt g i o
    → MatchOption o (r ≡ None) (λ x. (b : Bool) × M x b × (r ≡ then_some b x))
    → ((x : ℕ) (b : Bool) → x < g.groups → 0 < g.peers x → M x b → b ≡ (g.peer x 0 == i)) → LedAt g i r
led g law i None r M at kept asked = subst (LedAt g i) (sym kept) (λ h. absurd (at h))
led g law i (Some x) r M at (b, tells, is) asked =
    let below : x < g.groups = rw at.2 (law.grouping.joined i at.0 at.1).group in
    chosen b (asked x b below (omega (arith, law.grouping.some x below)) tells) is
  where
    chosen : (b : Bool) → b ≡ (g.peer x 0 == i) → r ≡ then_some b x → LedAt g i r
    chosen true e is = subst (LedAt g i) (sym is) (at.0, at.1, at.2, eqb-true (g.peer x 0) i (sym e))
    chosen false e is = subst (LedAt g i) (sym is) (λ h first. eqb-false (g.peer x 0) i (sym e) (ap (λ y. g.peer y 0) at.2 ∙ first))
