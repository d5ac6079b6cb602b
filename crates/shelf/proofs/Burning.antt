-- The controls over many operations.
use Rattle.std.proofs.Common.{◌≡◌, ℕ, ◌-◌, ◌<◌, ◌≤◌, true, false, eqb, ltb, List, [], ◌∷◌, length, get_or, refl, ap, ◌∙◌, inl, inr, arith}
use Rattle.std.proofs.lemmas.Bool.{cases_Bool, cond-true, cond-false, eq-eqb, le-ltb, lt-ltb, ne_eqb}
use Rattle.shelf.specs.Fuses.{ControlsStand, struck_by}
use Rattle.shelf.specs.Trials.{burnt, struck}
use Rattle.shelf.specs.declared.controls.Controls.{Controls}
use Rattle.shelf.proofs.Trially.{set_false}
use Rattle.shelf.specs.declared.controls.TheConstants.{NEVER}

-- one operation while the shelf is on
on_after : (c : Controls) (m : ℕ) → c.on ≡ true → (c.fuse ≡ 0 → ⊥) → (struck c m).on ≡ true
on_after c m on ne = ap (λ (d : Controls). d.on) (cond-true c.on _ _ on) ∙ cond-false (eqb c.fuse 0) _ _ (ne_eqb c.fuse 0 ne)

fuse_after : (c : Controls) (m : ℕ) → c.on ≡ true → (c.fuse ≡ 0 → ⊥) → (struck c m).fuse ≡ burnt c.fuse
fuse_after c m on ne = ap (λ (d : Controls). d.fuse) (cond-true c.on _ _ on) ∙ cond-false (eqb c.fuse 0) _ _ (ne_eqb c.fuse 0 ne)

cut_after : (c : Controls) (m : ℕ) → c.on ≡ true → c.fuse ≡ 0 → (struck c m).on ≡ false
cut_after c m on e = ap (λ (d : Controls). d.on) (cond-true c.on _ _ on) ∙ cond-true (eqb c.fuse 0) _ _ (eq-eqb c.fuse 0 e)

burns : (c : Controls) (m : ℕ) → c.on ≡ true → (c.fuse ≡ 0 → ⊥) → c.fuse < NEVER → (struck c m).fuse ≡ c.fuse - 1
burns c m on ne lt = fuse_after c m on ne ∙ cond-true (ltb c.fuse NEVER) _ _ (lt-ltb c.fuse NEVER lt)

passes : (c : Controls) (ms : List ℕ) → c.on ≡ true → c.fuse < NEVER → length ms ≤ c.fuse
    → ((struck_by c ms).on ≡ true) × ((struck_by c ms).fuse ≡ c.fuse - length ms)
passes c [] on lt le = (on, omega arith)
passes c (m ∷ ms) on lt le =
    let less : (struck c m).fuse ≡ c.fuse - 1 = burns c m on (λ e. omega arith) lt in
    let rest = passes (struck c m) ms (on_after c m on (λ e. omega arith)) (omega (arith, less)) (omega (arith, less)) in
    (rest.0, omega (arith, rest.1, less))

never : (c : Controls) (ms : List ℕ) → c.on ≡ true → c.fuse ≡ NEVER → ((struck_by c ms).on ≡ true) × ((struck_by c ms).fuse ≡ NEVER)
never c [] on e = (on, e)
never c (m ∷ ms) on e =
    let same : (struck c m).fuse ≡ c.fuse = fuse_after c m on (λ z. omega arith) ∙ cond-false (ltb c.fuse NEVER) _ _ (le-ltb c.fuse NEVER (omega arith)) in
    never (struck c m) ms (on_after c m on (λ z. omega arith)) (same ∙ e)

off : (c : Controls) (ms : List ℕ) → c.on ≡ false → struck_by c ms ≡ c
off c [] e = refl
off c (m ∷ ms) e =
    let same : struck c m ≡ c = cond-false c.on _ _ e in
    off (struck c m) ms (ap (λ (d : Controls). d.on) same ∙ e) ∙ same

lost : (c : Controls) (m : ℕ) → c.on ≡ true → get_or c.losing m false ≡ true → get_or (struck c m).present m false ≡ false
lost c m on e =
    ap (λ (d : Controls). get_or d.present m false) (cond-true c.on _ _ on)
    ∙ (ap (λ l. get_or l m false) (cond-true (get_or c.losing m false) _ _ e) ∙ set_false c.present m)

unlost : (c : Controls) (m : ℕ) → get_or c.losing m false ≡ false → (struck c m).present ≡ c.present
unlost c m e = elim (cases_Bool c.on) [
  | inr gone ↦ ap (λ (d : Controls). d.present) (cond-false c.on _ _ gone)
  | inl on ↦ ap (λ (d : Controls). d.present) (cond-true c.on _ _ on) ∙ cond-false (get_or c.losing m false) _ _ e
]

pub controls_stand_lem : ControlsStand
controls_stand_lem = record {
  passes = passes;
  cut = λ c ms m on lt e. (let all = passes c ms on lt (omega arith) in cut_after (struck_by c ms) m all.0 (omega (arith, all.1)));
  never = never;
  off = off;
  lost = lost;
  unlost = unlost;
}
