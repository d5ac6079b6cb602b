-- A settled row, and a volume that stays housed.
use Rattle.std.proofs.Common.{◌≡◌, ℕ, ◌+◌, ◌<◌, ◌≤◌, true, false, Some, None, Ok, Err, Option, Result, inl, inr, refl, sym, ap, ◌∙◌, subst, arith}
use Rattle.std.proofs.lemmas.Bool.{both_ways}
use Rattle.answer.specs.declared.Refused.{Refused}
use Rattle.layout.specs.Geometry.{Geometry}
use Rattle.layout.specs.declared.label.Label.{Label}
use Rattle.head.specs.Heads.{kept_rows, settled_rows}
use Rattle.head.specs.declared.state.Progress.TheVariants.{Moving as UnderWay}
use Rattle.shelf.specs.Meaning.{Meaning}
use Rattle.model.specs.Knowing.{Volume as Known}
use Rattle.model.specs.Verdicts.{emptied, is_hand}
use Rattle.model.specs.declared.phase.Phase.TheVariants.{Moving}
use Rattle.volume.specs.declared.Volume.{Volume}
use Rattle.volume.specs.Volumes.{CheckpointOf, HasRoom, Housed, HousedIn, IsNext, OnlyHand, known}
use Rattle.volume.proofs.Ending.{holding, is_holding}
use Rattle.volume.proofs.Housing.{housed_as, housed_moving, room_as}
use Rattle.volume.proofs.Writing.{same_crew}

-- the row in hand is below the rows, and its grant empties the hand
held_next : (hand : Option ℕ) (row settled rows : ℕ) → is_hand hand row ≡ true → IsNext hand settled rows → settled < rows
held_next None row settled rows is n = absurd (both_ways false refl is)
held_next (Some held) row settled rows is n = n.1

held_emptied : (hand : Option ℕ) (row : ℕ) → is_hand hand row ≡ true → emptied hand row ≡ None
held_emptied hand row is = rw is refl

-- the volume with so many settled rows, and none in hand
abbrev with_settled : Known → ℕ → Known
with_settled v p = record { crew = v.crew; number = v.number; size = v.size; backup = v.backup; settled = p; kept = v.kept; hand = None }

settled_housed : (v : Known) (a : Meaning) (p : ℕ) → v.crew.phase ≡ Moving → HasRoom v a v.crew.source → HasRoom v a v.crew.target → p ≤ v.crew.target.rows → Housed (with_settled v p) a
settled_housed v a p moving source target below =
    subst (λ x. HousedIn x (with_settled v p) a) (sym moving)
    (room_as {v = v} v.crew.source refl refl refl refl source, room_as {v = v} v.crew.target refl refl refl refl target, below)

settle_by : {S L : Type 0} (mean : S → Meaning) (place : L → Geometry) (name : L → Label) (row : ℕ) (v w : Volume S L) → v.array.phase ≡ Moving → is_hand v.hand row ≡ true
    → Housed (known place v) (mean v.shelf) → (x : Result Unit Refused)
    → CheckpointOf mean place v.array.head.source (UnderWay (name v.array.target) (settled_rows v.array.head.progress + 1) (kept_rows v.array.head.progress)) None
    (holding v (emptied v.hand row)) w x
    → Housed (known place w) (mean w.shelf)
settle_by mean place name row v w moving held housed (Ok x) c =
    let u = known place v in
    let a = mean v.shelf in
    let h = housed_moving u a moving housed in
    let below = held_next v.hand row u.settled u.crew.target.rows held h.2 in
    housed_as (with_settled u (u.settled + 1)) (known place w) a (mean w.shelf) (same_crew place v.array w.array c.source c.target c.phase) c.stage.0.size c.stage.0.backup
    (ap settled_rows c.stage.0.progress) (c.hand ∙ held_emptied v.hand row held) c.stage.1.may.members c.stage.1.may.sectors
    (settled_housed u a (u.settled + 1) moving h.0 h.1 (omega (arith, below)))
settle_by mean place name row v w moving held housed (Err e) c =
    let u = known place v in
    let a = mean v.shelf in
    let h = housed_moving u a moving housed in
    let below = held_next v.hand row u.settled u.crew.target.rows held h.2 in
    housed_as (with_settled u u.settled) (known place w) a (mean w.shelf) (same_crew place v.array w.array c.source c.target c.phase) (ap (λ k. k.size) c.stage.0) (ap (λ k. k.backup) c.stage.0)
    (ap (λ k. settled_rows k.progress) c.stage.0) (c.hand ∙ held_emptied v.hand row held)
    (elim c.stage.1 [ inl spent ↦ ap (λ y. y.members) spent.same | inr m ↦ m.torn.members ]) (elim c.stage.1 [ inl spent ↦ ap (λ y. y.sectors) spent.same | inr m ↦ m.torn.sectors ])
    (settled_housed u a u.settled moving h.0 h.1 (omega (arith, below)))

pub settle_housed : {S L : Type 0} (mean : S → Meaning) (place : L → Geometry) (name : L → Label) (row : ℕ) (v m w : Volume S L) → v.array.phase ≡ Moving → is_hand v.hand row ≡ true
    → OnlyHand v m (emptied v.hand row) → Housed (known place v) (mean v.shelf) → (x : Result Unit Refused)
    → CheckpointOf mean place m.array.head.source (UnderWay (name m.array.target) (settled_rows m.array.head.progress + 1) (kept_rows m.array.head.progress)) None m w x
    → Housed (known place w) (mean w.shelf)
settle_housed mean place name row v m w moving held only housed x c =
    settle_by mean place name row v w moving held housed x
    (subst (λ y. CheckpointOf mean place y.array.head.source (UnderWay (name y.array.target) (settled_rows y.array.head.progress + 1) (kept_rows y.array.head.progress)) None y w x)
    (is_holding v m (emptied v.hand row) only) c)
