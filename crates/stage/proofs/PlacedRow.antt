-- A row of the target, placed sector by sector with what each one leads.
use Rattle.std.proofs.Common.{◌≡◌, ℕ, ◌+◌, ◌/◌, ◌<◌, ◌≤◌, ◌⊎◌, ◌==◌, List, Some, None, Ok, Err, Result, refl, sym, ap, ◌∙◌, subst, inl, inr, arith}
use Rattle.std.proofs.lemmas.Bool.{cases_eq, cond-false, cond-true, eq-eqb, ne_eqb}
use Rattle.answer.specs.declared.Refused.{Refused}
use Rattle.answer.specs.declared.Operation.TheVariants.{Flush}
use Rattle.head.specs.declared.TheConstants.{SLOTS_AT}
use Rattle.layout.specs.Geometry.{Geometry, GroupAt, Is, Only, capacity, place_of}
use Rattle.layout.specs.Lawful.{Lawful}
use Rattle.layout.specs.declared.place.Owner.{Owner}
use Rattle.layout.specs.declared.place.Owner.TheVariants.{Datum, Parity, Nobody}
use Rattle.overlap.specs.Rows.{owner_row}
use Rattle.shelf.specs.Meaning.{Meaning}
use Rattle.model.specs.Contents.{padded}
use Rattle.model.specs.Ends.{Stage}
use Rattle.model.specs.Faults.{OnSector}
use Rattle.model.specs.Images.{Image, due_of, fresh_row, with_places}
use Rattle.model.specs.Knowing.{Volume}
use Rattle.model.specs.May.{From, nothing}
use Rattle.model.specs.Reading.{content_of}
use Rattle.model.specs.Steps.{Step}
use Rattle.model.proofs.Carrying.{placed_at, placed_by}
use Rattle.model.proofs.Mays.{may_wider}
use Rattle.stage.specs.Done.{FlushedAll, WrittenAt}
use Rattle.stage.specs.Endings.{OnMember, StageEnds, reads_and_writes}
use Rattle.stage.specs.Rows.{LedBy, CopyOf, GroupReady, InGroup, InRow, Placeable, PlaceableRow, PlacesBy, PlacesRow, PlansDue, lead_of}
use Rattle.stage.proofs.Chains.{stage_may}
use Rattle.stage.proofs.Earlier.{HasAll, all_kept, seen_later}
use Rattle.stage.proofs.Endings.{Going, ends_after, no_plan, on_sector, stage_ends}
use Rattle.stage.proofs.Joining.{LedWithin, is_led, row_joins, all_led}
use Rattle.stage.proofs.Placed.{none_placed, places_as, places_ends, then_places}
use Rattle.stage.proofs.Placing.{cells_wider, places_then, renewed}
use Rattle.stage.proofs.Stepping.{Begun, carried_after}
use Rattle.stage.proofs.Leads.{copy_led, in_group_led, row_at, row_inside, led_copy, led_in_group, lead_row}

-- what a sector leads is placed: where there are no groups,
pub bare_led : {v : Volume} {n : ℕ} {a : Meaning} (b : Meaning) → Lawful v.crew.target → GroupAt v.crew.target n None → (r : Result Unit Refused)
    → PlacesBy v (n < capacity v.crew.target) (CopyOf n) a b r → PlacesBy v (Placeable v (n / v.crew.target.row_len)) (LedBy v.crew.target n) a b r
bare_led {v} {n} b law none r p =
    let t = v.crew.target in
    let inside : Placeable v (n / t.row_len) → n < capacity t = λ q. row_inside t law n q.below in
    (p.0, places_as r inside (λ q o is w. copy_led t (λ any. none (any, inside q)) n o w) (λ q o is w. led_copy t (λ any. none (any, inside q)) n o is w) p.1)

-- the first of a group, as the layout answers
first_is : (g : Geometry) → Lawful g → (n x p : ℕ) → GroupAt g n (Some x) → Only p ((x < g.groups) × (0 < g.peers x)) (g.peer x 0) 0
    → (g.group n < g.groups) × (p ≡ g.peer (g.group n) 0)
first_is g law n x p at first =
    let below = (law.grouping.joined n at.0 at.1).group in
    let own : Only p ((g.group n < g.groups) × (0 < g.peers (g.group n))) (g.peer (g.group n) 0) 0 =
    subst (λ y. Only p ((y < g.groups) × (0 < g.peers y)) (g.peer y 0) 0) at.2 first in
    (below, own.0 (below, law.grouping.some (g.group n) below))

-- where it is the first of its group,
pub group_led : {v : Volume} {n x p : ℕ} {a : Meaning} (b : Meaning) → Lawful v.crew.target → GroupAt v.crew.target n (Some x)
    → Only p ((x < v.crew.target.groups) × (0 < v.crew.target.peers x)) (v.crew.target.peer x 0) 0 → p ≡ n → (r : Result Unit Refused)
    → PlacesBy v (GroupReady v x) (InGroup v.crew.target x) a b r → PlacesBy v (Placeable v (n / v.crew.target.row_len)) (LedBy v.crew.target n) a b r
group_led {v} {n} {x} {p} b law at first own r placed =
    let t = v.crew.target in
    let is = first_is t law n x p at first in
    let leads : t.peer x 0 ≡ n = ap (λ y. t.peer y 0) at.2 ∙ (sym is.1 ∙ own) in (
      placed.0,
      places_as r
          (λ q. record { below = subst (λ y. y < t.groups) (sym at.2) is.0; can = subst (λ m. Placeable v (m / t.row_len)) (sym leads) q })
          (λ q o has w. in_group_led t x n at.0 leads o w)
          (λ q o has w. subst (λ y. InGroup t y o) (sym at.2) (led_in_group t law n o at.0 has w).0)
          placed.1,
    )

-- and where it is another
pub led_elsewhere : {v : Volume} {n x p : ℕ} (a : Meaning) → Lawful v.crew.target → HasAll v a → GroupAt v.crew.target n (Some x)
    → Only p ((x < v.crew.target.groups) × (0 < v.crew.target.peers x)) (v.crew.target.peer x 0) 0 → (p ≡ n → ⊥)
    → PlacesBy v (Placeable v (n / v.crew.target.row_len)) (LedBy v.crew.target n) a a (Ok tt)
led_elsewhere {v} {n} {x} {p} a law has at first other =
    let t = v.crew.target in
    (content_of v a, none_placed a has (λ q o is w. other ((first_is t law n x p at first).1 ∙ (led_in_group t law n o at.0 is w).1)))

-- some row has just these sectors
abbrev pub SomeRow : Volume → (from to : ℕ) → Type 0
SomeRow v from to = (row : ℕ) × PlaceableRow v row from to

-- a row of which is placed what the sectors below n lead
pub record RowUpto (v : Volume) (from to n : ℕ) (a b : Meaning) : Type 0 where
  pub has : HasAll v b
  pub places : PlacesBy v (SomeRow v from to) (LedWithin v.crew.target from n) a b (Ok tt)

pub row_begins : (v : Volume) (from to : ℕ) (a : Meaning) → HasAll v a → RowUpto v from to from a a
row_begins v from to a has =
    record { has = has; places = (content_of v a, none_placed a has (λ q o is w. (let low = w.0 in let high = w.1 in omega (arith, low, high)))) }

row_then : {v : Volume} {from to n : ℕ} {a b : Meaning} (d : Meaning) → Lawful v.crew.source → Lawful v.crew.target → from ≤ n → n < to → RowUpto v from to n a b
    → (r : Result Unit Refused) → PlacesBy v (Placeable v (n / v.crew.target.row_len)) (LedBy v.crew.target n) b d r
    → PlacesBy v (SomeRow v from to) (LedWithin v.crew.target from (n + 1)) a d r
row_then {v} {from} {to} {n} d law next low high so r p =
    let t = v.crew.target in (
      renewed (is_led t n) p.0 so.places.0,
      places_then d law next so.has so.places.1 r
          (then_places (λ q. (row_joins v next q.0 from to n p.0 so.places.0 q.1 low high).ready) p.1) (λ q. row_joins v next q.0 from to n p.0 so.places.0 q.1 low high),
    )

pub row_next : {v : Volume} {from to n : ℕ} {a b : Meaning} (d : Meaning) → Lawful v.crew.source → Lawful v.crew.target → from ≤ n → n < to → RowUpto v from to n a b
    → PlacesBy v (Placeable v (n / v.crew.target.row_len)) (LedBy v.crew.target n) b d (Ok tt) → RowUpto v from to (n + 1) a d
row_next {v} d law next low high so p = record { has = all_kept v p.1.stage.0 p.1.stage.1 so.has; places = row_then d law next low high so (Ok tt) p }

pub row_ends : {v : Volume} {from to n : ℕ} {a b : Meaning} (d : Meaning) (e : Refused) → Lawful v.crew.source → Lawful v.crew.target → from ≤ n → n < to
    → RowUpto v from to n a b
    → PlacesBy v (Placeable v (n / v.crew.target.row_len)) (LedBy v.crew.target n) b d (Err e)
    → StageEnds {A = Unit} v.crew reads_and_writes (From (SLOTS_AT + v.backup)) a d (Err e)
row_ends d e law next low high so p = places_ends (Err e) (row_then d law next low high so (Err e) p).1

-- the places of a row, as it is placed afresh, and the others
fresh_due : (g : Geometry) (row : ℕ) (c : ℕ → List ℕ) (o : Owner) (x : List ℕ) → Is g o → owner_row g o ≡ row → fresh_row g row c o x ≡ due_of g c o
fresh_due g row c (Datum i j) x is e = cond-true (i / g.row_len == row) (c i) x (eq-eqb (i / g.row_len) row e)
fresh_due g row c (Parity y) x is e = cond-true (g.peer y 0 / g.row_len == row) (due_of g c (Parity y)) x (eq-eqb (g.peer y 0 / g.row_len) row e)
fresh_due g row c Nobody x is e = absurd is

fresh_left : (g : Geometry) (row : ℕ) (c : ℕ → List ℕ) (o : Owner) (x : List ℕ) → (owner_row g o ≡ row → ⊥) → fresh_row g row c o x ≡ x
fresh_left g row c (Datum i j) x ne = cond-false (i / g.row_len == row) (c i) x (ne_eqb (i / g.row_len) row ne)
fresh_left g row c (Parity y) x ne = cond-false (g.peer y 0 / g.row_len == row) (due_of g c (Parity y)) x (ne_eqb (g.peer y 0 / g.row_len) row ne)
fresh_left g row c Nobody x ne = refl

-- a row as a step
abbrev pub row_step : Volume → ℕ → (ℕ → List ℕ) → Step
row_step v row c f = with_places v.crew.target v.backup (fresh_row v.crew.target row (padded v.size c)) f

row_made : (v : Volume) (row : ℕ) (c : ℕ → List ℕ) → Lawful v.crew.target → (f : Image) (k n : ℕ) → (o : InRow v.crew.target v.backup row k n)
    → row_step v row c f k n ≡ due_of v.crew.target (padded v.size c) o.owner
row_made v row c law f k n o =
    placed_at v.crew.target law v.backup (fresh_row v.crew.target row (padded v.size c)) f o.owner k n (record { is = o.is; member = o.member; sector = o.sector })
    ∙ fresh_due v.crew.target row (padded v.size c) o.owner (f k n) o.is o.which

row_covers : (v : Volume) (row : ℕ) (c : ℕ → List ℕ) → Lawful v.crew.target → (f : Image) (k n : ℕ)
    → InRow v.crew.target v.backup row k n ⊎ (row_step v row c f k n ≡ f k n)
row_covers v row c law f k n =
    let t = v.crew.target in
    let F = fresh_row t row (padded v.size c) in
    elim (placed_by t law v.backup F f (λ x. refl) k n) [
      | inr stays ↦ inr stays
      | inl p ↦ elim (cases_eq (owner_row t p.0) row) [
        | inl e ↦ inl (record { owner = p.0; is = p.1.is; which = e; member = p.1.member; sector = p.1.sector })
        | inr ne ↦ inr (placed_at t law v.backup F f p.0 k n p.1 ∙ fresh_left t row (padded v.size c) p.0 (f k n) ne)
      ]
    ]

-- what sectors of the row lead is of the row
led_step : {v : Volume} {row from to n : ℕ} (c : ℕ → List ℕ) (a : Meaning) → Lawful v.crew.target → PlaceableRow v row from to → n ≤ to → (k s : ℕ) (x : List ℕ)
    → PlansDue (SomeRow v from to) v.crew.target v.backup (LedWithin v.crew.target from n) (padded v.size c) k s x → x ≡ row_step v row c a.current k s
led_step {v} {row} {from} {to} {n} c a law p le k s x w =
    let t = v.crew.target in
    let due = w.due (row, p) in
    let start = p.start in
    let end = p.end in
    let wider : (o : Owner) → Is t o → LedWithin t from n o → owner_row t o ≡ row =
    λ o is u. (let low = u.0 in let high = u.1 in
    sym (lead_row t law o is) ∙ row_at t.row_len row (lead_of t o) (omega (arith, start, low)) (omega (arith, end, high, le))) in
    due.content ∙ sym (row_made v row c law a.current k s (cells_wider wider k s due.cell))

pub row_met : {v : Volume} {row from to n : ℕ} {a b : Meaning} (d : Meaning) (e : Refused) → Lawful v.crew.source → Lawful v.crew.target → PlaceableRow v row from to
    → from ≤ n
    → n < to → RowUpto v from to n a b → PlacesBy v (Placeable v (n / v.crew.target.row_len)) (LedBy v.crew.target n) b d (Err e) → PlacesRow v row a d (Err e)
row_met {v} {row} {from} {to} {n} {a} d e law next can low high so p =
    let placed = row_then d law next low high so (Err e) p in
    record {
      content = placed.0;
      given = placed.1.given (row, can);
      carries = (may_wider (led_step placed.0 a next can (omega (arith, high))) placed.1.stage.0, placed.1.stage.1);
    }

-- what all sectors of the row lead is placed, and flushed
pub row_placed : {v : Volume} {row from to n : ℕ} {a b : Meaning} (d : Meaning) → Lawful v.crew.target → PlaceableRow v row from to → n ≡ to → RowUpto v from to n a b
    → (r : Result Unit Refused) → Stage v.crew nothing (OnSector Flush b 0) b d (λ u. FlushedAll d) r → PlacesRow v row a d r
row_placed {v} {row} {from} {to} {n} {a} {b} d law can end so r flush =
    let t = v.crew.target in
    let c = so.places.0 in
    let p = so.places.1 in
    let begun : Begun v.crew (row_step v row c) (λ k s. InRow t v.backup row k s) a b = record {
      may = may_wider (led_step c a law can (omega (arith, end))) p.stage.0;
      goes = p.stage.1;
      made = λ k s o there lt.
          subst (λ m. WrittenAt m s (due_of t (padded v.size c) o.owner) b) (sym o.member)
          (subst (λ m. WrittenAt (place_of t o.owner).0 m (due_of t (padded v.size c) o.owner) b) (sym o.sector)
          (p.stage.2 (row, can) o.owner o.is (subst (λ m. LedWithin t from m o.owner) (sym end) (all_led v law row from to can o.owner o.is o.which)))) there lt
          ∙ sym (row_made v row c law a.current k s o);
    } in
    record {
      content = c;
      given = λ i lt. seen_later (λ m. content_of v m i) (c i) (stage_may _ _ _ r flush) (p.given (row, can) i lt);
      carries = carried_after d (OnMember reads_and_writes a) begun (row_covers v row c law a.current) (on_sector Flush refl a 0) r flush;
    }

pub row_done : {v : Volume} {from to n : ℕ} {a b : Meaning} (d : Meaning) → RowUpto v from to n a b → (r : Result Unit Refused)
    → Stage v.crew nothing (OnSector Flush b 0) b d (λ u. FlushedAll d) r → StageEnds v.crew reads_and_writes (From (SLOTS_AT + v.backup)) a d r
row_done {v} {from} {to} {n} {a} {b} d so r flush =
    let P = From (SLOTS_AT + v.backup) in
    let s = places_ends (Ok tt) so.places.1 in
    let going : Going v.crew P a b = record { may = s.0; goes = s.1 } in
    ends_after reads_and_writes d going r (stage_ends v.crew reads_and_writes P nothing (OnSector Flush b 0) b d (λ u. FlushedAll d) (no_plan P)
    (on_sector Flush refl b 0) r flush)
