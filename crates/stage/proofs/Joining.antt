-- How the parts of a row and of a group go together.
use Rattle.std.proofs.Common.{◌≡◌, ℕ, ◌+◌, ◌*◌, ◌/◌, ◌<◌, ◌≤◌, ◌⊎◌, Bool, true, false, ◌&&◌, ◌==◌, List, refl, sym, ap, ◌∙◌, subst, inl, inr, arith}
use Rattle.std.proofs.lemmas.Bool.{and_from, and_parts, both_ways, cases_Bool, cases_eq, eq-eqb, eqb-true, ne_eqb}
use Rattle.std.proofs.lemmas.Nat.{div-add-mod', mod_below}
use Rattle.layout.specs.Geometry.{Geometry, Is, capacity}
use Rattle.layout.specs.Lawful.{Lawful}
use Rattle.layout.specs.declared.place.Owner.{Owner}
use Rattle.layout.specs.declared.place.Owner.TheVariants.{Datum, Parity, Nobody}
use Rattle.overlap.specs.Rows.{owner_row}
use Rattle.model.specs.Knowing.{Volume}
use Rattle.stage.specs.Rows.{LedBy, CopyOf, GroupReady, InGroup, Placeable, PlaceableRow, lead_of}
use Rattle.stage.proofs.Placing.{Joins, Needs, due_anew, due_before}
use Rattle.stage.proofs.Leads.{needs_row, needs_lead, row_at, lead, lead_row}

-- whether sector n leads sector i
abbrev pub is_led : Geometry → ℕ → ℕ → Bool
is_led g n i = i / g.row_len == n / g.row_len && lead g i == n

-- what the sectors below n lead
abbrev pub LedWithin : Geometry → (from n : ℕ) → Owner → Type 0
LedWithin g from n o = (from ≤ lead_of g o) × (lead_of g o < n)

-- it leads none of what those below it need, and all that is needed for what it leads
not_led : (g : Geometry) → Lawful g → (n : ℕ) (o : Owner) → Is g o → lead_of g o < n → (i : ℕ) → Needs g o i → is_led g n i ≡ false
not_led g law n o is lt i needs = elim (cases_Bool (is_led g n i)) [
  | inr no_lead ↦ no_lead
  | inl own ↦ (let e = eqb-true (lead g i) n (and_parts (i / g.row_len == n / g.row_len) (lead g i == n) own).1 in
      let same = needs_lead g law o is i needs in
      absurd (omega (arith, e, same, lt)))
]

own_led : (g : Geometry) → Lawful g → (n : ℕ) (o : Owner) → Is g o → LedBy g n o → (i : ℕ) → Needs g o i → is_led g n i ≡ true
own_led g law n o is e i needs =
    and_from (i / g.row_len == n / g.row_len) (lead g i == n)
    (eq-eqb (i / g.row_len) (n / g.row_len) (needs_row g law o is i needs ∙ (sym (lead_row g law o is) ∙ ap (λ k. k / g.row_len) e)))
    (eq-eqb (lead g i) n (needs_lead g law o is i needs ∙ e))

-- what a sector of the row leads, after what those before it lead
pub row_joins : (v : Volume) → Lawful v.crew.target → (row from to n : ℕ) (new old : ℕ → List ℕ) → PlaceableRow v row from to → from ≤ n → n < to
    → Joins v (Placeable v (n / v.crew.target.row_len)) (LedWithin v.crew.target from n) (LedBy v.crew.target n) (LedWithin v.crew.target from (n + 1))
    (is_led v.crew.target n) new old
row_joins v law row from to n new old p first below =
    let t = v.crew.target in
    let start = p.start in
    let end = p.end in
    let here : n / t.row_len ≡ row = row_at t.row_len row n (omega (arith, start, first)) (omega (arith, end, below)) in
    let can : Placeable v (n / t.row_len) = subst (Placeable v) (sym here) p.can in
    record {
      ready = can;
      row = n / t.row_len;
      can = can;
      within = λ o is w. (let low = w.0 in let high = w.1 in
          sym (lead_row t law o is) ∙ (row_at t.row_len row (lead_of t o) (omega (arith, start, low)) (omega (arith, end, below, high)) ∙ sym here));
      read = λ i e. eqb-true (i / t.row_len) (n / t.row_len) (and_parts (i / t.row_len == n / t.row_len) (lead t i == n) e).0;
      before = λ o is w. (let high = w.1 in
          ((w.0, omega (arith, high)), due_before t (is_led t n) v.size new old o (not_led t law n o is high)));
      anew = λ o is u. ((omega (arith, first, u), omega (arith, u)), due_anew t (is_led t n) v.size new old o (own_led t law n o is u));
      all = λ o is w. (let high = w.1 in
          elim (cases_eq (lead_of t o) n) [ inl e ↦ inr e | inr ne ↦ inl (w.0, omega (arith, high, ne)) ]);
    }

-- the sectors of a row lead all owners of the row
pub all_led : (v : Volume) → Lawful v.crew.target → (row from to : ℕ) → PlaceableRow v row from to → (o : Owner) → Is v.crew.target o
    → owner_row v.crew.target o ≡ row → LedWithin v.crew.target from to o
all_led v law row from to p o is e =
    let t = v.crew.target in
    let start = p.start in
    let end = p.end in
    let place = lead_row t law o is ∙ e in
    let rest = div-add-mod' (lead_of t o) t.row_len in
    let below = mod_below (lead_of t o) t.row_len law.limits.row_some in
    let same : lead_of t o / t.row_len * t.row_len ≡ row * t.row_len = ap (λ k. k * t.row_len) place in
    (omega (arith, start, rest, same), omega (arith, end, rest, same, below))

-- the copies of the first n sectors of a group
abbrev pub PeersBelow : Geometry → (x n : ℕ) → Owner → Type 0
PeersBelow g x n (Datum i j) = (l : ℕ) × (l < n) × (i ≡ g.peer x l)
PeersBelow g x n o = ⊥

-- two peers of a group
pub one_peer : (g : Geometry) → Lawful g → (x l n : ℕ) → x < g.groups → l < n → n < g.peers x → g.peer x l ≡ g.peer x n → ⊥
one_peer g law x l n below less lt e = (let rise = law.grouping.rise x l n below less lt in omega (arith, rise, e))

-- How one more sector's copies go with them: no old one needs that sector, the new ones need it alone, and they are all.
peers_before : (g : Geometry) → Lawful g → (x n : ℕ) → x < g.groups → n < g.peers x → (o : Owner) → PeersBelow g x n o
    → PeersBelow g x (n + 1) o × ((i : ℕ) → Needs g o i → (i == g.peer x n) ≡ false)
peers_before g law x n below lt (Datum i j) w =
    (let less = w.1 in (w.0, omega (arith, less), w.2), λ k e. ne_eqb k (g.peer x n) (λ same. one_peer g law x w.0 n below w.1 lt (sym (e ∙ w.2) ∙ same)))
peers_before g law x n below lt (Parity y) w = absurd w
peers_before g law x n below lt Nobody w = absurd w

peers_anew : (g : Geometry) (x n : ℕ) (o : Owner) → CopyOf (g.peer x n) o → PeersBelow g x (n + 1) o × ((i : ℕ) → Needs g o i → (i == g.peer x n) ≡ true)
peers_anew g x n (Datum i j) e = ((n, omega arith, e), λ k same. eq-eqb k (g.peer x n) (same ∙ e))
peers_anew g x n (Parity y) e = absurd e
peers_anew g x n Nobody e = absurd e

peers_all : (g : Geometry) (x n : ℕ) (o : Owner) → PeersBelow g x (n + 1) o → PeersBelow g x n o ⊎ CopyOf (g.peer x n) o
peers_all g x n (Datum i j) w = elim (cases_eq w.0 n) [
  | inl e ↦ inr (w.2 ∙ ap (g.peer x) e)
  | inr ne ↦ (let less = w.1 in inl (w.0, omega (arith, less, ne), w.2))
]
peers_all g x n (Parity y) w = absurd w
peers_all g x n Nobody w = absurd w

-- they lie in the group's row
peers_row : (g : Geometry) → Lawful g → (x n : ℕ) → x < g.groups → n ≤ g.peers x → (o : Owner) → PeersBelow g x n o → owner_row g o ≡ g.peer x 0 / g.row_len
peers_row g law x n below le (Datum i j) w =
    (let less = w.1 in ap (λ k. k / g.row_len) w.2 ∙ (law.grouping.peer_is x w.0 below (omega (arith, less, le))).row)
peers_row g law x n below le (Parity y) w = absurd w
peers_row g law x n below le Nobody w = absurd w

-- one more sector of it
pub peer_joins : (v : Volume) → Lawful v.crew.target → (x n : ℕ) (new old : ℕ → List ℕ) → n < v.crew.target.peers x → GroupReady v x
    → Joins v (v.crew.target.peer x n < capacity v.crew.target) (PeersBelow v.crew.target x n) (CopyOf (v.crew.target.peer x n)) (PeersBelow v.crew.target x (n + 1))
    (λ i. i == v.crew.target.peer x n) new old
peer_joins v law x n new old lt p =
    let t = v.crew.target in
    let z = λ (i : ℕ). i == t.peer x n in
    let peer = law.grouping.peer_is x n p.below lt in
    record {
      ready = peer.sector;
      row = t.peer x 0 / t.row_len;
      can = p.can;
      within = λ o is w. peers_row t law x n p.below (omega (arith, lt)) o w;
      read = λ i e. ap (λ k. k / t.row_len) (eqb-true i (t.peer x n) e) ∙ peer.row;
      before = λ o is w. (let q = peers_before t law x n p.below lt o w in (q.0, due_before t z v.size new old o q.1));
      anew = λ o is u. (let q = peers_anew t x n o u in (q.0, due_anew t z v.size new old o q.1));
      all = λ o is w. peers_all t x n o w;
    }

-- the parity of group x
abbrev pub ParityOf : ℕ → Owner → Type 0
ParityOf x (Parity y) = y ≡ x
ParityOf x o = ⊥

-- the copies of all its sectors, and its parity, are the group
pub peers_grouped : (g : Geometry) → Lawful g → (x n : ℕ) → x < g.groups → n ≤ g.peers x → (o : Owner) → PeersBelow g x n o → InGroup g x o
peers_grouped g law x n below le (Datum i j) w = (let lt = w.1 in ap g.group w.2 ∙ (law.grouping.peer_is x w.0 below (omega (arith, lt, le))).group)
peers_grouped g law x n below le (Parity y) w = absurd w
peers_grouped g law x n below le Nobody w = absurd w

parity_grouped : (g : Geometry) (x : ℕ) (o : Owner) → ParityOf x o → InGroup g x o
parity_grouped g x (Datum i j) e = absurd e
parity_grouped g x (Parity y) e = e
parity_grouped g x Nobody e = absurd e

group_all : (g : Geometry) → Lawful g → (x : ℕ) → x < g.groups → (o : Owner) → Is g o → InGroup g x o → PeersBelow g x (g.peers x) o ⊎ ParityOf x o
group_all g law x below (Datum i j) is e =
    (let here = law.grouping.joined i (omega (arith, below)) is.0 in
    inl (here.index, subst (λ y. here.index < g.peers y) e here.index_below, sym here.is ∙ ap (λ y. g.peer y here.index) e))
group_all g law x below (Parity y) is e = inr e
group_all g law x below Nobody is e = absurd e

-- the parity after all its sectors
pub parity_joins : (v : Volume) → Lawful v.crew.target → (x : ℕ) (c : ℕ → List ℕ) → GroupReady v x
    → Joins v (GroupReady v x) (PeersBelow v.crew.target x (v.crew.target.peers x)) (ParityOf x) (InGroup v.crew.target x) (λ i. false) c c
parity_joins v law x c p =
    let t = v.crew.target in
    record {
      ready = p;
      row = t.peer x 0 / t.row_len;
      can = p.can;
      within = λ o is w. peers_row t law x (t.peers x) p.below (omega arith) o w;
      read = λ i e. absurd (both_ways false refl e);
      before = λ o is w. (peers_grouped t law x (t.peers x) p.below (omega arith) o w, refl);
      anew = λ o is u. (parity_grouped t x o u, refl);
      all = λ o is w. group_all t law x p.below o is w;
    }
