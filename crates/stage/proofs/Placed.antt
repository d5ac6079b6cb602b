-- A sector, a group and a row of the target, as they are written one after another.
use Rattle.std.proofs.Common.{◌≡◌, ℕ, ◌+◌, ◌<◌, Bool, true, false, ◌==◌, List, replicate, Ok, Err, Result, refl, sym, ap, ◌∙◌, subst, add-one, arith}
use Rattle.std.proofs.lemmas.Bool.{both_ways, eq-eqb, ne_eqb}
use Rattle.answer.specs.declared.Refused.{Refused}
use Rattle.sector.specs.Folds.{folded}
use Rattle.sector.specs.declared.TheConstants.{SECTOR}
use Rattle.head.specs.declared.TheConstants.{SLOTS_AT}
use Rattle.layout.specs.Geometry.{Geometry, Is, Only, capacity}
use Rattle.layout.specs.Lawful.{Lawful}
use Rattle.layout.specs.declared.place.Owner.{Owner}
use Rattle.layout.specs.declared.place.Owner.TheVariants.{Datum, Parity, Nobody}
use Rattle.shelf.specs.Meaning.{Meaning}
use Rattle.model.specs.Contents.{gathered, padded}
use Rattle.model.specs.Ends.{Stage}
use Rattle.model.specs.Images.{due_of}
use Rattle.model.specs.Knowing.{Volume}
use Rattle.model.specs.May.{From, nothing}
use Rattle.model.specs.Reading.{content_of}
use Rattle.model.proofs.Mays.{may_refl, quiet}
use Rattle.model.proofs.Seeing.{content_seen, seen}
use Rattle.stage.specs.Done.{WrittenAt}
use Rattle.stage.specs.Endings.{OnMember, StageEnds, only_writes, reads_and_writes}
use Rattle.stage.specs.Places.{AtCopies, AtPlace, CopiesHold, PlaceHolds}
use Rattle.stage.specs.Rows.{CopyOf, GroupReady, HoldsDue, InGroup, LooksAhead, PlacesBy, PlacesWith, PlansDue}
use Rattle.stage.proofs.Chains.{stage_after, stage_as, stage_may}
use Rattle.stage.proofs.Earlier.{HasAll, all_enough, all_kept, seen_later, seen_now}
use Rattle.stage.proofs.Endings.{member_as, member_same, met_ends, no_plan, writes_too}
use Rattle.stage.proofs.Folds.{gathered_alike}
use Rattle.stage.proofs.Joining.{ParityOf, PeersBelow, parity_joins, one_peer, peer_joins, peers_grouped}
use Rattle.stage.proofs.Placing.{Joins, PlacesNext, places_then, plan_wider, renewed, renewed_new, renewed_old}
use Rattle.stage.proofs.Written.{cell_at, cell_holds}

-- the look for a sector was met
pub look_unplaced : {v : Volume} {Q R : Type 0} {U : Owner → Type 0} {z : ℕ → Bool} (i : ℕ) {a : Meaning} (b : Meaning) (e : Refused) → HasAll v a
    → LooksAhead v i a b (Err e)
    → PlacesNext v Q R U z (content_of v a) a b (Err e)
look_unplaced {v} {Q} {R} {U} {z} i {a} b e has s =
    let P = PlansDue R v.crew.target v.backup U (padded v.size (content_of v a)) in
    record {
      given = λ q k lt is. seen_later (λ m. content_of v m k) (content_of v a k) s.0
          (seen_now v.crew (λ m. content_of v m k) a (content_seen v k) (all_enough v a has k lt));
      stage = met_ends v.crew reads_and_writes P nothing (OnMember reads_and_writes a) a b (no_plan P) (λ f n. n) e s;
    }

-- copies of a sector, and the parity of a group, are what is due there
copies_due : (g : Geometry) → Lawful g → (backup i : ℕ) (c : ℕ → List ℕ) (x : List ℕ) → x ≡ c i → (k n : ℕ) (y : List ℕ) → AtCopies g backup i x k n y
    → PlansDue (i < capacity g) g backup (CopyOf i) c k n y
copies_due g law backup i c x e k n y p = record {
  sector = p.sector;
  due = λ below. (let q = p.copy below in
      let cell = cell_at g law backup (Datum i q.0) x (below, q.1) k n y q.2 in
      record { cell = record { owner = Datum i q.0; is = (below, q.1); which = refl; member = cell.member; sector = cell.sector }; content = p.content ∙ e });
}

copies_held : (g : Geometry) → Lawful g → (backup i : ℕ) (c : ℕ → List ℕ) (x : List ℕ) (d : Meaning) → x ≡ c i → i < capacity g → CopiesHold g backup i g.copies x d
    → HoldsDue g backup (CopyOf i) c d
copies_held g law backup i c x d e below held (Datum m j) is same =
    subst (λ n. WrittenAt (g.datum n j).0 (SLOTS_AT + backup + (g.datum n j).1) (c n) d) (sym same)
    (λ there lt. cell_holds g law backup (Datum i j) x d (g.datum i j).0 (SLOTS_AT + backup + (g.datum i j).1)
    (record { is = (below, is.1); member = refl; sector = refl }) (held below j is.1) there lt ∙ e)
copies_held g law backup i c x d e below held (Parity y) is same = absurd same
copies_held g law backup i c x d e below held Nobody is same = absurd same

-- the look was done, and what it gave is written to the copies
pub look_placed : {v : Volume} {Q : Type 0} {z : ℕ → Bool} {i : ℕ} {a : Meaning} (b d : Meaning) (x : List ℕ) → Lawful v.crew.target → HasAll v a
    → LooksAhead v i a b (Ok x)
    → (r : Result Unit Refused) → Stage v.crew (AtCopies v.crew.target v.backup i x) (OnMember only_writes b) b d
    (λ u. CopiesHold v.crew.target v.backup i v.crew.target.copies x d) r
    → PlacesNext v Q (i < capacity v.crew.target) (CopyOf i) z (content_of v b) a d r
look_placed {v} {Q} {z} {i} {a} b d x law has s r put =
    let t = v.crew.target in
    let c = padded v.size (content_of v b) in
    record {
      given = λ q k lt is. seen_later (λ m. content_of v m k) (content_of v b k) (stage_may _ _ _ r put)
          (seen v.crew (λ m. content_of v m k) (content_of v b k) (content_seen v k) (all_enough v a has k lt) (record { may = s.0; goes = s.1 }) refl);
      stage = stage_after (PlansDue (i < capacity t) t v.backup (CopyOf i) c) (AtCopies t v.backup i x) (OnMember only_writes b) (OnMember reads_and_writes a)
          (λ u. CopiesHold t v.backup i t.copies x d) (λ u. i < capacity t → HoldsDue t v.backup (CopyOf i) c d) (quiet s.0) s.1 (copies_due t law v.backup i c x s.2)
          (λ f n. member_same s.0 f (member_as writes_too b f n)) (λ u m held below. copies_held t law v.backup i c x d s.2 below held) r put;
    }

-- all that was read is given to the places alone
pub places_alone : {v : Volume} {R : Type 0} {U : Owner → Type 0} {c : ℕ → List ℕ} {a b : Meaning} {r : Result Unit Refused} → PlacesNext v R R U (λ i. true) c a b r
    → PlacesWith v R U c a b r
places_alone p = record { given = λ q i lt. p.given q i lt refl; stage = p.stage }

-- and the other way round
pub then_places : {v : Volume} {Q R : Type 0} {U : Owner → Type 0} {z : ℕ → Bool} {c : ℕ → List ℕ} {a b : Meaning} {r : Result Unit Refused} → (Q → R)
    → PlacesWith v R U c a b r
    → PlacesNext v Q R U z c a b r
then_places ready p = record { given = λ q i lt e. p.given (ready q) i lt; stage = p.stage }

-- the same owners by another name
pub places_as : {v : Volume} {Q R : Type 0} {W T : Owner → Type 0} {c : ℕ → List ℕ} {a b : Meaning} (r : Result Unit Refused) → (Q → R)
    → (Q → (o : Owner) → Is v.crew.target o → W o → T o)
    → (Q → (o : Owner) → Is v.crew.target o → T o → W o) → PlacesWith v R W c a b r → PlacesWith v Q T c a b r
places_as {v} {Q} {R} {W} {T} {c} {a} {b} r ready wider back p = record {
  given = λ q i lt. p.given (ready q) i lt;
  stage = stage_as v.crew a b (plan_wider ready (λ q o is w. (wider q o is w, refl))) (λ f n. n)
      (λ u m held q o is w. held (ready q) o is (back q o is w)) r p.stage;
}

-- among more owners, where the stage was met
pub places_met : {v : Volume} {Q R : Type 0} {W T : Owner → Type 0} {c : ℕ → List ℕ} {a : Meaning} (b : Meaning) (e : Refused) → (Q → R)
    → (Q → (o : Owner) → Is v.crew.target o → W o → T o) → PlacesWith v R W c a b (Err e) → PlacesWith v Q T c a b (Err e)
places_met {v} {Q} {R} {W} {T} {c} {a} b e ready wider p =
    record {
      given = λ q i lt. p.given (ready q) i lt;
      stage = met_ends v.crew reads_and_writes (PlansDue Q v.crew.target v.backup T (padded v.size c)) (PlansDue R v.crew.target v.backup W (padded v.size c))
          (OnMember reads_and_writes a) a b
          (plan_wider ready (λ q o is w. (wider q o is w, refl))) (λ f n. n) e p.stage;
    }

-- nothing was placed yet, or nothing is to be placed
pub none_placed : {v : Volume} {Q : Type 0} {W : Owner → Type 0} (a : Meaning) → HasAll v a → (Q → (o : Owner) → Is v.crew.target o → W o → ⊥)
    → PlacesWith v Q W (content_of v a) a a (Ok tt)
none_placed {v} a has none = record {
  given = λ q i lt. seen_now v.crew (λ m. content_of v m i) a (content_seen v i) (all_enough v a has i lt);
  stage = (may_refl a, record { on = λ e. e; enough = λ e. e }, λ q o is w. absurd (none q o is w));
}

-- whatever it comes to, it writes in the body alone
pub places_ends : {v : Volume} {Q : Type 0} {W : Owner → Type 0} {c : ℕ → List ℕ} {a b : Meaning} (r : Result Unit Refused) → PlacesWith v Q W c a b r
    → StageEnds v.crew reads_and_writes (From (SLOTS_AT + v.backup)) a b r
places_ends {v} {Q} {W} {c} {a} {b} r p = stage_as v.crew a b (λ k n x w. record { sector = w.sector }) (λ f n. n) (λ u m held. tt) r p.stage

-- a group of which the first n sectors are placed, with their fold
pub record GroupUpto (v : Volume) (x n : ℕ) (fold : List ℕ) (c : ℕ → List ℕ) (a b : Meaning) : Type 0 where
  pub has : HasAll v b
  pub places : PlacesWith v (GroupReady v x) (PeersBelow v.crew.target x n) c a b (Ok tt)
  pub parity : GroupReady v x → fold ≡ gathered (λ k. false) (λ k. padded v.size c (v.crew.target.peer x k)) n

abbrev pub GroupSofar : Volume → (x n : ℕ) → List ℕ → (a b : Meaning) → Type 0
GroupSofar v x n fold a b = (c : ℕ → List ℕ) × GroupUpto v x n fold c a b

-- it begins with none
no_peers : (g : Geometry) (x : ℕ) (o : Owner) → PeersBelow g x 0 o → ⊥
no_peers g x (Datum i j) w = (let lt = w.1 in omega (arith, lt))
no_peers g x (Parity y) w = w
no_peers g x Nobody w = w

pub group_begins : (v : Volume) (x : ℕ) (fold : List ℕ) (a : Meaning) → fold ≡ replicate SECTOR 0 → HasAll v a → GroupSofar v x 0 fold a a
group_begins v x fold a zeros has = (content_of v a, record { has = has; places = none_placed a has (λ q o is w. no_peers v.crew.target x o w); parity = λ q. zeros })

-- A sector p of the group comes next, by what the layout answers for it.
pub record NextPeer (v : Volume) (x n p : ℕ) : Type 0 where
  pub below : GroupReady v x → n < v.crew.target.peers x
  pub is : GroupReady v x → p ≡ v.crew.target.peer x n

pub next_peer : {v : Volume} {x n p : ℕ} (end : ℕ) → Only end (x < v.crew.target.groups) (v.crew.target.peers x) 0
    → Only p ((x < v.crew.target.groups) × (n < v.crew.target.peers x)) (v.crew.target.peer x n) 0 → n < end → NextPeer v x n p
next_peer {v} {x} {n} end peers peer lt =
    let below : GroupReady v x → n < v.crew.target.peers x = λ q. (let is = peers.0 q.below in omega (arith, is, lt)) in
    record { below = below; is = λ q. peer.0 (q.below, below q) }

-- its copies are written after those of the others
peer_then : {v : Volume} {x n p : ℕ} {fold : List ℕ} {new old : ℕ → List ℕ} {a b : Meaning} (d : Meaning) → Lawful v.crew.source → Lawful v.crew.target → NextPeer v x n p
    → GroupUpto v x n fold old a b → (r : Result Unit Refused)
    → PlacesNext v (GroupReady v x) (p < capacity v.crew.target) (CopyOf p) (λ i. i == p) new b d r
    → PlacesWith v (GroupReady v x) (PeersBelow v.crew.target x (n + 1)) (renewed (λ i. i == p) new old) a d r
peer_then {v} {x} {n} {p} {fold} {new} {old} d law next at so r then =
    let t = v.crew.target in
    places_then d law next so.has so.places r then (λ q.
    subst (λ m. Joins v (m < capacity t) (PeersBelow t x n) (CopyOf m) (PeersBelow t x (n + 1)) (λ i. i == m) new old) (sym (at.is q))
    (peer_joins v next x n new old (at.below q) q))

-- its content is folded in
fold_more : (v : Volume) → Lawful v.crew.target → (x n p : ℕ) (fold y : List ℕ) (new old : ℕ → List ℕ) → NextPeer v x n p → y ≡ padded v.size new p
    → (GroupReady v x → fold ≡ gathered (λ k. false) (λ k. padded v.size old (v.crew.target.peer x k)) n)
    → GroupReady v x → folded fold y ≡ gathered (λ k. false) (λ k. padded v.size (renewed (λ i. i == p) new old) (v.crew.target.peer x k)) (n + 1)
fold_more v law x n p fold y new old at e before q =
    let t = v.crew.target in
    let c = renewed (λ i. i == p) new old in
    let of = λ (h : ℕ → List ℕ) (k : ℕ). padded v.size h (t.peer x k) in
    let same : (k : ℕ) → k < n → of old k ≡ of c k =
    λ k lt. renewed_old (λ i. i == p) v.size new old (t.peer x k) (ne_eqb (t.peer x k) p (λ own. one_peer t law x k n q.below lt (at.below q) (own ∙ at.is q))) in
    let last : y ≡ of c n = e ∙ (renewed_new (λ i. i == p) v.size new old p (eq-eqb p p refl) ∙ ap (padded v.size c) (at.is q)) in
    ap (λ h. folded h y) (before q ∙ gathered_alike (λ k. false) (λ k. false) (of old) (of c) n (record { skips = λ k lt. refl; gives = λ k lt out. same k lt }))
    ∙ (ap (folded (gathered (λ k. false) (of c) n)) last ∙ sym (ap (gathered (λ k. false) (of c)) (add-one n)))

pub peer_placed : {v : Volume} {x n p : ℕ} {fold y : List ℕ} {a b m : Meaning} (more : List ℕ) (d : Meaning) → more ≡ folded fold y → Lawful v.crew.source
    → Lawful v.crew.target → NextPeer v x n p
    → GroupSofar v x n fold a b → LooksAhead v p b m (Ok y)
    → Stage {A = Unit} v.crew (AtCopies v.crew.target v.backup p y) (OnMember only_writes m) m d (λ u. CopiesHold v.crew.target v.backup p v.crew.target.copies y d) (Ok tt)
    → GroupSofar v x (n + 1) more a d
peer_placed {v} {x} {n} {p} {fold} {y} {a} {b} {m} more d folds law next at so look put =
    let then = look_placed m d y next so.1.has look (Ok tt) put in (
      renewed (λ i. i == p) (content_of v m) so.0,
      record {
        has = all_kept v put.0 put.1 (all_kept v look.0 look.1 so.1.has);
        places = peer_then d law next at so.1 (Ok tt) then;
        parity = λ q. folds ∙ fold_more v next x n p fold y (content_of v m) so.0 at look.2 so.1.parity q;
      },
    )

-- power or members were met lacking at it
peer_met : {v : Volume} {x n p : ℕ} {fold : List ℕ} {new : ℕ → List ℕ} {a b : Meaning} (d : Meaning) (e : Refused) → Lawful v.crew.source → Lawful v.crew.target
    → NextPeer v x n p
    → GroupSofar v x n fold a b → PlacesNext v (GroupReady v x) (p < capacity v.crew.target) (CopyOf p) (λ i. i == p) new b d (Err e)
    → PlacesBy v (GroupReady v x) (InGroup v.crew.target x) a d (Err e)
peer_met {v} {x} {n} {p} {fold} {new} d e law next at so then = (
  renewed (λ i. i == p) new so.0,
  places_met d e (λ q. q)
      (λ q o is w. (let lt = at.below q in peers_grouped v.crew.target next x (n + 1) q.below (omega (arith, lt)) o w)) (peer_then d law next at so.1 (Err e) then),
)

pub peer_look_met : {v : Volume} {x n p : ℕ} {fold : List ℕ} {a b : Meaning} (d : Meaning) (e : Refused) → Lawful v.crew.source → Lawful v.crew.target → NextPeer v x n p
    → GroupSofar v x n fold a b → LooksAhead v p b d (Err e) → PlacesBy v (GroupReady v x) (InGroup v.crew.target x) a d (Err e)
peer_look_met {v} {x} {n} {p} d e law next at so look = peer_met d e law next at so (look_unplaced p d e so.1.has look)

pub peer_write_met : {v : Volume} {x n p : ℕ} {fold y : List ℕ} {a b m : Meaning} (d : Meaning) (e : Refused) → Lawful v.crew.source → Lawful v.crew.target
    → NextPeer v x n p
    → GroupSofar v x n fold a b → LooksAhead v p b m (Ok y)
    → Stage {A = Unit} v.crew (AtCopies v.crew.target v.backup p y) (OnMember only_writes m) m d (λ u. CopiesHold v.crew.target v.backup p v.crew.target.copies y d) (Err e)
    → PlacesBy v (GroupReady v x) (InGroup v.crew.target x) a d (Err e)
peer_write_met {v} {x} {n} {p} {fold} {y} {a} {b} {m} d e law next at so look put = peer_met d e law next at so (look_placed m d y next so.1.has look (Err e) put)

-- the parity of a group is what is due there
parity_due : {v : Volume} {x n : ℕ} {p : ℕ × ℕ} {fold : List ℕ} (c : ℕ → List ℕ) → Lawful v.crew.target → Only p (x < v.crew.target.groups) (v.crew.target.parity x) (0, 0)
    → (GroupReady v x → n ≡ v.crew.target.peers x) → (GroupReady v x → fold ≡ gathered (λ k. false) (λ k. padded v.size c (v.crew.target.peer x k)) n)
    → (k s : ℕ) (y : List ℕ) → AtPlace v.backup p fold k s y → PlansDue (GroupReady v x) v.crew.target v.backup (ParityOf x) (padded v.size c) k s y
parity_due {v} {x} {n} {p} {fold} c law place end is k s y at = record {
  sector = at.sector;
  due = λ q. (let t = v.crew.target in
      let cell = cell_at t law v.backup (Parity x) fold q.below k s y (subst (λ r. AtPlace v.backup r fold k s y) (place.0 q.below) at) in
      record {
        cell = record { owner = Parity x; is = q.below; which = refl; member = cell.member; sector = cell.sector };
        content = at.content ∙ (is q ∙ ap (gathered (λ k. false) (λ k. padded v.size c (t.peer x k))) (end q));
      });
}

parity_held : {v : Volume} {x n : ℕ} {p : ℕ × ℕ} {fold : List ℕ} (c : ℕ → List ℕ) (d : Meaning) → Lawful v.crew.target
    → Only p (x < v.crew.target.groups) (v.crew.target.parity x) (0, 0) → (GroupReady v x → n ≡ v.crew.target.peers x)
    → (GroupReady v x → fold ≡ gathered (λ k. false) (λ k. padded v.size c (v.crew.target.peer x k)) n) → PlaceHolds v.backup p fold d
    → GroupReady v x → HoldsDue v.crew.target v.backup (ParityOf x) (padded v.size c) d
parity_held c d law place end is held q (Datum i j) of same = absurd same
parity_held {v} {x} {n} {p} {fold} c d law place end is held q (Parity y) of same =
    let t = v.crew.target in
    subst (λ z. WrittenAt (t.parity z).0 (SLOTS_AT + v.backup + (t.parity z).1) (due_of t (padded v.size c) (Parity z)) d) (sym same)
    (λ there lt. cell_holds t law v.backup (Parity x) fold d (t.parity x).0 (SLOTS_AT + v.backup + (t.parity x).1)
    (record { is = q.below; member = refl; sector = refl }) (subst (λ r. PlaceHolds v.backup r fold d) (place.0 q.below) held) there lt
    ∙ (is q ∙ ap (gathered (λ k. false) (λ k. padded v.size c (t.peer x k))) (end q)))
parity_held c d law place end is held q Nobody of same = absurd same

-- all sectors of a group are placed, and its parity after them
pub group_placed : {v : Volume} {x n : ℕ} {p : ℕ × ℕ} {fold : List ℕ} {a b : Meaning} (d : Meaning) → Lawful v.crew.source → Lawful v.crew.target
    → Only p (x < v.crew.target.groups) (v.crew.target.parity x) (0, 0) → (GroupReady v x → n ≡ v.crew.target.peers x) → GroupSofar v x n fold a b
    → (r : Result Unit Refused)
    → Stage v.crew (AtPlace v.backup p fold) (OnMember only_writes b) b d (λ u. PlaceHolds v.backup p fold d) r
    → PlacesBy v (GroupReady v x) (InGroup v.crew.target x) a d r
group_placed {v} {x} {n} {p} {fold} {a} {b} d law next place end so r put =
    let t = v.crew.target in
    let c = so.0 in (
      renewed (λ i. false) c c,
      places_then d law next so.1.has so.1.places r
          (record {
            given = λ q i lt e. absurd (both_ways false refl e);
            stage = stage_as v.crew b d (parity_due c next place end so.1.parity) (member_as writes_too b)
                (λ u m held q. parity_held c d next place end so.1.parity held q) r put;
          })
          (λ q. subst (λ m. Joins v (GroupReady v x) (PeersBelow t x m) (ParityOf x) (InGroup t x) (λ i. false) c c) (sym (end q)) (parity_joins v next x c q)),
    )
