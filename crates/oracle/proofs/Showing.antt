-- Disks changed one by one.
use Rattle.std.proofs.Common.{◌≡◌, ℕ, zero, suc, Bool, true, false, ◌==◌, ◌+◌, ◌<◌, ◌≤◌, List, [], ◌∷◌, ◌++◌, None, Some, length, get_or, take, refl, sym, ap, subst, ◌∙◌, inl, inr, arith, append-nil}
use Rattle.std.proofs.Math.ListN.{set}
use Rattle.std.proofs.lemmas.List.{append_assoc, get_or-set_other, get_or-set_same, get_or_default, length-set, take_more}
use Rattle.std.proofs.lemmas.Bool.{cases_eq, cond-false, cond-true}
use Rattle.layout.specs.Geometry.{Geometry}
use Rattle.shelf.specs.Meaning.{Meaning}
use Rattle.model.specs.declared.told.Told.{Told}
use Rattle.model.specs.Histories.{chosen}
use Rattle.model.specs.Strays.{stray_count}
use Rattle.oracle.specs.Showing.{FirstShown, CanCount, CanCountAll, SameDisks, each_shown, shown}
use Rattle.model.specs.Disks.{Disk, SameDisk, each, each_of}
use Rattle.oracle.specs.declared.disk.Disk.{Disk as Held}

-- disks below an index were changed, and those from it on are as they were
pub record ChangedBelow (f : Disk → Disk) (old : List Held) (i : ℕ) (new : List Held) : Type 0 where
  pub many : length new ≡ length old
  pub below : (k : ℕ) (d : Held) → k < i → SameDisk (f (shown (get_or old k d))) (shown (get_or new k d))
  pub rest : (k : ℕ) (d : Held) → i ≤ k → get_or new k d ≡ get_or old k d

pub changed_more : (f : Disk → Disk) (old now : List Held) (i : ℕ) (item new : Held) → ChangedBelow f old i now → i < length now
    → SameDisk (f (shown (get_or now i item))) (shown new) → ChangedBelow f old (i + 1) (set now i new)
changed_more f old now i item new c lt same = record {
  many = length-set now i new ∙ c.many;
  below = λ k d under. elim (cases_eq k i) [
    | inl e ↦ subst (λ j. SameDisk (f (shown (get_or old j d))) (shown (get_or (set now i new) j d))) (sym e)
        (subst (λ x. SameDisk (f (shown x)) (shown (get_or (set now i new) i d))) (get_or_default now i item d lt ∙ c.rest i d (omega arith))
        (subst (λ x. SameDisk (f (shown (get_or now i item))) (shown x)) (sym (get_or-set_same now i new d lt)) same))
    | inr ne ↦ subst (λ x. SameDisk (f (shown (get_or old k d))) (shown x)) (sym (get_or-set_other now i k new d ne)) (c.below k d (omega (arith, under, ne)))
  ];
  rest = λ k d over. get_or-set_other now i k new d (λ e. omega (arith, over, e)) ∙ c.rest k d (omega (arith, over));
}

all_changed : (f : Disk → Disk) (old new : List Held) → length new ≡ length old
    → ((k : ℕ) (d : Held) → k < length old → SameDisk (f (shown (get_or old k d))) (shown (get_or new k d))) → SameDisks (each f (each_shown old)) (each_shown new)
all_changed f [] [] e h = tt
all_changed f [] (y ∷ ys) e h = absurd (omega (arith, e))
all_changed f (x ∷ xs) [] e h = absurd (omega (arith, e))
all_changed f (x ∷ xs) (y ∷ ys) e h = (h 0 x (omega arith), all_changed f xs ys (omega (arith, e)) (λ k d lt. h (suc k) d (omega (arith, lt))))

pub changed : (f : Disk → Disk) (old new : List Held) (i : ℕ) → ChangedBelow f old i new → length old ≤ i → SameDisks (each f (each_shown old)) (each_shown new)
changed f old new i c le = all_changed f old new c.many (λ k d lt. c.below k d (omega (arith, lt, le)))

pub roomy_at : (xs : List Held) (k : ℕ) (d : Held) → CanCountAll (each_shown xs) → k < length xs → CanCount (shown (get_or xs k d))
roomy_at [] k d r lt = absurd (omega (arith, lt))
roomy_at (x ∷ xs) zero d r lt = r.0
roomy_at (x ∷ xs) (suc k) d r lt = roomy_at xs k d r.1 (omega (arith, lt))

-- the next disk has room, as it had at the start
pub room_next : (f : Disk → Disk) (old now : List Held) (i : ℕ) (item : Held) → ChangedBelow f old i now → i < length now → CanCountAll (each_shown old) → CanCount (shown (get_or now i item))
room_next f old now i item c lt r = subst (λ x. CanCount (shown x)) (sym (c.rest i item (omega arith))) (roomy_at old i item r (let e = c.many in omega (arith, lt, e)))

pub shown_append : (xs ys : List Held) → each_shown (xs ++ ys) ≡ each_shown xs ++ each_shown ys
shown_append [] ys = refl
shown_append (x ∷ xs) ys = ap (λ l. shown x ∷ l) (shown_append xs ys)

each_of_append : (f : Disk → List Disk) (xs ys : List Disk) → each_of f (xs ++ ys) ≡ each_of f xs ++ each_of f ys
each_of_append f [] ys = refl
each_of_append f (x ∷ xs) ys = ap (λ l. f x ++ l) (each_of_append f xs ys) ∙ sym (append_assoc (f x) (each_of f xs) (each_of f ys))

pub same_append : (a b c d : List Disk) → SameDisks a b → SameDisks c d → SameDisks (a ++ c) (b ++ d)
same_append [] [] c d s t = t
same_append [] (y ∷ ys) c d s t = absurd s
same_append (x ∷ xs) [] c d s t = absurd s
same_append (x ∷ xs) (y ∷ ys) c d s t = (s.0, same_append xs ys c d s.1 t)

-- a disk more: what it may have become stands behind those of the disks before it
pub torn_more : (f : Disk → List Disk) (first : Disk) (items : List Held) (i : ℕ) (item : Held) (new more pushed : List Disk) → i < length items
    → SameDisks (f first ++ each_of f (each_shown (take i items))) new → SameDisks (f (shown (get_or items i item))) more → pushed ≡ new ++ more
    → SameDisks (f first ++ each_of f (each_shown (take (i + 1) items))) pushed
torn_more f first items i item new more pushed lt so one e =
    subst (SameDisks (f first ++ each_of f (each_shown (take (i + 1) items)))) (sym e)
    (subst (λ l. SameDisks l (new ++ more)) (sym behind)
    (same_append (f first ++ each_of f (each_shown (take i items))) new (f (shown (get_or items i item))) more so one))
  where
    next : List Disk
    next = f (shown (get_or items i item))

    taken : each_of f (each_shown (take (i + 1) items)) ≡ each_of f (each_shown (take i items)) ++ next
    taken = ap (λ l. each_of f (each_shown l)) (take_more items i item lt)
        ∙ (ap (each_of f) (shown_append (take i items) (get_or items i item ∷ []))
        ∙ (each_of_append f (each_shown (take i items)) (shown (get_or items i item) ∷ [])
        ∙ ap (λ l. each_of f (each_shown (take i items)) ++ l) (append-nil next)))

    behind : f first ++ each_of f (each_shown (take (i + 1) items)) ≡ (f first ++ each_of f (each_shown (take i items))) ++ next
    behind = ap (λ l. f first ++ l) taken ∙ sym (append_assoc (f first) (each_of f (each_shown (take i items))) next)

-- two pushes, of which the second is of a disk or of none
pub pushed_two : (first : Disk) (was one two : List Held) (x : Held) (more : List Disk) → one ≡ was ++ (x ∷ []) → each_shown two ≡ each_shown one ++ more
    → first ∷ each_shown two ≡ (first ∷ each_shown was) ++ (shown x ∷ more)
pushed_two first was one two x more a b =
    ap (λ l. first ∷ l) (b ∙ (ap (λ l. l ++ more) (ap each_shown a ∙ shown_append was (x ∷ [])) ∙ append_assoc (each_shown was) (shown x ∷ []) more))

-- a test on disks that a program holds, as the choice makes it
abbrev pub shows : (source target : Geometry) → Meaning → ℕ → Told → Held → Bool
shows s t a backup v d = stray_count s t a backup v (shown d) == 0

pub chosen_none : (s t : Geometry) (a : Meaning) (backup : ℕ) (v : Told) (first : Disk) (ds : List Held)
    → ((k : ℕ) (d : Held) → k < length ds → shows s t a backup v (get_or ds k d) ≡ false) → chosen s t a backup v first (each_shown ds) ≡ first
chosen_none s t a backup v first [] none = refl
chosen_none s t a backup v first (x ∷ xs) none =
    cond-false (shows s t a backup v x) (shown x) (chosen s t a backup v first (each_shown xs)) (none 0 x (omega arith))
    ∙ chosen_none s t a backup v first xs (λ k d lt. none (suc k) d (omega (arith, lt)))

pub chosen_some : (s t : Geometry) (a : Meaning) (backup : ℕ) (v : Told) (first : Disk) (ds : List Held) (i : ℕ) (e : Held) → i < length ds
    → ((d : Held) → shows s t a backup v (get_or ds i d) ≡ true) → ((k : ℕ) (d : Held) → k < i → shows s t a backup v (get_or ds k d) ≡ false)
    → chosen s t a backup v first (each_shown ds) ≡ shown (get_or ds i e)
chosen_some s t a backup v first [] i e lt here none = absurd (omega (arith, lt))
chosen_some s t a backup v first (x ∷ xs) zero e lt here none = cond-true (shows s t a backup v x) (shown x) (chosen s t a backup v first (each_shown xs)) (here x)
chosen_some s t a backup v first (x ∷ xs) (suc i) e lt here none =
    cond-false (shows s t a backup v x) (shown x) (chosen s t a backup v first (each_shown xs)) (none 0 x (omega arith))
    ∙ chosen_some s t a backup v first xs i e (omega (arith, lt)) here (λ k d under. none (suc k) d (omega (arith, under)))

-- the first of all is shown; a later one is; none is
pub chosen_first : (s t : Geometry) (a : Meaning) (backup : ℕ) (v : Told) (x : Held) (ds : List Held) → shows s t a backup v x ≡ true
    → shown x ≡ chosen s t a backup v (shown x) (shown x ∷ each_shown ds)
chosen_first s t a backup v x ds e = sym (cond-true (shows s t a backup v x) (shown x) (chosen s t a backup v (shown x) (each_shown ds)) e)

pub chosen_later : (s t : Geometry) (a : Meaning) (backup : ℕ) (v : Told) (x : Held) (ds found : List Held) (i : ℕ) (y : Held) → shows s t a backup v x ≡ false
    → found ≡ ds → FirstShown (shows s t a backup v) found (Some i) → y ≡ get_or ds i y → shown y ≡ chosen s t a backup v (shown x) (shown x ∷ each_shown ds)
chosen_later s t a backup v x ds found i y no_first same f e =
    (let at : FirstShown (shows s t a backup v) ds (Some i) = subst (λ l. FirstShown (shows s t a backup v) l (Some i)) same f in
    ap shown e
    ∙ (sym (chosen_some s t a backup v (shown x) ds i y at.0 at.1 at.2)
    ∙ sym (cond-false (shows s t a backup v x) (shown x) (chosen s t a backup v (shown x) (each_shown ds)) no_first)))

pub chosen_never : (s t : Geometry) (a : Meaning) (backup : ℕ) (v : Told) (x : Held) (ds found : List Held) → shows s t a backup v x ≡ false
    → found ≡ ds → FirstShown (shows s t a backup v) found None → shown x ≡ chosen s t a backup v (shown x) (shown x ∷ each_shown ds)
chosen_never s t a backup v x ds found no_first same f =
    (let all : FirstShown (shows s t a backup v) ds None = subst (λ l. FirstShown (shows s t a backup v) l None) same f in
    sym (chosen_none s t a backup v (shown x) ds all) ∙ sym (cond-false (shows s t a backup v x) (shown x) (chosen s t a backup v (shown x) (each_shown ds)) no_first))

-- one disk is left
pub left_one : (x : Held) (more : List Held) (d : Disk) → more ≡ [] → shown x ≡ d → shown x ∷ each_shown more ≡ d ∷ []
left_one x more d e f = ap (λ l. shown x ∷ each_shown l) e ∙ ap (λ y. y ∷ []) f
