-- The laws of the relation.
use Rattle.std.proofs.Common.{◌≡◌, ℕ, ◌<◌, Bool, true, false, eqb, ◌⊎◌, List, length, sym, refl, ap, ◌∙◌, subst, inl, inr, arith, Ok, Err}
use Rattle.std.proofs.lemmas.Bool.{both_ways, cases_Bool, cases_eq, cases_lt, cond-false, cond-true, eq-eqb, ne_eqb}
use Rattle.shelf.specs.Meaning.{FlushIn, Flushed, LeavesBuffer, OthersStay, Meaning, OneContent, OperationInRange, ReadIn, Reads, Restarts, Sets, Persists, AnswerTells, Untouched, WriteIn, Writes}
use Rattle.shelf.specs.Relation.{Allows, Both, Remembers, Repeats, Stays, brought_out, cut, without_member, member_durable, partly_out, picked, some_durable, with_current, with_current_amid}
use Rattle.shelf.specs.Answers.{Answer, done}
use Rattle.shelf.specs.declared.Failure.TheVariants.{Absent, Off, OutOfRange}

-- in range or not
ranged : (a : Meaning) (m s n : ℕ) → OperationInRange a m s n ⊎ (OperationInRange a m s n → ⊥)
ranged a m s n = elim (cases_lt m a.members) [
  | inr no_member ↦ inr (λ q. let h = q.member_below in omega arith)
  | inl member ↦ elim (cases_lt s a.sectors) [
    | inr no-sector ↦ inr (λ q. let h = q.sector_below in omega arith)
    | inl sector ↦ elim (cases_eq n 512) [
      | inr other ↦ inr (λ q. other q.long)
      | inl long ↦ inl (record { member_below = member; sector_below = sector; long = long })
    ]
  ]
]

done_refused : ◌≡◌ {A = Answer} done (Err OutOfRange) → ⊥
done_refused e = let z : ◌≡◌ {A = ℕ} 0 1 = cc in omega arith

-- the arguments of the second of two operations
ranged_next : (a b : Meaning) (k m s n l : ℕ) → OthersStay k a b → l ≡ n → OperationInRange a m s l → OperationInRange b m s n
ranged_next a b k m s n l e f q = record {
  member_below = subst (λ x. m < x) (sym e.members) q.member_below;
  sector_below = subst (λ x. s < x) (sym e.sectors) q.sector_below;
  long = sym f ∙ q.long;
}

others_twice : (m : ℕ) (a b c : Meaning) → OthersStay m a b → OthersStay m b c → OthersStay m a c
others_twice m a b c f g = record {
  members = g.members ∙ f.members;
  sectors = g.sectors ∙ f.sectors;
  off_stays = λ e. g.off_stays (f.off_stays e);
  absent_stays = λ e. g.absent_stays (f.absent_stays e);
  others = λ k ne. g.others k ne ∙ f.others k ne;
}

-- what was current in between was so before or is so after
persists_twice : (a b c : Meaning) → ((k s : ℕ) → (b.current k s ≡ a.current k s) ⊎ (b.current k s ≡ c.current k s)) → Persists a b → Persists b c → Persists a c
persists_twice a b c way f g = record {
  durable = λ k s. elim (g.durable k s) [
    | inl e ↦ elim (f.durable k s) [
      | inl d ↦ inl (e ∙ d)
      | inr o ↦ elim o [ inl d ↦ inr (inl (e ∙ d)) | inr d ↦ elim (way k s) [ inl w ↦ inr (inl (e ∙ (d ∙ w))) | inr w ↦ inr (inr (e ∙ (d ∙ w))) ] ]
    ]
    | inr o ↦ elim o [ inl e ↦ elim (way k s) [ inl w ↦ inr (inl (e ∙ w)) | inr w ↦ inr (inr (e ∙ w)) ] | inr e ↦ inr (inr e) ]
  ];
}

read_twice : (m s : ℕ) (old mid other new : List ℕ) (a b c : Meaning) (r t : Answer) → length other ≡ length old
    → Reads m s old mid a b r → Reads m s other new b c t → Reads m s other new a c t
read_twice m s old mid other new a b c r t long f g = record {
  inside = λ q. (let first = f.inside (record { member_below = q.member_below; sector_below = q.sector_below; long = sym long ∙ q.long }) in
      let second = g.inside (ranged_next a b m m s (length other) (length other) first.others refl q) in
      record {
        others = others_twice m a b c first.others second.others;
        persists = persists_twice a b c (λ k i. inl (first.current k i)) first.persists second.persists;
        current = λ k i. second.current k i ∙ first.current k i;
        tells = second.tells;
        gives = subst (λ x. LeavesBuffer t x other new) (first.current m s) second.gives;
      });
  outside = λ no. (let first = f.outside (λ q. no (record { member_below = q.member_below; sector_below = q.sector_below; long = long ∙ q.long })) in
      let second = g.outside (λ q. no (subst (λ (x : Meaning). OperationInRange x m s (length other)) first.1 q)) in
      (second.0, second.1 ∙ first.1, second.2));
}

-- a write leaves the old content or the new one
sets_or : (r : Answer) (content old new : List ℕ) → Sets r content old new → (new ≡ old) ⊎ (new ≡ content)
sets_or (Ok x) content old new e = inr e
sets_or (Err Absent) content old new e = inl e
sets_or (Err Off) content old new e = e
sets_or (Err OutOfRange) content old new e = inl e

sets_twice : (t : Answer) (m : ℕ) (c : Meaning) (content old mid new : List ℕ) → (t ≡ Err Absent → ⊥) → AnswerTells t m c → (mid ≡ old) ⊎ (mid ≡ content)
    → Sets t content mid new → Sets t content old new
sets_twice (Ok x) m c content old mid new ne tell way e = e
sets_twice (Err Absent) m c content old mid new ne tell way e = absurd (ne refl)
sets_twice (Err Off) m c content old mid new ne tell way e = elim e [ inl d ↦ elim way [ inl w ↦ inl (d ∙ w) | inr w ↦ inr (d ∙ w) ] | inr d ↦ inr d ]
sets_twice (Err OutOfRange) m c content old mid new ne tell way e = absurd tell

write_twice : (m s : ℕ) (content : List ℕ) (a b c : Meaning) (r t : Answer) → (t ≡ Err Absent → ⊥)
    → Writes m s content a b r → Writes m s content b c t → Writes m s content a c t
write_twice m s content a b c r t ne f g = record {
  inside = λ q. (let first = f.inside q in
      let second = g.inside (ranged_next a b m m s (length content) (length content) first.others refl q) in
      let way = sets_or r content (a.current m s) (b.current m s) first.sets in
      record {
        others = others_twice m a b c first.others second.others;
        persists = persists_twice a b c (between first second) first.persists second.persists;
        elsewhere = λ k i apart. second.elsewhere k i apart ∙ first.elsewhere k i apart;
        tells = second.tells;
        sets = sets_twice t m c content (a.current m s) (b.current m s) (c.current m s) ne second.tells way second.sets;
      });
  outside = λ no. (let first = f.outside no in
      let second = g.outside (λ q. no (subst (λ (x : Meaning). OperationInRange x m s (length content)) first.1 q)) in
      (second.0, second.1 ∙ first.1));
}
  where
    here : WriteIn m s content a b r → WriteIn m s content b c t → (b.current m s ≡ a.current m s) ⊎ (b.current m s ≡ c.current m s)
    here first second = elim (sets_or r content _ _ first.sets) [
      | inl same ↦ inl same
      | inr new ↦ inr (elim (sets_or t content _ _ second.sets) [ inl e ↦ sym e | inr e ↦ new ∙ sym e ])
    ]

    between : WriteIn m s content a b r → WriteIn m s content b c t → (k i : ℕ) → (b.current k i ≡ a.current k i) ⊎ (b.current k i ≡ c.current k i)
    between first second k i = elim (cases_eq k m) [
      | inr other ↦ inl (first.elsewhere k i (λ same. other same.0))
      | inl member ↦ elim (cases_eq i s) [
        | inr other ↦ inl (first.elsewhere k i (λ same. other same.1))
        | inl sector ↦ subst (λ x. (b.current x i ≡ a.current x i) ⊎ (b.current x i ≡ c.current x i)) (sym member)
            (subst (λ x. (b.current m x ≡ a.current m x) ⊎ (b.current m x ≡ c.current m x)) (sym sector) (here first second))
      ]
    ]

flush_twice : (m : ℕ) (a b c : Meaning) (r t : Answer) → Flushed m a b r → Flushed m b c t → Flushed m a c t
flush_twice m a b c r t f g = record {
  inside = λ q. (let first = f.inside q in
      let second = g.inside (subst (λ x. m < x) (sym first.others.members) q) in
      record {
        others = others_twice m a b c first.others second.others;
        persists = persists_twice a b c (λ k i. inl (first.current k i)) first.persists second.persists;
        current = λ k i. second.current k i ∙ first.current k i;
        tells = second.tells;
        flushes = second.flushes;
      });
  outside = λ no. (let first = f.outside no in
      let second = g.outside (λ q. no (subst (λ (x : Meaning). m < x.members) first.1 q)) in
      (second.0, second.1 ∙ first.1));
}

-- a sector of a present member after a restart
either : (a b : Meaning) (r : Bool) (k s : ℕ) → Restarts a b r → a.present k ≡ true → OneContent a b k s ⊎ Untouched a b k s
either a b r k s f there = elim (cases_Bool b.on) [ inl on ↦ inl (f.on on k s there) | inr off ↦ f.off off k s there ]

one_twice : (a b c : Meaning) (k s : ℕ) → OneContent a b k s ⊎ Untouched a b k s → OneContent b c k s → OneContent a c k s
one_twice a b c k s f g = record {
  both = g.both;
  one = elim f [
    | inr u ↦ elim g.one [ inl e ↦ inl (e ∙ u.durable) | inr e ↦ inr (e ∙ u.current) ]
    | inl o ↦ (let e : c.current k s ≡ b.current k s = elim g.one [ inl e ↦ e ∙ o.both | inr e ↦ e ] in
        elim o.one [ inl w ↦ inl (e ∙ w) | inr w ↦ inr (e ∙ w) ])
  ];
}

untouched_twice : (a b c : Meaning) (k s : ℕ) → Untouched a b k s → Untouched b c k s → Untouched a c k s
untouched_twice a b c k s f g = record { durable = g.durable ∙ f.durable; current = g.current ∙ f.current }

restart_twice : (a b c : Meaning) (r t : Bool) → Restarts a b r → Restarts b c t → Restarts a c t
restart_twice a b c r t f g = record {
  members = g.members ∙ f.members;
  sectors = g.sectors ∙ f.sectors;
  answer = g.answer;
  present = λ k. g.present k ∙ f.present k;
  absent = λ k s gone. untouched_twice a b c k s (f.absent k s gone) (g.absent k s (f.present k ∙ gone));
  on = λ on k s there. one_twice a b c k s (either a b r k s f there) (g.on on k s (f.present k ∙ there));
  off = λ off k s there. elim (g.off off k s (f.present k ∙ there)) [
    | inl o ↦ inl (one_twice a b c k s (either a b r k s f there) o)
    | inr u ↦ elim (either a b r k s f there) [
      | inr v ↦ inr (untouched_twice a b c k s v u)
      | inl o ↦ inl (record {
        both = u.durable ∙ (o.both ∙ sym u.current);
        one = elim o.one [ inl w ↦ inl (u.current ∙ w) | inr w ↦ inr (u.current ∙ w) ];
      })
    ]
  ];
}

pub repeats : Repeats
repeats = record { read = read_twice; write = write_twice; flush = flush_twice; restart = restart_twice }

-- what done tells: it was in range
write_in : (m s : ℕ) (content : List ℕ) (a b : Meaning) → Writes m s content a b done → WriteIn m s content a b done
write_in m s content a b f = elim (ranged a m s (length content)) [ inl q ↦ f.inside q | inr out ↦ absurd (done_refused (f.outside out).0) ]

read_in : (m s : ℕ) (old new : List ℕ) (a b : Meaning) → Reads m s old new a b done → ReadIn m s old new a b done
read_in m s old new a b f = elim (ranged a m s (length old)) [ inl q ↦ f.inside q | inr out ↦ absurd (done_refused (f.outside out).0) ]

flush_in : (m : ℕ) (a b : Meaning) → Flushed m a b done → FlushIn m a b done
flush_in m a b f = elim (cases_lt m a.members) [ inl q ↦ f.inside q | inr out ↦ absurd (done_refused (f.outside (λ q. omega arith)).0) ]

lasts : (m s : ℕ) (a b c : Meaning) (r : Bool) → Flushed m a b done → Restarts b c r → Both c m s (a.current m s)
lasts m s a b c r f g =
    let done = flush_in m a b f in
    let now : b.current m s ≡ a.current m s = done.current m s in
    let durable : b.durable m s ≡ a.current m s = done.flushes s ∙ now in
    elim (either b c r m s g done.tells.1) [
      | inr u ↦ (u.durable ∙ durable, u.current ∙ now)
      | inl o ↦ (let e : c.current m s ≡ a.current m s = elim o.one [ inl w ↦ w ∙ durable | inr w ↦ w ∙ now ] in (o.both ∙ e, e))
    ]

-- from what happens to members and power
stays_others : (m : ℕ) (a b : Meaning) → OthersStay m a b → Stays a b
stays_others m a b f = record {
  off = f.off_stays;
  absent = λ k gone. elim (cases_eq k m) [
    | inr other ↦ f.others k other ∙ gone
    | inl same ↦ ap b.present same ∙ f.absent_stays (ap a.present (sym same) ∙ gone)
  ];
}

stays_same : (a b : Meaning) → b ≡ a → Stays a b
stays_same a b e = record { off = λ off. ap (λ (x : Meaning). x.on) e ∙ off; absent = λ k gone. ap (λ (x : Meaning). x.present k) e ∙ gone }

pub keeps : Remembers
keeps = record {
  written_read = λ m s content old new a b c f g. (read_in m s old new b c g).gives ∙ (write_in m s content a b f).sets;
  read_again = λ m s old mid other new a b c f g. (read_in m s other new b c g).gives ∙ ((read_in m s old mid a b f).current m s ∙ sym (read_in m s old mid a b f).gives);
  flushed_lasts = lasts;
  written_lasts = λ m s content a b c d r f g h. (let both = lasts m s b c d r g h in let e = (write_in m s content a b f).sets in (both.0 ∙ e, both.1 ∙ e));
  read_stays = λ m s old new a b r f. elim (ranged a m s (length old)) [ inl q ↦ stays_others m a b (f.inside q).others | inr out ↦ stays_same a b (f.outside out).1 ];
  write_stays = λ m s content a b r f. elim (ranged a m s (length content)) [ inl q ↦ stays_others m a b (f.inside q).others | inr out ↦ stays_same a b (f.outside out).1 ];
  flush_stays = λ m a b r f. elim (cases_lt m a.members) [ inl q ↦ stays_others m a b (f.inside q).others | inr out ↦ stays_same a b (f.outside (λ q. omega arith)).1 ];
  restart_absent = λ a b r f k gone. f.present k ∙ gone;
}

others_cut : (m : ℕ) (a : Meaning) → OthersStay m a (cut a)
others_cut m a = record { members = refl; sectors = refl; off_stays = λ e. refl; absent_stays = λ e. e; others = λ k ne. refl }

persists_cut : (a : Meaning) → Persists a (cut a)
persists_cut a = record { durable = λ k s. inl refl }

-- one of the two contents that were picked from
picked_one : (pick : ℕ → ℕ → Bool) (first second : ℕ → ℕ → List ℕ) (k s : ℕ) → (picked pick first second k s ≡ first k s) ⊎ (picked pick first second k s ≡ second k s)
picked_one pick first second k s = elim (cases_Bool (pick k s)) [ inl taken ↦ inr (cond-true (pick k s) _ _ taken) | inr left ↦ inl (cond-false (pick k s) _ _ left) ]

-- what persists where the current contents become others
persists_amid : (before after : ℕ → ℕ → Bool) (a b : Meaning) → ((k s : ℕ) → b.durable k s ≡ picked after (picked before a.durable a.current) b.current k s) → Persists a b
persists_amid before after a b e = record {
  durable = λ k s. elim (picked_one after (picked before a.durable a.current) b.current k s) [
    | inr late ↦ inr (inr (e k s ∙ late))
    | inl early ↦ elim (picked_one before a.durable a.current k s) [ inl same ↦ inl (e k s ∙ (early ∙ same)) | inr now ↦ inr (inl (e k s ∙ (early ∙ now))) ]
  ];
}

-- the sector that is written, and the others
written_here : (m s : ℕ) (content : List ℕ) (a : Meaning) → (with_current m s content a).current m s ≡ content
written_here m s content a = cond-true (eqb m m) _ _ (eq-eqb m m refl) ∙ cond-true (eqb s s) _ _ (eq-eqb s s refl)

written_there : (m t : ℕ) (content : List ℕ) (a : Meaning) (k s : ℕ) → ((k ≡ m) × (s ≡ t) → ⊥) → (with_current m t content a).current k s ≡ a.current k s
written_there m t content a k s apart = elim (cases_eq k m) [
  | inr other ↦ cond-false (eqb k m) _ _ (ne_eqb k m other)
  | inl member ↦ elim (cases_eq s t) [
    | inl sector ↦ absurd (apart (member, sector))
    | inr other ↦ cond-true (eqb k m) _ _ (eq-eqb k m member) ∙ cond-false (eqb s t) _ _ (ne_eqb s t other)
  ]
]

-- nothing happens to members and power
others_same : (m : ℕ) (a b : Meaning) → b.members ≡ a.members → b.sectors ≡ a.sectors → b.on ≡ a.on → b.present ≡ a.present → OthersStay m a b
others_same m a b e f g h = record { members = e; sectors = f; off_stays = λ off. g ∙ off; absent_stays = λ gone. ap (λ p. p m) h ∙ gone; others = λ k ne. ap (λ p. p k) h }

-- or the power goes as well
others_off : (m : ℕ) (a b : Meaning) → OthersStay m a b → OthersStay m a (cut b)
others_off m a b f = record { members = f.members; sectors = f.sectors; off_stays = λ e. refl; absent_stays = f.absent_stays; others = f.others }

-- or a member is lost
gone_here : (m : ℕ) (a : Meaning) → (without_member m a).present m ≡ false
gone_here m a = cond-true (eqb m m) _ _ (eq-eqb m m refl)

others_lost : (m : ℕ) (a : Meaning) → OthersStay m a (without_member m a)
others_lost m a = record { members = refl; sectors = refl; off_stays = λ e. e; absent_stays = λ e. gone_here m a; others = λ k ne. cond-false (eqb k m) _ _ (ne_eqb k m ne) }

persists_lost : (m : ℕ) (a : Meaning) → Persists a (without_member m a)
persists_lost m a = record { durable = λ k s. inl refl }

-- a sector of a present member that is brought out, and one of an absent one
out_here : (pick : ℕ → ℕ → Bool) (a : Meaning) (k s : ℕ) → a.present k ≡ true → OneContent a (brought_out pick a) k s
out_here pick a k s there =
    let durable : (brought_out pick a).durable k s ≡ picked pick a.durable a.current k s = cond-true (a.present k) _ _ there in
    let current : (brought_out pick a).current k s ≡ picked pick a.durable a.current k s = cond-true (a.present k) _ _ there in
    record {
      both = durable ∙ sym current;
      one = elim (picked_one pick a.durable a.current k s) [ inl e ↦ inl (current ∙ e) | inr e ↦ inr (current ∙ e) ];
    }

out_absent : (pick : ℕ → ℕ → Bool) (a : Meaning) (k s : ℕ) → a.present k ≡ false → Untouched a (brought_out pick a) k s
out_absent pick a k s gone = record { durable = cond-false (a.present k) _ _ gone; current = cond-false (a.present k) _ _ gone }

-- a sector that is partly brought out is as it was, or as one that is brought out
part_or : (some pick : ℕ → ℕ → Bool) (a : Meaning) (k s : ℕ) → Untouched a (partly_out some pick a) k s ⊎ Untouched (brought_out pick a) (partly_out some pick a) k s
part_or some pick a k s = elim (cases_Bool (some k s)) [
  | inl taken ↦ inr (record { durable = cond-true (some k s) _ _ taken; current = cond-true (some k s) _ _ taken })
  | inr left ↦ inl (record { durable = cond-false (some k s) _ _ left; current = cond-false (some k s) _ _ left })
]

part_absent : (some pick : ℕ → ℕ → Bool) (a : Meaning) (k s : ℕ) → a.present k ≡ false → Untouched a (partly_out some pick a) k s
part_absent some pick a k s gone = elim (part_or some pick a k s) [ inl e ↦ e | inr e ↦ untouched_twice a (brought_out pick a) (partly_out some pick a) k s (out_absent pick a k s gone) e ]

part_here : (some pick : ℕ → ℕ → Bool) (a : Meaning) (k s : ℕ) → a.present k ≡ true → OneContent a (partly_out some pick a) k s ⊎ Untouched a (partly_out some pick a) k s
part_here some pick a k s there = elim (part_or some pick a k s) [
  | inl e ↦ inr e
  | inr e ↦ (let o = out_here pick a k s there in
      inl (record { both = e.durable ∙ (o.both ∙ sym e.current); one = elim o.one [ inl w ↦ inl (e.current ∙ w) | inr w ↦ inr (e.current ∙ w) ] }))
]

pub allows : Allows
allows = record {
  read = λ m s old a q. record {
    inside = λ h. record { others = others_cut m a; persists = persists_cut a; current = λ k i. refl; tells = refl; gives = refl };
    outside = λ no. absurd (no q);
  };
  write = λ m s content a q. record {
    inside = λ h. record { others = others_cut m a; persists = persists_cut a; elsewhere = λ k i apart. refl; tells = refl; sets = inl refl };
    outside = λ no. absurd (no q);
  };
  flush = λ m a q. record {
    inside = λ h. record { others = others_cut m a; persists = persists_cut a; current = λ k i. refl; tells = refl; flushes = tt };
    outside = λ no. absurd (no q);
  };
  restart = λ a. record {
    members = refl;
    sectors = refl;
    answer = refl;
    present = λ k. refl;
    absent = λ k s gone. record { durable = refl; current = refl };
    on = λ on. absurd (both_ways false refl on);
    off = λ off k s there. inr (record { durable = refl; current = refl });
  };
  read_refused = λ m s old a no. record { inside = λ q. absurd (no q); outside = λ n. (refl, refl, refl) };
  write_refused = λ m s content a no. record { inside = λ q. absurd (no q); outside = λ n. (refl, refl) };
  flush_refused = λ m a no. record { inside = λ q. absurd (no q); outside = λ n. (refl, refl) };
  read_done = λ pick m s old a q on there. record {
    inside = λ h. record {
      others = others_same m a (some_durable pick a) refl refl refl refl;
      persists = persists_amid pick (λ k i. false) a (some_durable pick a) (λ k i. refl);
      current = λ k i. refl;
      tells = (on, there);
      gives = refl;
    };
    outside = λ no. absurd (no q);
  };
  write_done = λ before after m s content a q on there. record {
    inside = λ h. record {
      others = others_same m a (with_current_amid before after m s content a) refl refl refl refl;
      persists = persists_amid before after a (with_current_amid before after m s content a) (λ k i. refl);
      elsewhere = written_there m s content a;
      tells = (on, there);
      sets = written_here m s content a;
    };
    outside = λ no. absurd (no q);
  };
  read_cut = λ pick m s old a q. record {
    inside = λ h. record {
      others = others_off m a (some_durable pick a) (others_same m a (some_durable pick a) refl refl refl refl);
      persists = persists_amid pick (λ k i. false) a (cut (some_durable pick a)) (λ k i. refl);
      current = λ k i. refl;
      tells = refl;
      gives = refl;
    };
    outside = λ no. absurd (no q);
  };
  write_cut = λ before after m s content a q. record {
    inside = λ h. record {
      others = others_off m a (with_current_amid before after m s content a) (others_same m a (with_current_amid before after m s content a) refl refl refl refl);
      persists = persists_amid before after a (cut (with_current_amid before after m s content a)) (λ k i. refl);
      elsewhere = written_there m s content a;
      tells = refl;
      sets = inr (written_here m s content a);
    };
    outside = λ no. absurd (no q);
  };
  flush_done = λ pick m a q on there. record {
    inside = λ h. record {
      others = others_same m a (member_durable m (some_durable pick a)) refl refl refl refl;
      persists = persists_amid pick (λ k i. eqb k m) a (member_durable m (some_durable pick a)) (λ k i. refl);
      current = λ k i. refl;
      tells = (on, there);
      flushes = λ i. cond-true (eqb m m) _ _ (eq-eqb m m refl);
    };
    outside = λ no. absurd (no q);
  };
  flush_cut = λ pick m a q. record {
    inside = λ h. record {
      others = others_off m a (some_durable pick a) (others_same m a (some_durable pick a) refl refl refl refl);
      persists = persists_amid pick (λ k i. false) a (cut (some_durable pick a)) (λ k i. refl);
      current = λ k i. refl;
      tells = refl;
      flushes = tt;
    };
    outside = λ no. absurd (no q);
  };
  read_absent = λ m s old a q on. record {
    inside = λ h. record { others = others_lost m a; persists = persists_lost m a; current = λ k i. refl; tells = (on, gone_here m a); gives = refl };
    outside = λ no. absurd (no q);
  };
  write_absent = λ m s content a q on. record {
    inside = λ h. record { others = others_lost m a; persists = persists_lost m a; elsewhere = λ k i apart. refl; tells = (on, gone_here m a); sets = refl };
    outside = λ no. absurd (no q);
  };
  flush_absent = λ m a q on. record {
    inside = λ h. record { others = others_lost m a; persists = persists_lost m a; current = λ k i. refl; tells = (on, gone_here m a); flushes = tt };
    outside = λ no. absurd (no q);
  };
  restart_on = λ pick a. record {
    members = refl;
    sectors = refl;
    answer = refl;
    present = λ k. refl;
    absent = out_absent pick a;
    on = λ on. out_here pick a;
    off = λ off. absurd (both_ways true off refl);
  };
  restart_off = λ some pick a. record {
    members = refl;
    sectors = refl;
    answer = refl;
    present = λ k. refl;
    absent = part_absent some pick a;
    on = λ on. absurd (both_ways false refl on);
    off = λ off. part_here some pick a;
  };
}
