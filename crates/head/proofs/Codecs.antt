-- The fields of a head are its bytes, and the bytes are its fields.
use Rattle.std.proofs.Common.{◌≡◌, ℕ, ◌+◌, ◌≤◌, List, [], ◌∷◌, ◌++◌, length, get_or, slice_index_or, take, drop, replicate, Some, None, Option, sym, refl, ap, ◌∙◌, subst, arith, take-add, MatchOption}
use native.Mathlib.Bridge.{le_prop}
use Rattle.std.specs.Int.{from_bool}
use Rattle.std.specs.List.{between, splice}
use Rattle.std.specs.Option.{is_some, unwrap_or}
use Rattle.std.proofs.lemmas.List.{drop_more, drop-drop, drop-take, take-take, take_all}
use Rattle.sector.specs.Bytes.{le, from_le}
use Rattle.layout.specs.Bytes.{label_bytes, label_from}
use Rattle.layout.specs.declared.label.Label.{Label}
use Rattle.head.specs.Fields.{clear, NumberAt, LabelAt}
use Rattle.head.specs.Heads.{IdleBare, UnarmedBare, Accepted, Fits, head_bytes, no_label, phase_byte, target_label, settled_rows, kept_rows, armed_byte, logged_number}
use Rattle.head.specs.declared.state.Head.{Head}
use Rattle.head.specs.declared.state.Progress.{Progress}
use Rattle.head.specs.declared.state.Progress.TheVariants.{Idle, Moving}
use Rattle.head.specs.declared.TheConstants.{MOST_BACKUP, MOST_NUMBER}

-- zeros as numbers and labels

no_label_lem : label_bytes no_label ≡ clear 16
unfolding le clear
no_label_lem = refl

no_label_fits : label_from (label_bytes no_label) ≡ no_label
unfolding le from_le
no_label_fits = refl

no_number : le 8 0 ≡ clear 8
unfolding le clear
no_number = refl

no_number_fits : from_le (le 8 0) ≡ 0
unfolding le from_le
no_number_fits = refl

-- what an idle and an unarmed head have at the places of what they have not

pub idle_target : (bs : List ℕ) → IdleBare bs → slice_index_or bs 3 0 ≡ 0 → LabelAt 32 no_label bs
idle_target bs bare e = (no_label_lem ∙ sym (bare.target e), no_label_fits)

pub idle_settled : (bs : List ℕ) → IdleBare bs → slice_index_or bs 3 0 ≡ 0 → NumberAt 56 0 bs
unfolding le clear
idle_settled bs bare e = (sym (sym (take-take 8 16 (drop 56 bs) (omega arith)) ∙ ap (take 8) (bare.rows e)), no_number_fits)

pub idle_kept : (bs : List ℕ) → IdleBare bs → slice_index_or bs 3 0 ≡ 0 → NumberAt 64 0 bs
unfolding le clear
idle_kept bs bare e =
    (sym (ap (take 8) (sym (drop-drop 8 56 bs)) ∙ (sym (drop-take 8 8 (drop 56 bs)) ∙ ap (drop 8) (bare.rows e))), no_number_fits)

pub unarmed_logged : (bs : List ℕ) → UnarmedBare bs → slice_index_or bs 4 0 ≡ 0 → NumberAt 80 0 bs
unarmed_logged bs bare e = (no_number ∙ sym (bare.logged e), no_number_fits)

pub ruleset bare = (idle_target, idle_settled, idle_kept, unarmed_logged)

-- each field of the head stands at its place
pub record Placed (bs : List ℕ) (h : Head) : Type 0 where
  pub phase : phase_byte h.progress ≡ get_or bs 3 0
  pub armed : armed_byte h.armed ≡ get_or bs 4 0
  pub number : le 8 h.number ≡ between 8 16 bs
  pub source : label_bytes h.source ≡ between 16 32 bs
  pub target : label_bytes (target_label h.progress) ≡ between 32 48 bs
  pub size : le 8 h.size ≡ between 48 56 bs
  pub settled : le 8 (settled_rows h.progress) ≡ between 56 64 bs
  pub kept : le 8 (kept_rows h.progress) ≡ between 64 72 bs
  pub backup : le 4 h.backup ≡ between 72 76 bs
  pub logged : le 8 (logged_number h.armed) ≡ between 80 88 bs

-- the fields at their places are the whole

five : (bs : List ℕ) → length bs ≡ 512
    → bs ≡ get_or bs 0 0 ∷ get_or bs 1 0 ∷ get_or bs 2 0 ∷ get_or bs 3 0 ∷ get_or bs 4 0 ∷ drop 5 bs
five bs h = grind (arith, drop_more)

start : (bs : List ℕ) (h : Head) → Accepted bs → Placed bs h
    → 0x52 ∷ 0x48 ∷ 1 ∷ phase_byte h.progress ∷ armed_byte h.armed ∷ 0 ∷ 0 ∷ 0 ∷ [] ≡ take 8 bs
unfolding clear
start bs h a p =
    let e : take 8 bs ≡ get_or bs 0 0 ∷ get_or bs 1 0 ∷ get_or bs 2 0 ∷ get_or bs 3 0 ∷ get_or bs 4 0 ∷ take 3 (drop 5 bs) =
    ap (take 8) (five bs a.long) in
    let z : take 3 (drop 5 bs) ≡ 0 ∷ 0 ∷ 0 ∷ [] = a.gaps.start in
    let m = a.marked in
    cc

glue : (m n : ℕ) (bs : List ℕ) → take m bs ++ take n (drop m bs) ≡ take (m + n) bs
glue m n bs = sym (take-add m n bs)

joined : (bs a b c d e f g i j k l : List ℕ) → length bs ≡ 512
    → a ≡ take 8 bs → b ≡ between 8 16 bs → c ≡ between 16 32 bs → d ≡ between 32 48 bs → e ≡ between 48 56 bs
    → f ≡ between 56 64 bs → g ≡ between 64 72 bs → i ≡ between 72 76 bs → j ≡ between 76 80 bs → k ≡ between 80 88 bs
    → l ≡ between 88 512 bs → a ++ b ++ c ++ d ++ e ++ f ++ g ++ i ++ j ++ k ++ l ≡ bs
joined bs a b c d e f g i j k l h ea eb ec ed ee ef eg ei ej ek el =
    rw (ea, eb, ec, ed, ee, ef, eg, ei, ej, ek, el) (simp glue (take_all 512 bs (omega arith)))

pub whole : (bs : List ℕ) (h : Head) → Accepted bs → Placed bs h → head_bytes h ≡ bs
whole bs h a p =
    joined bs _ _ _ _ _ _ _ _ _ _ _ a.long (start bs h a p) p.number p.source p.target p.size p.settled p.kept p.backup
    (sym a.gaps.slots) p.logged (sym a.gaps.tail)

-- the fields that are written at their places, from zeros on, are the whole

pub logged_some : (a : Option ℕ) → unwrap_or a 0 ≡ logged_number a
logged_some None = refl
logged_some (Some i) = refl

pub armed_some : (a : Option ℕ) → from_bool (is_some a) ≡ armed_byte a
armed_some None = refl
armed_some (Some i) = refl

pub written : (h : Head) (b c d e f g i j k : List ℕ)
    → c ≡ splice b 8 16 (le 8 h.number)
    → d ≡ splice c 16 32 (label_bytes h.source)
    → e ≡ splice d 32 48 (label_bytes (target_label h.progress))
    → f ≡ splice e 48 56 (le 8 h.size)
    → g ≡ splice f 56 64 (le 8 (settled_rows h.progress))
    → i ≡ splice g 64 72 (le 8 (kept_rows h.progress))
    → j ≡ splice i 72 76 (le 4 h.backup)
    → k ≡ splice j 80 88 (le 8 (logged_number h.armed))
    → b ≡ 0x52 ∷ 0x48 ∷ 1 ∷ phase_byte h.progress ∷ armed_byte h.armed ∷ replicate 507 0
    → k ≡ head_bytes h
unfolding clear le
written h b c d e f g i j k ec ed ee ef eg ei ej ek eb =
    rw (ek, ej, ei, eg, ef, ee, ed, ec, eb) (refl {a = head_bytes h})

-- the bytes of a head are accepted, with its fields at their places

pub placed : (h : Head) → Placed (head_bytes h) h
unfolding clear le
placed h = record {
  phase = refl;
  armed = refl;
  number = refl;
  source = refl;
  target = refl;
  size = refl;
  settled = refl;
  kept = refl;
  backup = refl;
  logged = refl;
}

flag_phase : (p : Progress) → phase_byte p ≤ 1
flag_phase Idle = omega arith
flag_phase (Moving t s k) = omega arith

flag_armed : (o : Option ℕ) → armed_byte o ≤ 1
flag_armed None = omega arith
flag_armed (Some i) = omega arith

idle_only : (p : Progress) → phase_byte p ≡ 0 → p ≡ Idle
idle_only Idle e = refl
idle_only (Moving t s k) e = absurd (omega (arith, e))

unarmed_only : (o : Option ℕ) → armed_byte o ≡ 0 → o ≡ None
unarmed_only None e = refl
unarmed_only (Some i) e = absurd (omega (arith, e))

pub accepted : (h : Head) → Fits h → Accepted (head_bytes h)
unfolding clear le
accepted h f =
    let n : from_le (between 8 16 (head_bytes h)) ≡ h.number = f.number in
    let b : from_le (between 72 76 (head_bytes h)) ≡ h.backup = f.backup in
    record {
      long = refl;
      marked = record { first = refl; second = refl; edition = refl };
      flags = record { phase = flag_phase h.progress; armed = flag_armed h.armed };
      gaps = record { start = refl; slots = refl; tail = refl };
      ranges = record {
        number_least = rw n h.numbered.0;
        number_most = rw n h.numbered.1;
        backup_least = rw b h.backed.0;
        backup_most = rw b h.backed.1;
      };
      idle = record {
        target = λ e. rw (idle_only h.progress e) no_label_lem;
        rows = λ e. rw (idle_only h.progress e) refl;
      };
      unarmed = record { logged = λ e. rw (unarmed_only h.armed e) no_number };
    }

-- the bytes of a head say which head it is

abbrev Numbered : ℕ → Type 0
Numbered n = (1 ≤ n) × (n ≤ MOST_NUMBER)

abbrev Backed : ℕ → Type 0
Backed b = (1 ≤ b) × (b ≤ MOST_BACKUP)

abbrev build : (n : ℕ) (s : Label) (p : Progress) (z b : ℕ) (a : Option ℕ) → Numbered n → Backed b → Head
build n s p z b a u v = record {
  number = n;
  source = s;
  progress = p;
  size = z;
  backup = b;
  armed = a;
  numbered = u;
  backed = v;
}

same_build : (n : ℕ) (s : Label) (p : Progress) (z b : ℕ) (a : Option ℕ) (u u' : Numbered n) (v v' : Backed b)
    → build n s p z b a u v ≡ build n s p z b a u' v'
same_build n s p z b a u u' v v' =
    λ i. build n s p z b a (le_prop u.0 u'.0 i, le_prop u.1 u'.1 i) (le_prop v.0 v'.0 i, le_prop v.1 v'.1 i)

pub same_head : (h k : Head) → h.number ≡ k.number → h.source ≡ k.source → h.progress ≡ k.progress → h.size ≡ k.size
    → h.backup ≡ k.backup → h.armed ≡ k.armed → h ≡ k
same_head h k en es ep ez eb ea =
    subst (λ n. (u : Numbered n) → h ≡ build n k.source k.progress k.size k.backup k.armed u k.backed) en
    (λ u. subst (λ b. (v : Backed b) → h ≡ build h.number k.source k.progress k.size b k.armed u v) eb
    (λ v. same_build h.number h.source h.progress h.size h.backup h.armed h.numbered u h.backed v
    ∙ (λ i. build h.number (es i) (ep i) (ez i) h.backup (ea i) u v)) k.backed) k.numbered

same_progress : (p q : Progress) → phase_byte p ≡ phase_byte q → target_label p ≡ target_label q → settled_rows p ≡ settled_rows q
    → kept_rows p ≡ kept_rows q → p ≡ q
same_progress Idle Idle e t s k = refl
same_progress Idle (Moving t' s' k') e t s k = absurd (omega (arith, e))
same_progress (Moving t' s' k') Idle e t s k = absurd (omega (arith, e))
same_progress (Moving t' s' k') (Moving t'' s'' k'') e t s k = λ i. Moving (t i) (s i) (k i)

same_armed : (a b : Option ℕ) → armed_byte a ≡ armed_byte b → logged_number a ≡ logged_number b → a ≡ b
same_armed None None e l = refl
same_armed None (Some i) e l = absurd (omega (arith, e))
same_armed (Some i) None e l = absurd (omega (arith, e))
same_armed (Some i) (Some j) e l = ap Some l

pub one_head : (h k : Head) → Fits h → Fits k → head_bytes h ≡ head_bytes k → h ≡ k
one_head h k f g e =
    let p : Placed (head_bytes h) h = placed h in
    let q : Placed (head_bytes h) k = subst (λ bs. Placed bs k) (sym e) (placed k) in
    same_head h k
    (sym f.number ∙ (ap from_le (p.number ∙ sym q.number) ∙ g.number))
    (sym f.source ∙ (ap label_from (p.source ∙ sym q.source) ∙ g.source))
    (same_progress h.progress k.progress (p.phase ∙ sym q.phase)
    (sym f.target ∙ (ap label_from (p.target ∙ sym q.target) ∙ g.target))
    (sym f.settled ∙ (ap from_le (p.settled ∙ sym q.settled) ∙ g.settled))
    (sym f.kept ∙ (ap from_le (p.kept ∙ sym q.kept) ∙ g.kept)))
    (sym f.size ∙ (ap from_le (p.size ∙ sym q.size) ∙ g.size))
    (sym f.backup ∙ (ap from_le (p.backup ∙ sym q.backup) ∙ g.backup))
    (same_armed h.armed k.armed (p.armed ∙ sym q.armed)
    (sym f.logged ∙ (ap from_le (p.logged ∙ sym q.logged) ∙ g.logged)))

pub read_back : (h : Head) (bs : List ℕ) (r : Option Head) → Fits h → bs ≡ head_bytes h → Accepted bs
    → MatchOption r (Accepted bs → ⊥) (λ k. Accepted bs × (head_bytes k ≡ bs) × Fits k) → r ≡ Some h
read_back h bs None f e a w = absurd (w a)
read_back h bs (Some k) f e a w = ap Some (one_head k h w.2 f (w.1 ∙ e))
