-- Clearing, member by member and place by place.
use Rattle.std.proofs.Common.{◌≡◌, ℕ, ◌+◌, ◌<◌, ◌≢◌, ◌⊎◌, List, replicate, refl, sym, ◌∙◌, inl, inr, subst, arith}
use Rattle.std.proofs.lemmas.Bool.{cases_eq}
use Rattle.layout.specs.Geometry.{Geometry, place_of}
use Rattle.layout.specs.Lawful.{Lawful}
use Rattle.layout.specs.declared.TheConstants.{MOST_DEPTH}
use Rattle.layout.specs.declared.place.Owner.{Owner}
use Rattle.layout.specs.declared.place.Owner.TheVariants.{Nobody}
use Rattle.shelf.specs.Meaning.{Meaning}
use Rattle.model.specs.Crew.{Crew}
use Rattle.model.specs.Ends.{GoesOn}
use Rattle.model.specs.Images.{created_over}
use Rattle.model.specs.May.{May}
use Rattle.model.specs.Steps.{MadeAt, Torn}
use Rattle.model.proofs.Carrying.{CellOf, cell_or_nobody}
use Rattle.model.proofs.Clearing.{cleared_again, cleared_by, cleared_cell}
use Rattle.model.proofs.Mays.{may_wider}
use Rattle.stage.specs.Done.{WrittenAt}
use Rattle.stage.specs.Places.{AtPlace, PlaceHolds}
use Rattle.stage.proofs.Stepping.{Begun, begun_more, made_left}

-- the cells of owners on member m, below offset n
pub record OwnedBelow (g : Geometry) (backup m n k s : ℕ) : Type 0 where
  pub owner : Owner
  pub cell : CellOf g backup owner k s
  pub member : k ≡ m
  pub below : (place_of g owner).1 < n

-- one offset more
owned_more : (g : Geometry) (backup m n k s : ℕ) → OwnedBelow g backup m (n + 1) k s → OwnedBelow g backup m n k s ⊎ (s ≡ 3 + backup + n)
owned_more g backup m n k s e =
    let below = e.below in
    let sector = e.cell.sector in
    elim (cases_eq (place_of g e.owner).1 n) [
      | inl same ↦ inr (omega (arith, same, sector))
      | inr ne ↦ inl (record { owner = e.owner; cell = e.cell; member = e.member; below = omega (arith, below, ne) })
    ]

-- member m is gone over, up to an offset
abbrev pub ClearedBelow : Crew → Geometry → (backup m n : ℕ) → (a b : Meaning) → Type 0
ClearedBelow w g backup m n a b = Begun w (created_over g backup) (OwnedBelow g backup m n) a b

-- the next place, where somebody owns it, is cleared
pub place_planned : (g : Geometry) → Lawful g → (backup m n : ℕ) (a : Meaning) → n < MOST_DEPTH → (g.owner (m, n) ≢ Nobody) → (k s : ℕ) (x : List ℕ)
    → AtPlace backup (m, n) (replicate 512 0) k s x → x ≡ created_over g backup a.current k s
place_planned g law backup m n a most some k s x p = elim (cell_or_nobody g law backup m n) [
  | inl c ↦ p.content ∙ sym (cleared_cell g law backup a.current (g.owner (m, n)) k s
      (subst (λ j. CellOf g backup (g.owner (m, n)) j s) (sym p.member) (subst (CellOf g backup (g.owner (m, n)) m) (sym (p.offset most)) c)))
  | inr nobody ↦ absurd (some nobody)
]

pub place_cleared : {w : Crew} (g : Geometry) → Lawful g → (backup m n : ℕ) (a b d : Meaning) → n < MOST_DEPTH → (g.owner (m, n) ≢ Nobody)
    → ClearedBelow w g backup m n a b → May (AtPlace backup (m, n) (replicate 512 0)) b d → GoesOn w b d → PlaceHolds backup (m, n) (replicate 512 0) d
    → ClearedBelow w g backup m (n + 1) a d
place_cleared g law backup m n a b d most some so may goes holds =
    begun_more (OwnedBelow g backup m (n + 1)) d so (may_wider (place_planned g law backup m n a most some) may) goes
    (λ k s e. elim (owned_more g backup m n k s e) [
      | inl before ↦ inl before
      | inr at ↦ inr (λ there lt. subst (λ j. WrittenAt j s (replicate 512 0) d) (sym e.member) (subst (λ t. WrittenAt m t (replicate 512 0) d) (sym at) (holds most)) there lt
          ∙ sym (cleared_cell g law backup a.current e.owner k s e.cell))
    ])

-- all of a member was gone over
pub member_cleared : {w : Crew} (g : Geometry) → Lawful g → (backup m : ℕ) (a b : Meaning) → ClearedBelow w g backup m g.depth a b → (s : ℕ)
    → MadeAt (created_over g backup) a b m s
member_cleared g law backup m a b so s = elim (cleared_by g law backup a.current m s) [
  | inl c ↦ so.made m s (record { owner = c.0; cell = c.1; member = refl; below = (law.placing.inside c.0 c.1.is).offset })
  | inr left ↦ made_left (created_over g backup) so.may m s left
]

-- the members below n are cleared
abbrev pub MembersCleared : Crew → Geometry → (backup n : ℕ) → (a b : Meaning) → Type 0
MembersCleared w g backup n a b = Begun w (created_over g backup) (λ k s. k < n) a b

-- what clears a member later on clears it from the start
pub cleared_from : (g : Geometry) → Lawful g → (backup : ℕ) (a b : Meaning) → Torn (created_over g backup) a b → (k s : ℕ) (x : List ℕ)
    → x ≡ created_over g backup b.current k s → x ≡ created_over g backup a.current k s
cleared_from g law backup a b torn k s x e = e ∙ cleared_again g law backup a.current b.current k s (torn.current k s)

pub one_member_cleared : {w : Crew} (g : Geometry) → Lawful g → (backup n : ℕ) (a b d : Meaning) → MembersCleared w g backup n a b
    → Torn (created_over g backup) b d → GoesOn w b d → ((s : ℕ) → MadeAt (created_over g backup) b d n s) → MembersCleared w g backup (n + 1) a d
one_member_cleared g law backup n a b d so torn goes made =
    begun_more (λ k s. k < n + 1) d so (may_wider (cleared_from g law backup a b so.may) torn) goes
    (λ k s lt. elim (cases_eq k n) [
      | inl same ↦ inr (subst (λ j. MadeAt (created_over g backup) a d j s) (sym same) (λ there less. cleared_from g law backup a b so.may n s _ (made s there less)))
      | inr ne ↦ inl (omega (arith, lt, ne))
    ])

-- a layout has nothing on members beyond its own
pub members_cover : (g : Geometry) → Lawful g → (backup : ℕ) (a : Meaning) (k s : ℕ) → (k < g.members) ⊎ (created_over g backup a.current k s ≡ a.current k s)
members_cover g law backup a k s = elim (cleared_by g law backup a.current k s) [
  | inl c ↦ inl (let inside = (law.placing.inside c.0 c.1.is).member in let at = c.1.member in omega (arith, inside, at))
  | inr left ↦ inr left
]
