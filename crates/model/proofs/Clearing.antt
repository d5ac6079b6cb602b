-- What clearing makes of the places of a layout.
use Rattle.std.proofs.Common.{◌≡◌, ℕ, ◌⊎◌, replicate, refl, sym, ◌∙◌, inl, inr}
use Rattle.sector.specs.declared.TheConstants.{SECTOR}
use Rattle.layout.specs.Geometry.{Geometry}
use Rattle.layout.specs.Lawful.{Lawful}
use Rattle.layout.specs.declared.place.Owner.{Owner}
use Rattle.layout.specs.declared.place.Owner.TheVariants.{Datum, Nobody, Parity}
use Rattle.model.specs.Images.{Image, cleared, created_over}
use Rattle.model.specs.Steps.{Step}
use Rattle.model.proofs.Carrying.{CellOf, placed_at, placed_by}

-- zeros at the cell of each owner
pub cleared_cell : (g : Geometry) → Lawful g → (backup : ℕ) (f : Image) (o : Owner) (k s : ℕ) → CellOf g backup o k s
    → created_over g backup f k s ≡ replicate SECTOR 0
cleared_cell g law backup f (Datum i j) k s c = placed_at g law backup cleared f (Datum i j) k s c
cleared_cell g law backup f (Parity x) k s c = placed_at g law backup cleared f (Parity x) k s c
cleared_cell g law backup f Nobody k s c = absurd c.is

-- and any other cell stays
pub cleared_by : (g : Geometry) → Lawful g → (backup : ℕ) (f : Image) (k s : ℕ)
    → ((o : Owner) × CellOf g backup o k s) ⊎ (created_over g backup f k s ≡ f k s)
cleared_by g law backup f k s = placed_by g law backup cleared f (λ x. refl) k s

-- A step that hangs, at each cell, on what lay there alone, and that does no more when it is done again.
abbrev pub Again : Step → Type 0
Again f = (x y : Image) (k s : ℕ) → (y k s ≡ x k s) ⊎ (y k s ≡ f x k s) → f y k s ≡ f x k s

pub cleared_again : (g : Geometry) → Lawful g → (backup : ℕ) → Again (created_over g backup)
cleared_again g law backup x y k s e =
    let both : (o : Owner) × CellOf g backup o k s → created_over g backup y k s ≡ created_over g backup x k s =
    λ c. cleared_cell g law backup y c.0 k s c.1 ∙ sym (cleared_cell g law backup x c.0 k s c.1) in
    elim (cleared_by g law backup x k s) [
      | inl c ↦ both c
      | inr left ↦ elim (cleared_by g law backup y k s) [
        | inl c ↦ both c
        | inr stays ↦ stays ∙ elim e [ inl same ↦ same ∙ sym left | inr made ↦ made ]
      ]
    ]
