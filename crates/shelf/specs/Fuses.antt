-- The controls of a trial shelf over many operations.
use Rattle.std.specs.Prelude.{◌≡◌, ℕ, ◌-◌, ◌<◌, ◌≤◌, true, false, List, [], ◌∷◌, length, slice_index_or}
use Rattle.shelf.specs.Trials.{struck}
use Rattle.shelf.specs.declared.controls.Controls.{Controls}
use Rattle.shelf.specs.declared.controls.TheConstants.{NEVER}

-- the controls after operations on these members, one after another
abbrev pub struck_by : Controls → List ℕ → Controls
struck_by c [] = c
struck_by c (m ∷ ms) = struck_by (struck c m) ms

-- With fuse k, k operations pass and the next one is cut; a fuse that never goes stays; off, nothing counts; and a loss shows at the member's next operation.
pub record ControlsStand : Type 0 where
  pub passes : (c : Controls) (ms : List ℕ) → c.on ≡ true → c.fuse < NEVER → length ms ≤ c.fuse
      → ((struck_by c ms).on ≡ true) × ((struck_by c ms).fuse ≡ c.fuse - length ms)
  pub cut : (c : Controls) (ms : List ℕ) (m : ℕ) → c.on ≡ true → c.fuse < NEVER → length ms ≡ c.fuse → (struck (struck_by c ms) m).on ≡ false
  pub never : (c : Controls) (ms : List ℕ) → c.on ≡ true → c.fuse ≡ NEVER → ((struck_by c ms).on ≡ true) × ((struck_by c ms).fuse ≡ NEVER)
  pub off : (c : Controls) (ms : List ℕ) → c.on ≡ false → struck_by c ms ≡ c
  pub lost : (c : Controls) (m : ℕ) → c.on ≡ true → slice_index_or c.losing m false ≡ true → slice_index_or (struck c m).present m false ≡ false
  pub unlost : (c : Controls) (m : ℕ) → slice_index_or c.losing m false ≡ false → (struck c m).present ≡ c.present
