-- The logged sector of a head, which an unarmed one has not.
use Rattle.std.proofs.Common.{◌≡◌, ℕ, false, List, Option, None, Some, IfSome, is_some, refl, sym}
use Rattle.std.specs.List.{between}
use Rattle.head.specs.Fields.{NumberAt, clear}
use Rattle.sector.specs.Bytes.{le, from_le}
use Rattle.head.specs.Heads.{logged_number}

pub bare : (bs : List ℕ) → between 80 88 bs ≡ clear 8 → NumberAt 80 0 bs
unfolding clear le from_le
bare bs e = (sym e, refl)

pub armed_is : (bs : List ℕ) (o : Option ℕ) (P : ℕ → Type 0) → (is_some o ≡ false → between 80 88 bs ≡ clear 8) → IfSome o P → ((x : ℕ) → P x → NumberAt 80 x bs) → NumberAt 80 (logged_number o) bs
armed_is bs None P none some from = bare bs (none refl)
armed_is bs (Some x) P none some from = from x some
