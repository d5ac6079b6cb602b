-- Places that differ from a fresh placement.
use Rattle.std.proofs.Common.{◌≡◌, ℕ, zero, suc, ◌+◌, ◌≤◌, true, false, map, sym, refl, ap, ◌∙◌, arith}
use Rattle.std.specs.List.{range_with_len, sum}
use Rattle.std.proofs.lemmas.Bool.{both_ways}
use Rattle.layout.specs.Geometry.{Geometry}
use Rattle.layout.specs.Lawful.{Lawful, Owns}
use Rattle.layout.specs.declared.place.Owner.{Owner}
use Rattle.layout.specs.declared.place.Owner.TheVariants.{Datum, Parity, Nobody}
use Rattle.shelf.specs.Meaning.{Meaning}
use Rattle.model.specs.Crew.{count}
use Rattle.model.specs.Disks.{Disk}
use Rattle.model.specs.Images.{is_used}
use Rattle.model.specs.Strays.{is_misplaced, misplaced_below}
use Rattle.oracle.proofs.Firsts.{sum_next}
use Rattle.oracle.proofs.Looking.{datum_deep, parity_deep}
use Rattle.layout.specs.declared.TheConstants.{MOST_DEPTH}

-- a used place is not deep
pub used_shallow : (g : Geometry) (p : ℕ × ℕ) → Lawful g → is_used (g.owner p) ≡ true → p.1 ≤ MOST_DEPTH
used_shallow g p law used = of (g.owner p) (law.placing.owned p) used
  where
    of : (o : Owner) → Owns g p o → is_used o ≡ true → p.1 ≤ MOST_DEPTH
    of (Datum i j) own u = datum_deep g i j p law own.0.0 own.0.1 (sym own.1)
    of (Parity x) own u = parity_deep g x p law own.0 (sym own.1)
    of Nobody own u = absurd (both_ways false refl u)

-- the members' counts together
pub misplaced_is : (g : Geometry) (a : Meaning) (backup : ℕ) (d : Disk) (n : ℕ)
    → sum (map (λ k. count (is_misplaced g a backup d k) g.depth) (range_with_len 0 n)) ≡ misplaced_below g a backup d n
misplaced_is g a backup d zero = refl
misplaced_is g a backup d (suc n) =
    let more : suc n ≡ n + 1 = omega arith in
    ap (λ k. sum (map (λ m. count (is_misplaced g a backup d m) g.depth) (range_with_len 0 k))) more
    ∙ (sum_next (λ k. count (is_misplaced g a backup d k) g.depth) n ∙ ap (λ k. k + count (is_misplaced g a backup d n) g.depth) (misplaced_is g a backup d n))
