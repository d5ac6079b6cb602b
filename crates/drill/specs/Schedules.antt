-- What a schedule has in store for each operation.
use Rattle.std.specs.Prelude.{ℕ, ◌-◌, min, Bool, true, false, cond, List, [], ◌∷◌, Option, Some, None, length, ◌==◌, nat_lt, slice_index, slice_set}
use Rattle.drill.specs.declared.schedule.Incident.{Incident}
use Rattle.drill.specs.declared.schedule.Kind.{Kind}
use Rattle.drill.specs.declared.schedule.Kind.TheVariants.{CutBefore, CutAfter, Lose}
use Rattle.drill.specs.declared.schedule.Power.{Power}
use Rattle.drill.specs.declared.schedule.Power.TheVariants.{Stays, GoesBefore, GoesAfter}

-- an incident decides on the power, unless it is a loss
abbrev pub decides : Kind → Power → Power
decides CutBefore later = GoesBefore
decides CutAfter later = GoesAfter
decides (Lose m) later = later

-- what becomes of the power at operation n: the first cut that is due decides
abbrev pub power_due : List Incident → ℕ → Power
power_due [] n = Stays
power_due (i ∷ is) n = cond (i.at == n) (decides i.kind (power_due is n)) (power_due is n)

-- what one incident makes of it at operation n, if it is a cut that is due then
abbrev pub cut_of : Kind → Option Power
cut_of CutBefore = Some GoesBefore
cut_of CutAfter = Some GoesAfter
cut_of (Lose m) = None

abbrev pub cut_by : Incident → ℕ → Option Power
cut_by i n = cond (i.at == n) (cut_of i.kind) None

-- whether it goes before the operation has any effect
abbrev pub goes_before : Power → Bool
goes_before Stays = false
goes_before GoesBefore = true
goes_before GoesAfter = false

-- whether it goes at all
abbrev pub goes : Power → Bool
goes Stays = false
goes GoesBefore = true
goes GoesAfter = true

-- the choice word of restart n: after the list's end its last one, and 0 where it is empty
abbrev pub word_at : List ℕ → ℕ → ℕ
word_at words n = slice_index words (min n (length words - 1))

-- the losses of m members that are pending, with one more
abbrev pub losing_with : ℕ → Kind → List Bool → List Bool
losing_with m CutBefore losing = losing
losing_with m CutAfter losing = losing
losing_with m (Lose k) losing = cond (nat_lt k m) (slice_set losing k true) losing

-- where it is due at operation n
abbrev pub losing_by : ℕ → Incident → ℕ → List Bool → List Bool
losing_by m i n losing = cond (i.at == n) (losing_with m i.kind losing) losing

-- with those of the whole schedule
abbrev pub losing_at : ℕ → List Incident → ℕ → List Bool → List Bool
losing_at m [] n losing = losing
losing_at m (i ∷ is) n losing = losing_at m is n (losing_by m i n losing)
