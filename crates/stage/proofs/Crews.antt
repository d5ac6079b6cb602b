-- Absent members, counted.
use Rattle.std.proofs.Common.{◌≡◌, ℕ, zero, suc, ◌+◌, Bool, true, false, not, cond, refl, sym, ap, ◌∙◌, add-one, map-id, arith}
use Rattle.std.specs.List.{fold, range_with_len}
use Rattle.std.specs.Iterator.Runs.{Run, YieldsRun}
use Rattle.std.proofs.iter.Yields.{nat_range_steps}
use Rattle.std.proofs.lemmas.Iterator.{YieldsList-from_range, items_from_drains}
use Rattle.model.specs.Crew.{count}

-- the members that a whole run goes over
pub ranged : (q : Run nat_range_steps) (n : ℕ) → q.whole ≡ true → q.from ≡ record { start = 0; end = n } → q.items ≡ range_with_len 0 n
unfolding YieldsRun
ranged q n w e = sym (map-id q.items) ∙ items_from_drains q.items (q.gave.0.0, q.gave.0.1, λ _. q.gave.0.2 w) (YieldsList-from_range 0 n n e (omega arith))

-- those of them of which f holds, one after another
count_from : (f : ℕ → Bool) (b n : ℕ) → fold (λ a k. a + cond (f k) 1 0) (count f b) (range_with_len b n) ≡ count f (b + n)
count_from f b zero = ap (count f) (omega arith)
count_from f b (suc n) = ap (λ t. fold (λ a k. a + cond (f k) 1 0) t (range_with_len (b + 1) n)) (sym (ap (count f) (add-one b)))
    ∙ (count_from f (b + 1) n ∙ ap (count f) (omega arith))

pub all_counted : (f : ℕ → Bool) (n : ℕ) → fold (λ a k. a + cond (f k) 1 0) 0 (range_with_len 0 n) ≡ count f n
all_counted f n = count_from f 0 n ∙ ap (count f) (omega arith)

-- one member, by the test whether it is not there
pub one_absent : (there gone : Bool) (n : ℕ) → gone ≡ not there → n + cond (not there) 1 0 ≡ n + cond gone 1 0
one_absent true gone n e = rw e refl
one_absent false gone n e = rw e refl
