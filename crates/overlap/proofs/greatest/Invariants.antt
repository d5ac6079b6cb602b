use Rattle.std.proofs.Common.{◌≡◌, ℕ, ◌+◌, ◌-◌, ◌<◌, ◌≤◌}
use Rattle.overlap.specs.Needs.{most}
use Rattle.overlap.proofs.greatest.Given as goal

abbrev pub invariant-loop-number : goal.invariant-loop-number
invariant-loop-number g l =
    (l.number - l.fn.range.start ≤ l.fn.range.end - l.fn.range.start)
    × ((h : ℕ → ℕ) → ((i y : ℕ) → i < l.fn.range.end - l.fn.range.start → goal.F-post g l.fn.ask (l.fn.range.start + i) y → y ≡ h i) → l.most ≡ most h (l.number - l.fn.range.start))
