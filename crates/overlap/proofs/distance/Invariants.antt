use Rattle.std.proofs.Common.{◌≡◌}
use Rattle.overlap.specs.Homes.{window_of}
use Rattle.overlap.specs.Needs.{most, need_of, reach_of}
use Rattle.overlap.proofs.distance.Given as goal

abbrev pub invariant-loop-row : goal.invariant-loop-row
invariant-loop-row g l =
    (l.reach ≡ most (need_of (g.Old.Layout.geometry l.source) (g.New.Layout.geometry l.target) l.size) l.row)
    × (l.most ≡ most (λ r. window_of (g.Old.Layout.geometry l.source).row_len (g.New.Layout.geometry l.target).row_len r l.size (reach_of (g.Old.Layout.geometry l.source) (g.New.Layout.geometry l.target) l.size r)) l.row)
