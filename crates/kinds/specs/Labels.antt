-- The label of a layout of kind k: f copies on n members, with h chunks of c sectors on each.
use Rattle.std.specs.Prelude.{ℕ, ◌*◌}
use Rattle.layout.specs.Labels.{stock_label}
use Rattle.layout.specs.declared.kind.Kind.{Kind}
use Rattle.layout.specs.declared.label.Label.{Label}

abbrev pub labelled : Kind → ℕ → ℕ → ℕ → ℕ → Label
labelled k f n c h = stock_label k n f c (c * h)
