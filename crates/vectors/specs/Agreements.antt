-- When a recording agrees with a layout.
use Rattle.std.specs.Prelude.{Bool, ◌&&◌, ◌==◌}
use Rattle.vectors.specs.declared.Comparison.{Comparison}

-- nothing lies elsewhere, is there twice or is missing, and the capacity is the same
abbrev pub agreed : Comparison → Bool
agreed c = (c.differing == 0 && c.doubled == 0) && (c.missing == 0 && c.same_capacity)
