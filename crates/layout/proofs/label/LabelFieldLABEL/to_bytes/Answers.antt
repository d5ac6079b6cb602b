use Rattle.std.proofs.Common.{refl, sym, ap, ◌∙◌}
use Rattle.sector.specs.Bytes.{le, from_le}
use Rattle.layout.specs.Bytes.{label_bytes, label_from}
use Rattle.layout.proofs.Labels.{of_label}
use Rattle.layout.proofs.label.LabelFieldLABEL.to_bytes.Goals as goal

pub returns-clause-bytes : goal.returns-clause-bytes
unfolding le
returns-clause-bytes c =
    let chunk = c.copy_from_slice-2.ensures.after ∙ c.to_bytes.ensures.bytes in
    let depth = c.copy_from_slice-3.ensures.after ∙ c.to_bytes-2.ensures.bytes in
    rw (c.copy_from_slice.ensures.after, chunk, depth) (refl {a = label_bytes c.args.self.now})

pub returns-clause-back : goal.returns-clause-back
returns-clause-back c =
    ap label_from (returns-clause-bytes c)
    ∙ of_label c.args.self.now (ap from_le (sym c.to_bytes.ensures.bytes) ∙ c.to_bytes.ensures.back)
    (ap from_le (sym c.to_bytes-2.ensures.bytes) ∙ c.to_bytes-2.ensures.back)
