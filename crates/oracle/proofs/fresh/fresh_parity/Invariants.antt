use Rattle.std.proofs.Common.{◌≡◌, false, vec_items}
use Rattle.model.specs.Contents.{gathered, padded}
use Rattle.model.specs.Disks.{disk_of}
use Rattle.oracle.proofs.fresh.fresh_parity.Given as goal

abbrev pub invariant-loop-index : goal.invariant-loop-index
invariant-loop-index g l =
    let d = disk_of (vec_items l.disk.sectors) l.disk.phase l.disk.settled l.disk.kept l.disk.hand in
    l.parity ≡ gathered (λ b. false) (λ b. padded d.size d.content ((g.L.Layout.geometry l.layout).peer l.group b)) l.index
