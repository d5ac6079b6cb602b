use Rattle.std.proofs.Common.{◌∷◌, sym, subst, arith}
use Rattle.model.specs.Disks.{candidates}
use Rattle.oracle.specs.Showing.{CanCount, CanCountAll, SameDisks, each_shown, shown, shown_option}
use Rattle.oracle.proofs.Showing.{pushed_two, roomy_at, torn_more}
use Rattle.oracle.proofs.candidates.Candidates.tear.Goals as goal

pub loop-disk-preserved : goal.loop-disk-preserved
loop-disk-preserved c = λ room.
    (let items = c.deref-disk-items.result.now in
    let i = c.loop-disk.disk-index in
    let has : CanCountAll (each_shown items) = subst (λ l. CanCountAll (each_shown l)) (sym c.deref-disk-items.ensures.value) room.1 in
    torn_more (candidates c.args.request.now) (shown c.args.self.now.first) items i c.disk-item.result
    (shown c.in_ok-first.first ∷ each_shown c.loop-disk.further.items) (shown c.in_ok-before.before ∷ shown_option c.in_ok-before.after) _ (omega arith)
    (c.loop-disk.invariant room) (subst (λ x. SameDisks (candidates c.args.request.now (shown x)) (shown c.in_ok-before.before ∷ shown_option c.in_ok-before.after)) c.disk-item.is
    (c.in_ok-before.ensures (subst (λ x. CanCount (shown x)) (sym c.disk-item.is) (roomy_at items i c.disk-item.result has (omega arith)))))
    (pushed_two (shown c.in_ok-first.first) c.loop-disk.further.items _ _ c.in_ok-before.before (shown_option c.in_ok-before.after) c.in_ok-push-2.ensures.items c.in_ok-push-3.ensures))
