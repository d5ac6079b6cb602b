use Rattle.std.proofs.Common.{◌≡◌, drop}
use Rattle.shelf.specs.Trials.{means}
use Rattle.drill.specs.Schedules.{losing_at}
use Rattle.drill.proofs.schedule.lose_due.Given as goal

-- what is left of the list adds the losses that are left
abbrev pub invariant-loop-incident : goal.invariant-loop-incident
invariant-loop-incident l = (means l.shelf ≡ means l.initial.shelf)
    × (losing_at l.initial.shelf.members (drop l.incident-index l.incidents) l.clock l.shelf.controls.losing ≡ losing_at l.initial.shelf.members l.incidents l.clock l.initial.shelf.controls.losing)
