-- The loop's invariant of `transition_shortfall` is that the shortfall is the one after the slots so far. Assumes nothing.
use Rattle.std.proofs.Common.{◌≡◌}
use Rattle.timetable.specs.Timetable.{transition_shortfall}
use Rattle.timetable.proofs.serving.transition_shortfall.Given as goal

abbrev pub invariant-loop-owner : goal.invariant-loop-owner
invariant-loop-owner l = l.shortfall ≡ transition_shortfall l.owners l.id l.weight l.start l.owner-index
