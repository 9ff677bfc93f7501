-- `over_all` meets its contract. The loop's invariant: the shortfalls below the index have risen by their weights, and the others are as they were. Assumes nothing.
use mathlib.Core.Path.{◌≡◌}
use Rattle.timetable.specs.Timetable.{each}
use Rattle.transition.proofs.StepLaws.{risen}
use Rattle.transition.proofs.Plan.over_all.Given as goal

abbrev pub invariant-loop-e : goal.invariant-loop-e
invariant-loop-e l = l.e-items ≡ each risen l.e-index l.initial.e-items
