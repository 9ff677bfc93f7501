-- The loop's invariant of `enter_all` is that the ids below `id` have entered, and the others are as they were. Assumes nothing.
use Rattle.std.proofs.Common.{◌≡◌}
use Rattle.change.specs.Entered.{entered}
use Rattle.timetable.specs.Timetable.{each}
use Rattle.change.proofs.before.enter_all.Given as goal

abbrev pub invariant-loop-id : goal.invariant-loop-id
invariant-loop-id l = l.entries ≡ each (entered l.elapsed l.asks) l.id l.initial.entries
