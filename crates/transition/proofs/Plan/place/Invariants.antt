-- `place` meets its contract. The loop's invariant: the ids below id have their offsets, and the others are as they were. Assumes nothing.
use mathlib.Core.Path.{◌≡◌}
use Rattle.timetable.specs.Timetable.{each}
use Rattle.transition.proofs.SearchLaws.{put_in}
use Rattle.transition.proofs.Plan.place.Given as goal

abbrev pub invariant-loop-id : goal.invariant-loop-id
invariant-loop-id l = l.e-items ≡ each (put_in l.offsets) l.id l.initial.e-items
