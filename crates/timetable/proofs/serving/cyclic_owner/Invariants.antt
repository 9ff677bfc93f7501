-- The loop's invariant of `cyclic_owner` is that no id below `id` has the slot. Assumes nothing.
use Rattle.std.proofs.Common.{◌≡◌}
use Rattle.std.proofs.Math.Option.{none}
use Rattle.slots.specs.Below.{first}
use Rattle.timetable.proofs.OwnerLaws.{owns}
use Rattle.timetable.proofs.serving.cyclic_owner.Given as goal

abbrev pub invariant-loop-id : goal.invariant-loop-id
invariant-loop-id l = first l.id (owns l.entries l.n) ≡ none
