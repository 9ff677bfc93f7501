-- The loop's invariant of `are_shortfalls` is that no bit differs so far exactly if each id below `id` is owed its shortfall. Assumes nothing.
use Rattle.std.proofs.Common.{◌≡◌, eqb}
use Rattle.slots.specs.Below.{every}
use Rattle.timetable.proofs.FitLaws.{arrived}
use Rattle.timetable.proofs.soundness.are_shortfalls.Given as goal

abbrev pub invariant-loop-id : goal.invariant-loop-id
invariant-loop-id l = eqb l.differ 0 ≡ every l.id (arrived l.owed l.entries)
