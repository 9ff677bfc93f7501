-- The loop's invariant of `owners_listed` is that each owner so far is an id with a weight. Assumes nothing.
use Rattle.std.proofs.Common.{◌≡◌, true}
use Rattle.slots.specs.Below.{every}
use Rattle.timetable.specs.Walk.{weighs}
use Rattle.timetable.proofs.soundness.owners_listed.Given as goal

abbrev pub invariant-loop-owner : goal.invariant-loop-owner
invariant-loop-owner l = every l.owner-index (weighs l.owners l.weights) ≡ true
