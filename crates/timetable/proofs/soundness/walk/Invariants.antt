-- The loop's invariant of `walk` is what each id would be owed at the base after `n` transition slots, without those left. Assumes nothing.
use Rattle.timetable.proofs.WalkLaws.{Owed}
use Rattle.timetable.proofs.soundness.walk.Given as goal

abbrev pub invariant-loop-n : goal.invariant-loop-n
invariant-loop-n l = Owed l.owners l.weights l.initial.owed l.n l.owed
