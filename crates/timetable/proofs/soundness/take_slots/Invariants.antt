-- The loop's invariant of `take_slots` is that the entry's slots in the words below the word were free and are taken. Assumes nothing.
use Rattle.std.proofs.Common.{◌-◌}
use Rattle.timetable.proofs.TakenLaws.{Taking}
use Rattle.timetable.specs.Marks.{WORDS}
use Rattle.timetable.proofs.soundness.take_slots.Given as goal

abbrev pub invariant-loop-word : goal.invariant-loop-word
invariant-loop-word l = Taking l.initial.taken l.period l.offset l.taken l.word

abbrev pub decreases-loop-word : goal.decreases-loop-word
decreases-loop-word l = WORDS - l.word
