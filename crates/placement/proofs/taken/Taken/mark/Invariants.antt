-- `mark` meets its contract. The loop's invariant: the slots of the offset in the words below the word are taken, and no others besides. Assumes nothing.
use Prim.Native.Nat.{◌-◌}
use Rattle.timetable.proofs.Marks.{Marked}
use Rattle.timetable.specs.Marks.{WORDS}
use Rattle.placement.proofs.taken.Taken.mark.Given as goal

abbrev pub invariant-loop-word : goal.invariant-loop-word
invariant-loop-word l = Marked l.initial.self.bits l.period l.offset l.self.bits l.word

abbrev pub decreases-loop-word : goal.decreases-loop-word
decreases-loop-word l = WORDS - l.word
