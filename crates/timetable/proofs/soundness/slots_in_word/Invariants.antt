-- `slots_in_word` meets its contract. The loop's invariant: the bits are those of the offset's slots as far as they reach. Assumes nothing.
use Prim.Native.Nat.{◌-◌}
use Rattle.timetable.proofs.TakenLaws.{Reaches}
use Rattle.timetable.specs.Marks.{WORD}
use Rattle.timetable.proofs.soundness.slots_in_word.Given as goal

abbrev pub invariant-loop-reach : goal.invariant-loop-reach
invariant-loop-reach l = Reaches l.period l.offset l.slots l.reach

abbrev pub decreases-loop-reach : goal.decreases-loop-reach
decreases-loop-reach l = WORD - l.reach
