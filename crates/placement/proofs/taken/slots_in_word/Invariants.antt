-- `slots_in_word` meets its contract. The loop's invariant: the bits are those of the slots that stand as far apart, from the offset on. Assumes nothing.
use Rattle.placement.proofs.Table.{Halved}
use Rattle.placement.proofs.taken.slots_in_word.Given as goal

abbrev pub invariant-loop-apart : goal.invariant-loop-apart
invariant-loop-apart l = Halved l.period l.offset l.slots l.apart

abbrev pub decreases-loop-apart : goal.decreases-loop-apart
decreases-loop-apart l = l.apart
