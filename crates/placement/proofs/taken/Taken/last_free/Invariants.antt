-- `last_free` meets its contract. The loop's invariant: the search has come down to the slots that are left. Assumes nothing.
use Prim.Native.Nat.{◌+◌, ◌≤◌}
use Rattle.placement.proofs.Table.{Passed}
use Rattle.placement.proofs.taken.Taken.last_free.Given as goal

abbrev pub invariant-loop-left : goal.invariant-loop-left
invariant-loop-left l = (l.left ≤ l.last + 1) × Passed l.self.bits l.last l.left

abbrev pub decreases-loop-left : goal.decreases-loop-left
decreases-loop-left l = l.left
