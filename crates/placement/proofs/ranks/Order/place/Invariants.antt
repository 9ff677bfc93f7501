-- `place` meets its contract. The loop's invariant: the first i of the demands have their places, which the table and the offsets show, and
-- the placement goes on from there with the rest. Assumes nothing.
use Rattle.placement.proofs.Placing.{Turn}
use Rattle.placement.proofs.ranks.Order.place.Given as goal

abbrev pub invariant-loop-rank : goal.invariant-loop-rank
invariant-loop-rank l = Turn l.self.ranks l.self.count l.taken.bits l.offsets l.rank-index
