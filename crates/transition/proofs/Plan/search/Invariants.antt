-- `search` meets its contract. The loop's invariant: n lengths were passed over and counted, the plan is the one that length n reaches, the order lists
-- the ids, and the definition's search goes on from there. Each way to leave gives the definition's answer. Assumes nothing.
use Prim.Native.Nat.{◌-◌}
use Rattle.transition.proofs.SearchLaws.{Stands}
use Rattle.transition.proofs.Plan.search.Given as goal

abbrev pub invariant-loop-order : goal.invariant-loop-order
invariant-loop-order l = Stands l.initial.self l.limit l.self l.order.ranks l.order.count l.n l.tries

abbrev pub decreases-loop-order : goal.decreases-loop-order
decreases-loop-order l = l.limit - l.n
