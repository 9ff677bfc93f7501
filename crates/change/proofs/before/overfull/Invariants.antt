-- `overfull` meets its contract: the loop's invariant is that `sum` is the running sum below `id`, and no sum so far passes 256. Assumes nothing.
use mathlib.Core.Option.{none}
use mathlib.Core.Path.{◌≡◌}
use Prim.Native.Nat.{◌≤◌}
use Rattle.change.proofs.StageSteps.{over_test}
use Rattle.change.specs.Stages.{weight_sum}
use Rattle.slots.specs.Below.{first}
use Rattle.slots.specs.Limits.{WHOLE}
use Rattle.change.proofs.before.overfull.Given as goal

abbrev pub invariant-loop-id : goal.invariant-loop-id
invariant-loop-id l =
    record { within : l.sum ≤ WHOLE; summed : l.sum ≡ weight_sum l.entries l.id; none_over : first l.id (over_test l.entries) ≡ none }
