-- `overfull` meets its contract: the loop's invariant is that `sum` is the running sum below `id`, and no sum so far passes 256. Assumes nothing.
use mathlib.Core.Path.{refl, sym, ap, ◌∙◌}
use native.Mathlib.Omega.{arith}
use Rattle.change.proofs.StageSteps.{over_here, over_next, over_end, weight_told}
use Rattle.change.specs.Stages.{weight_sum}
use Rattle.numbers.specs.Chain.{Refused}
use Rattle.slots.specs.Below.{first}
use Rattle.change.proofs.before.overfull.Goals as goal

pub loop-id-init : goal.loop-id-init
unfolding first weight_sum
loop-id-init c = record { within = omega arith; summed = refl; none_over = refl }

pub overflow_add-sum : goal.overflow_add-sum
overflow_add-sum c = omega (arith, weight_told _ _ c.weight_of-sum.ensures)

pub returns-then-sum-gt-WHOLE : goal.returns-then-sum-gt-WHOLE
returns-then-sum-gt-WHOLE c =
    let k = c.loop-id.invariant in
    sym (ap Refused c.of.ensures ∙ over_here _ c.loop-id.id k.none_over _ _ k.summed c.weight_of-sum.ensures c.loop-id-test.true c.if-sum-gt-WHOLE.true)

pub loop-id-preserved : goal.loop-id-preserved
loop-id-preserved c =
    let k = c.loop-id.invariant in
    let n = over_next _ c.loop-id.id k.none_over _ _ k.summed c.weight_of-sum.ensures c.if-sum-gt-WHOLE.false in
    record { within = c.if-sum-gt-WHOLE.false; summed = n.0; none_over = n.1 }

pub returns : goal.returns
returns c = sym (over_end _ c.loop-id.id c.loop-id.invariant.none_over c.loop-id-test.false c.loop-id.auto.id-end)
