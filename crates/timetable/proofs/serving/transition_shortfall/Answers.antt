-- `transition_shortfall` walks the slots one by one; what it comes to fits. Assumes nothing.
use Rattle.std.proofs.Common.{length, refl, arith}
use Rattle.timetable.proofs.WalkLaws.{step_small, walk_next}
use Rattle.timetable.specs.Timetable.{transition_shortfall}
use Rattle.timetable.proofs.serving.transition_shortfall.Goals as goal

pub loop-owner-init : goal.loop-owner-init
unfolding transition_shortfall
loop-owner-init c = refl

pub over_slot-shortfall-requires : goal.over_slot-shortfall-requires
over_slot-shortfall-requires c =
    let a = c.args in
    let l = c.loop-owner in
    step_small a.owners.now a.id a.weight a.start l.owner-index (length a.owners.now) l.shortfall (omega (arith, c.loop-owner-test.true)) c.requires l.invariant

pub loop-owner-preserved : goal.loop-owner-preserved
loop-owner-preserved c =
    let a = c.args in
    let l = c.loop-owner in
    walk_next a.owners.now a.id a.weight a.start l.owner-index l.shortfall _ l.invariant c.over_slot-shortfall.ensures
