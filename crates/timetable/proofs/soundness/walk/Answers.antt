-- `walk` takes each slot off what its owner would be owed, which is there. Assumes nothing.
use Rattle.std.proofs.Common.{arith}
use Rattle.timetable.proofs.WalkLaws.{owed_after, owed_before, owed_next, rest_there}
use Rattle.timetable.proofs.soundness.walk.Goals as goal

pub loop-n-init : goal.loop-n-init
loop-n-init c = let a = c.args in owed_before a.owners.now a.weights.now a.owed.now c.told-owed c.requires

pub overflow_sub-due : goal.overflow_sub-due
overflow_sub-due c =
    let a = c.args in
    let l = c.loop-n in
    rest_there a.owners.now a.weights.now a.owed.now l.n c.loop-n-test.true l.owed l.invariant (c.requires.ids l.n c.loop-n-test.true)

pub loop-n-preserved : goal.loop-n-preserved
loop-n-preserved c =
    let a = c.args in
    let l = c.loop-n in
    owed_next a.owners.now a.weights.now a.owed.now l.n c.loop-n-test.true l.owed l.invariant (c.requires.ids l.n c.loop-n-test.true) c.after_own.result c.after_own.ensures

pub returns : goal.returns
returns c =
    let a = c.args in
    let l = c.loop-n in
    owed_after a.owners.now a.weights.now a.owed.now l.n l.owed (omega arith) (omega arith) l.invariant
