-- `slots_in_word` meets its contract. The loop's invariant: the bits are those of the offset's slots as far as they reach. Assumes nothing.
use Rattle.timetable.proofs.TakenLaws.{reaches_first, reaches_twice, reaches_all}
use Rattle.timetable.proofs.soundness.slots_in_word.Goals as goal

pub loop-reach-init : goal.loop-reach-init
loop-reach-init c = reaches_first c.args.period c.args.offset c.requires

pub loop-reach-preserved : goal.loop-reach-preserved
loop-reach-preserved c =
    let l = c.loop-reach in
    reaches_twice c.args.period c.args.offset c.requires l.slots l.reach l.invariant

pub returns : goal.returns
returns c =
    let l = c.loop-reach in
    reaches_all c.args.period c.args.offset c.requires l.slots l.reach c.loop-reach-test.false l.invariant
