-- `slots_in_word` meets its contract. The loop's invariant: the bits are those of the slots that stand as far apart, from the offset on. Assumes nothing.
use lib.Pow.{pow_mono}
use native.Mathlib.Omega.{arith}
use Rattle.placement.proofs.Table.{halved_none, halved_more, halved_all}
use Rattle.timetable.proofs.Ranges.{Period, period_from}
use Rattle.placement.proofs.taken.slots_in_word.Goals as goal

pub loop-apart-init : goal.loop-apart-init
loop-apart-init c =
    let range : Period c.args.period =
    period_from c.args.period c.requires.0 in
    halved_none c.args.period c.args.offset range c.requires.1

pub overflow_shl-slots-in-loop-apart : goal.overflow_shl-slots-in-loop-apart
overflow_shl-slots-in-loop-apart c = let h = c.loop-apart.invariant in omega (arith, h.far, pow_mono h.small)

pub loop-apart-preserved : goal.loop-apart-preserved
loop-apart-preserved c =
    let range : Period c.args.period =
    period_from c.args.period c.requires.0 in
    let l = c.loop-apart in
    halved_more c.args.period c.args.offset range c.requires.1 l.slots l.apart c.loop-apart-test.true l.invariant

pub returns : goal.returns
returns c =
    let range : Period c.args.period =
    period_from c.args.period c.requires.0 in
    let l = c.loop-apart in
    halved_all c.args.period c.args.offset range c.requires.1 l.slots l.apart c.loop-apart-test.false l.invariant
