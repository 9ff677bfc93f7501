-- `mark` meets its contract. The loop's invariant: the slots of the offset in the words below the word are taken, and no others besides. Assumes nothing.
use native.Mathlib.Omega.{arith}
use Rattle.placement.proofs.Table.{marked_all}
use Rattle.timetable.proofs.Marks.{marked_more}
use Rattle.timetable.proofs.Ranges.{Period, period_from, period_le}
use Rattle.timetable.specs.Marks.{with_bits}
use Rattle.placement.proofs.taken.Taken.mark.Goals as goal

pub overflow_add-stride : goal.overflow_add-stride
overflow_add-stride c =
    let range : Period c.args.period =
    period_from c.args.period c.requires.0 in
    record { fits = omega (arith, period_le _ range) }

pub loop-word-preserved : goal.loop-word-preserved
unfolding with_bits
loop-word-preserved c =
    let range : Period c.args.period =
    period_from c.args.period c.requires.0 in
    let l = c.loop-word in
    let w = c.slots_in_word-slots in
    marked_more c.args.self.now.bits c.args.period c.args.offset range c.requires.1 w.result w.ensures l.self.bits l.word (omega (arith, c.loop-word-test.true)) l.invariant

pub returns : goal.returns
returns c =
    let l = c.loop-word in
    marked_all c.args.self.now.bits c.args.period c.args.offset l.self.bits l.word (omega (arith, c.loop-word-test.false)) l.invariant
