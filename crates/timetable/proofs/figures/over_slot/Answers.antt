-- `over_slot` adds the weight, and an own slot then pays. Assumes nothing.
use mathlib.Core.Path.{sym}
use Rattle.timetable.proofs.EntryLaws.{over_own, over_other}
use Rattle.timetable.proofs.figures.over_slot.Goals as goal

pub returns-then-own : goal.returns-then-own
returns-then-own c =
    let a = c.args in
    sym (over_own a.own a.weight a.shortfall c.after_own.result c.if-own.true c.after_own.ensures)

pub returns : goal.returns
returns c = let a = c.args in over_other a.own a.weight a.shortfall c.if-own.false
