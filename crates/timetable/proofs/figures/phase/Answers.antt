-- `phase` keeps the lowest bits: a period is 2^k, and the mask is 2^k - 1. Assumes nothing.
use native.Mathlib.Omega.{arith}
use Rattle.timetable.proofs.EntryLaws.{phase_is}
use Rattle.timetable.proofs.Ranges.{period_from, period_pos}
use Rattle.timetable.proofs.figures.phase.Goals as goal

pub overflow_sub-result : goal.overflow_sub-result
overflow_sub-result c = omega (arith, period_pos c.args.period (period_from c.args.period c.requires))

pub returns : goal.returns
returns c = phase_is c.args.n c.args.period (period_from c.args.period c.requires)
