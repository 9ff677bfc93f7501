-- `take_last` meets its contract: an offset that is found is up to the last offset, and its slots are marked. Assumes nothing.
use mathlib.Core.Path.{◌≡◌}
use native.Mathlib.Omega.{arith}
use Rattle.timetable.proofs.Ranges.{period_from, period_le}
use Rattle.placement.proofs.taken.Taken.take_last.Goals as goal

pub last_free-requires : goal.last_free-requires
last_free-requires c = omega (arith, c.requires.1, period_le _ (period_from _ c.requires.0))

pub returns-clause-by_index : goal.returns-clause-by_index
returns-clause-by_index c = λ o k. let z : c.in_ok-offset.offset ≡ o = cc in rw z at c.mark.ensures
