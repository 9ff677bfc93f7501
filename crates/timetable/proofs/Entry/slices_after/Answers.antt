-- `slices_after` follows the closed form: no slice up to the first own slot, then one for it and one for each whole period since. Assumes nothing.
use mathlib.Core.Path.{sym, ap}
use native.Mathlib.Omega.{arith}
use Rattle.slots.specs.Clocks.{slice_count}
use Rattle.timetable.proofs.Cycle.{slices_before, slices_after_lem}
use Rattle.timetable.proofs.Ranges.{in_range_from}
use Rattle.timetable.proofs.Entry.slices_after.Goals as goal

pub returns-then-n-offset : goal.returns-then-n-offset
returns-then-n-offset c =
    let a = c.args in
    ap slice_count (sym (slices_before a.self (in_range_from a.self c.requires).inside a.n c.if-n-offset.true))

pub nonzero_div-result : goal.nonzero_div-result
nonzero_div-result c = omega (arith, (in_range_from c.args.self c.requires).inside)

pub returns : goal.returns
returns c =
    let a = c.args in
    ap slice_count (sym (slices_after_lem a.self (in_range_from a.self c.requires).inside a.n c.if-n-offset.false))
