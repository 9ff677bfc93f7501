-- `room` multiplies by the period and divides by 256; an entry in range has a shortfall below 256 R, so nothing is cut off at 0. Assumes nothing.
use native.Mathlib.Omega.{arith}
use Rattle.timetable.proofs.EntryLaws.{room_is, room_left, room_small}
use Rattle.timetable.proofs.Ranges.{in_range_from}
use Rattle.timetable.proofs.Entry.room.Goals as goal

pub overflow_sub-left : goal.overflow_sub-left
overflow_sub-left c = omega (arith, (in_range_from c.args.self c.requires).bound_low)

pub overflow_sub-left-2 : goal.overflow_sub-left-2
overflow_sub-left-2 c = omega (arith, room_left c.args.self c.requires)

pub overflow_cast-result-3 : goal.overflow_cast-result-3
overflow_cast-result-3 c = omega (arith, room_small c.args.self c.requires)

pub returns : goal.returns
returns c =
    let e = c.args.self in
    room_is e.period e.bound e.shortfall (in_range_from e c.requires).period
