-- `last_offset` takes the smaller of the room and period - 1. Assumes nothing.
use Rattle.std.proofs.Common.{arith}
use Rattle.slots.specs.Shortfall.{last_offset_of}
use Rattle.timetable.proofs.Ranges.{in_range_from}
use Rattle.timetable.proofs.Entry.last_offset.Goals as goal

pub overflow_sub-self : goal.overflow_sub-self
overflow_sub-self c = omega (arith, (in_range_from c.args.self c.requires).inside)

pub returns : goal.returns
unfolding last_offset_of
returns c = omega (arith, c.room.ensures)
