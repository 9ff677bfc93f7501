-- `weight_of` shifts by the zeros of a period, which divides by it, or by the 16 of 0. Assumes nothing.
use Rattle.timetable.proofs.EntryLaws.{weight_shift}
use Rattle.timetable.proofs.figures.weight_of.Goals as goal

pub returns : goal.returns
returns c = (weight_shift c.args.period c.requires).1
