-- `none` meets its contract: no slot is marked, and no place takes one. Assumes nothing.
use Rattle.placement.specs.Placement.{is_taken}
use Rattle.timetable.proofs.Marks.{none_marked, none_size}
use Rattle.timetable.specs.Marks.{no_marks}
use Rattle.placement.proofs.taken.Taken.none.Goals as goal

pub returns : goal.returns
unfolding is_taken no_marks
returns c = record { size = none_size; slot = none_marked }
