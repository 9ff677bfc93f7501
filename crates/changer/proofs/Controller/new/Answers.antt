-- `changer::Controller::new` meets its contract: the empty timetable is sound.
-- Assumes nothing.
use mathlib.Core.Path.{ap, ◌∙◌}
use Rattle.timetable.proofs.InForce.{empty_sound}
use Rattle.timetable.specs.Sound.{is_sound}
use Rattle.changer.proofs.Controller.new.Goals as goal

pub invariant_of-result : goal.invariant_of-result
invariant_of-result c = ap is_sound c.empty.ensures ∙ empty_sound
