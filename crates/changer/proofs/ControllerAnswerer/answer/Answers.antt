-- `answer` of `changer::Controller` meets its contract: `change_sound` returns the answer to the request, and the line that is put is that answer's.
-- Assumes nothing.
use lib.ListN.{replicate}
use mathlib.Core.Path.{refl, ap, ◌∙◌}
use native.Mathlib.Numerals.{add-one}
use Rattle.change.proofs.Passing.{stays_sound}
use Rattle.changer.proofs.OutputLaws.{same_line, same_timetable}
use Rattle.changer.specs.Answers.{request_line}
use Rattle.slots.specs.Limits.{AREA}
use Rattle.timetable.specs.Sound.{is_sound}
use Rattle.changer.proofs.ControllerAnswerer.answer.Goals as goal

pub invariant_of-self : goal.invariant_of-self
invariant_of-self c =
    let t = c.self.inside.timetable in
    let request = c.args.request.now in
    ap is_sound (same_timetable t request (replicate AREA 0) c.change_sound-o.result refl (rw c.known_sound.ensures at c.change_sound-o.ensures.0)) ∙ stays_sound t request AREA c.self.invariant

pub returns-clause-answered : goal.returns-clause-answered
returns-clause-answered c =
    let t = c.self.inside.timetable in
    let request = c.args.request.now in
    let now = same_timetable t request (replicate AREA 0) c.change_sound-o.result refl (rw c.known_sound.ensures at c.change_sound-o.ensures.0) in
    let line = same_line t request (replicate AREA 0) c.change_sound-o.result refl (rw c.known_sound.ensures at c.change_sound-o.ensures.0) c.self.inside.ordinal in
    rw (← c.self.view_is)
    (request_line (record { timetable = t; ordinal = c.self.inside.ordinal }) request, record { timetable = now; ordinal = add-one c.self.inside.ordinal; told = refl }, rw (c.length_of-size.ensures, line) at c.write_line.ensures.puts)
