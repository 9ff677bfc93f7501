-- docs/RULES.md 9.2 and 9.3: what the program starts with, and what a request gives.
use Rattle.std.specs.Prelude.{List, ◌≡◌, ℕ, suc, ◌-◌, ◌^◌}
use Rattle.change.specs.Change.{answer}
use Rattle.changer.specs.States.{ControllerState}
use Rattle.frames.specs.Coded.{Puts}
use Rattle.frames.specs.Places.{InputBuffer, OutputBuffer}
use Rattle.frames.specs.Program.{line}
use Rattle.frames.specs.Runs.{AtStart, Ran}
use Rattle.slots.specs.Limits.{AREA}
use Rattle.timetable.specs.Timetable.{empty_timetable}

-- The program starts with the empty timetable, and its first request is number 1.
abbrev pub start_controller : ControllerState
start_controller = record { timetable = empty_timetable; ordinal = 1 }

-- The line of a request.
abbrev pub request_line : ControllerState → List ℕ → List ℕ
request_line s request = line s.ordinal (answer s.timetable request AREA)

-- A request was answered: the timetable of its answer is in force, the next request has the next number, and that text is its line.
pub record Answered (s : ControllerState) (request text : List ℕ) (r : ControllerState) : Type 0 where
  pub timetable : r.timetable ≡ (answer s.timetable request AREA).timetable
  pub ordinal : r.ordinal ≡ suc s.ordinal
  pub told : text ≡ request_line s request

-- The program answers as many requests as its numbers last.
abbrev pub MOST : ℕ
MOST = 2 ^ 64 - 2

-- With nothing read and nothing put at the start, the requests were answered until the input was over, or as many as the program counts.
abbrev pub Answers : InputBuffer → OutputBuffer → InputBuffer → OutputBuffer → Type 0
Answers input out input-after out-after = AtStart input out × Ran ControllerState Answered Puts start_controller MOST input out input-after out-after
