-- Helpers of specs/Answers.antt and of the contracts in src/: what the program holds between two requests.
use Rattle.std.specs.Prelude.{ℕ}
use Rattle.timetable.specs.declared.Timetable.{Timetable}

-- The timetable in force, and the next request's ordinal.
pub record ControllerState : Type 0 where
  pub timetable : Timetable
  pub ordinal : ℕ
