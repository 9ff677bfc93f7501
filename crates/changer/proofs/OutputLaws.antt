-- The timetable and the line of what `change` returned are those of the answer. Assumes nothing.
use lib.ListN.{length}
use mathlib.Core.List.{List}
use mathlib.Core.Path.{◌≡◌, refl}
use Prim.Native.Nat.{ℕ}
use Rattle.change.specs.Change.{answer, outcome}
use Rattle.change.specs.declared.Outcome.{Outcome}
use Rattle.frames.specs.Program.{answered_length, line, line_of}
use Rattle.slots.specs.Limits.{AREA}
use Rattle.timetable.specs.declared.Timetable.{Timetable}

module _ (t : Timetable) (request area : List ℕ) (o : Outcome) (whole : length area ≡ AREA) (returned : o ≡ outcome t request area) where
  -- The timetable in force is the answer's.
  pub same_timetable : o.timetable ≡ (answer t request AREA).timetable
  unfolding outcome
  same_timetable = rw (returned, whole) refl

  -- The line is the answer's.
  pub same_line : (ordinal : ℕ) → line_of ordinal o.number o.place o.tries (answered_length o.number o.timetable.length) ≡ line ordinal (answer t request AREA)
  unfolding outcome line
  same_line ordinal = rw (returned, whole) refl
