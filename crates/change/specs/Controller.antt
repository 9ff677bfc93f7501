-- docs/RULES.md 3.4: a controller that starts empty and is sent requests: the timetables it accepts make its run of slots.
use Rattle.std.specs.Prelude.{eqb, cond, List, [], ◌∷◌, ℕ}
use Rattle.change.specs.Change.{answer}
use Rattle.numbers.specs.Numbers.{ACCEPTED}
use Rattle.timetable.specs.History.{History, present}

-- What is sent: the bytes of a request, damaged or not, and an answer area of some size.
pub record Sent : Type 0 where
  pub bytes : List ℕ
  pub area : ℕ

-- The history after one more request: an accepted one adds its timetable, a refused one nothing.
unfoldable pub send : History → Sent → History
send h q =
    cond (eqb (answer (present h) q.bytes q.area).number ACCEPTED)
    ((answer (present h) q.bytes q.area).timetable ∷ h)
    h

-- The history after any requests from an empty controller, the last request first.
unfoldable pub history_of : List Sent → History
history_of [] = []
history_of (q ∷ qs) = send (history_of qs) q
