-- A controller's history: an accepted request puts its timetable in front, a refused one changes nothing, by the test of its number; so the history is
-- valid: each accepted timetable continues the one before, by induction on the requests. Assumes nothing.
use borrow.Author.Tests.{eq-eqb, eqb-true, ne_eqb}
use lib.Dec.{eqb}
use mathlib.Core.Bool.{Bool, true, false, cond}
use mathlib.Core.List.{List, [], ◌∷◌}
use mathlib.Core.Logic.{◌≢◌}
use mathlib.Core.Path.{◌≡◌, refl}
use Rattle.change.proofs.Answers.{accepted_continues}
use Rattle.change.specs.Change.{answer}
use Rattle.change.specs.Controller.{Sent, send, history_of}
use Rattle.numbers.specs.Numbers.{ACCEPTED}
use Rattle.timetable.proofs.InForce.{Valid}
use Rattle.timetable.specs.History.{History, present}

module _ (h : History) (q : Sent) where
  -- After an accepted request its timetable is the last one.
  pub sent_accepted : (answer (present h) q.bytes q.area).number ≡ ACCEPTED
      → send h q ≡ (answer (present h) q.bytes q.area).timetable ∷ h
  unfolding send
  sent_accepted e = rw (eq-eqb _ _ e)

  -- After a refused one nothing has changed.
  pub sent_refused : (answer (present h) q.bytes q.area).number ≢ ACCEPTED → send h q ≡ h
  unfolding send
  sent_refused n = rw (ne_eqb _ _ n)

-- The history after any requests is valid.
pub history_valid : (qs : List Sent) → Valid (history_of qs)
unfolding history_of send
history_valid [] = tt
history_valid (q ∷ qs) =
    at (eqb (answer (present (history_of qs)) q.bytes q.area).number ACCEPTED) refl (history_valid qs)
  where
    h : History
    h = history_of qs

    at : (b : Bool) → eqb (answer (present h) q.bytes q.area).number ACCEPTED ≡ b → Valid h
        → Valid (cond b ((answer (present h) q.bytes q.area).timetable ∷ h) h)
    at true e v = (accepted_continues (present h) q.bytes q.area (eqb-true _ _ e), v)
    at false e v = v
