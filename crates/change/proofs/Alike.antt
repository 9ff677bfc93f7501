-- Two requests, as they are read, that get the same answer: the stages before the search say the same of both, and so does the search. Assumes nothing.
use mathlib.Core.Path.{◌≡◌, refl, ap, ap₂, ◌∙◌}
use Prim.Native.Nat.{ℕ}
use Rattle.std.specs.Prelude.{Ok, Err}
use Rattle.records.specs.Request.{ReadRequest, requested}
use Rattle.change.specs.Change.{answer_of, answer_to, new_timetable, number_of, place_of, search_of, shortfalls_of, start_plan, starts_of, timetable_of}
use Rattle.change.specs.Stages.{verdict_before}
use Rattle.numbers.specs.Chain.{Verdict}
use Rattle.numbers.specs.Chain.{Passed}
use Rattle.records.specs.declared.Request.{Request}
use Rattle.slots.specs.declared.CoreSlot.{CoreSlot}
use Rattle.timetable.specs.declared.Timetable.{Timetable}
use Rattle.transition.specs.declared.Ending.{Ending}
use Rattle.transition.specs.declared.Ending.TheVariants.{Found, Missed, Exhausted}
use Rattle.transition.specs.declared.Plan.{Plan}
use Rattle.transition.specs.Plan.{Searched}

-- The answer of a search asks the request for its slot and its starts alone.
pub same_slot : (t : Timetable) (q q' : Request) → q'.slot ≡ q.slot → start_plan t q' ≡ start_plan t q → (x : Searched) → answer_of t q' x ≡ answer_of t q x
unfolding answer_of timetable_of starts_of
same_slot t q q' e p x =
    ap (λ (u : Timetable). record { number = number_of x.ending; place = place_of x.ending; tries = x.tries; timetable = u }) (at x.ending)
  where
    at : (y : Ending) → timetable_of t q' x.plan y ≡ timetable_of t q x.plan y
    at (Found n) =
        ap₂ (λ (s : CoreSlot) (y : Plan). new_timetable (record { slot = s; limit = q.limit; asks = q.asks }) (shortfalls_of y.entries) n x.plan) e p
    at (Missed n) = refl
    at (Exhausted n) = refl

-- The same verdict before the search, and past it the same answer of the search.
pub alike : (t : Timetable) (read read' : ReadRequest) (area : ℕ) → verdict_before t read' area ≡ verdict_before t read area
    → (verdict_before t read area ≡ Passed
    → answer_of t (requested read') (search_of t (requested read')) ≡ answer_of t (requested read) (search_of t (requested read)))
    → answer_to t read' area ≡ answer_to t read area
unfolding answer_to
alike t read read' area v s = at (verdict_before t read area) refl
  where
    at : (y : Verdict) → verdict_before t read area ≡ y → answer_to t read' area ≡ answer_to t read area
    at (Err x) e = rw (v ∙ e, answer_to, e)
    at (Ok u) e = rw (v ∙ e, answer_to, e) (s e)
