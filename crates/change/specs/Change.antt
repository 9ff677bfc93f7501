-- docs/RULES.md 4, 7.1, 7.4 and 7.5: the whole outcome of a request.
use Rattle.std.specs.Prelude.{eqb, length, replicate, cond, List, [], map, ℕ, ◌+◌, Ok, Err}
use Rattle.std.proofs.lemmas.List.Edits.{sets}
use Rattle.change.specs.declared.Answer.{Answer}
use Rattle.change.specs.declared.Outcome.{Outcome}
use Rattle.change.specs.Stages.{start_entries, verdict_before}
use Rattle.numbers.specs.declared.Refusal.{Refusal}
use Rattle.numbers.specs.Numbers.{ACCEPTED, SLOT_MISSED, LENGTHS_EXHAUSTED}
use Rattle.records.specs.Answer.{answer_record}
use Rattle.records.specs.declared.Request.{Request}
use Rattle.records.specs.Request.{read_request, ReadRequest, requested}
use Rattle.slots.specs.Clocks.{core_slot}
use Rattle.slots.specs.Limits.{LONGEST}
use Rattle.timetable.specs.declared.Entry.{Entry}
use Rattle.timetable.specs.declared.Timetable.{Timetable}
use Rattle.transition.specs.declared.Ending.{Ending}
use Rattle.transition.specs.declared.Ending.TheVariants.{Found, Missed, Exhausted}
use Rattle.transition.specs.declared.Plan.{Plan}
use Rattle.transition.specs.Plan.{Searched}
use Rattle.transition.specs.Transition.{search_from}

-- The number of an ending: accepted, a slot missed, or every length up to T searched in vain.
unfoldable pub number_of : Ending → ℕ
number_of (Found n) = ACCEPTED
number_of (Missed n) = SLOT_MISSED
number_of (Exhausted n) = LENGTHS_EXHAUSTED

-- The place of an ending: the slot missed, or T.
unfoldable pub place_of : Ending → ℕ
place_of (Found n) = 0
place_of (Missed n) = n
place_of (Exhausted n) = n

-- The shortfalls of the entries, by id.
unfoldable pub shortfalls_of : List Entry → List ℕ
shortfalls_of es = map (λ (e : Entry). e.shortfall) es

-- The plan of length 0: no transition slot, and the shortfalls at the request slot.
unfoldable pub start_plan : Timetable → Request → Plan
start_plan t r = record { owners = replicate LONGEST 0; entries = start_entries t r.slot r.asks }

-- The starts of a request: the shortfalls in the plan of length 0.
unfoldable pub starts_of : Timetable → Request → List ℕ
starts_of t r = shortfalls_of (start_plan t r).entries

-- The new timetable: the request slot, the transition, its base, request slot + length, and the starts.
abbrev pub new_timetable : Request → List ℕ → ℕ → Plan → Timetable
new_timetable r starts n plan = record {
  request = r.slot;
  length = n;
  owners = plan.owners;
  base = core_slot (r.slot.0 + n);
  entries = plan.entries;
  starts = starts;
}

-- The timetable after an ending: the new one, or the one as given.
unfoldable pub timetable_of : Timetable → Request → Plan → Ending → Timetable
timetable_of t r plan (Found n) = new_timetable r (starts_of t r) n plan
timetable_of t r plan (Missed n) = t
timetable_of t r plan (Exhausted n) = t

-- The search of a request that passed the stages before: lengths 0 to T.
unfoldable pub search_of : Timetable → Request → Searched
search_of t r = search_from r.limit 0 (start_plan t r)

-- The answer of a search.
unfoldable pub answer_of : Timetable → Request → Searched → Answer
answer_of t r s = record {
  number = number_of s.ending;
  place = place_of s.ending;
  tries = s.tries;
  timetable = timetable_of t r s.plan s.ending;
}

-- A refusal before the search: its number and place, 0 tries, and the timetable as given.
abbrev pub refuse : Timetable → Refusal → Answer
refuse t r = record { number = r.number; place = r.place; tries = 0; timetable = t }

-- The answer to a request, as it was read, with an answer area of a given size: the stages before, then the search.
unfoldable pub answer_to : Timetable → ReadRequest → ℕ → Answer
answer_to t read area =
    elim (verdict_before t read area) [ Ok _ ↦ answer_of t (requested read) (search_of t (requested read)) | Err r ↦ refuse t r ]

-- The answer to the bytes s of a request. It is decided before any byte is written.
unfoldable pub answer : Timetable → List ℕ → ℕ → Answer
answer t s area = answer_to t (read_request s) area

-- The answer record of an answer; a refusal has none.
unfoldable pub record_of : Answer → List ℕ
record_of a = cond (eqb a.number ACCEPTED) (answer_record a.timetable.length a.timetable.owners a.timetable.entries) []

-- An answer as it is returned: with the number of bytes written.
abbrev pub outcome_of : Answer → Outcome
outcome_of a = record { number = a.number; place = a.place; tries = a.tries; written = length (record_of a); timetable = a.timetable }

-- An answer written to an area: its record from the start, and the bytes after it as they were. (A refusal has no record, so no byte changes.)
abbrev pub written : Answer → List ℕ → List ℕ
written a area = sets area 0 (record_of a)

-- What a request with the bytes s and an answer area returns.
unfoldable pub outcome : Timetable → List ℕ → List ℕ → Outcome
outcome t s area = outcome_of (answer t s (length area))

-- The answer area afterwards.
unfoldable pub area_after : Timetable → List ℕ → List ℕ → List ℕ
area_after t s area = written (answer t s (length area)) area
