-- docs/RULES.md 1.4 to 1.12: the promises, as statements about the definitions. Each speaks of the slots and of the rules, never of how something is
-- computed; proofs/Kept.antt proves each under its name. Two wrong programs that a promise shuts out stand under it.
use Rattle.std.specs.Prelude.{get_or, length, take, false, true, List, [], ◌∷◌, ◌↔◌, ◌≢◌, ◌⊎◌, ◌≡◌, ℕ, suc, ◌+◌, ◌-◌, ◌*◌, ◌≤◌, ◌<◌, IsOk, Err, Ok}
use Rattle.std.proofs.Math.Option.{none, some}
use Rattle.std.specs.declared.option.Option.{Option}
use Rattle.archive.specs.AnswerRead.{field_at, field_of, no_schedule, place_after, read_answer, read_from, schedule_of, schedule_record, told_owner, told_schedule, ReadAnswer, ReadField}
use Rattle.archive.specs.AnswerReads.{AnswerRead, FieldRead, NothingTold, ReaderStep, ScheduleRange}
use Rattle.archive.specs.declared.AnswerField.{AnswerField}
use Rattle.archive.specs.declared.Schedule.{Schedule}
use Rattle.archive.specs.RequestWrite.{area_written, write_request}
use Rattle.archive.specs.Told.{told_number, told_place, told_written}
use Rattle.archive.specs.Writes.{ListsEntries, RequestTells, RequestWritten}
use Rattle.change.specs.Change.{outcome, area_after, start_plan}
use Rattle.change.specs.Controller.{Sent, history_of, send}
use Rattle.change.specs.declared.Outcome.{Outcome}
use Rattle.change.specs.declared.OwnerAnswer.{OwnerAnswer}
use Rattle.change.specs.declared.StandingAnswer.{StandingAnswer}
use Rattle.change.specs.Given.{AsksBound, AtRequest, Gives, refused_with}
use Rattle.change.specs.Queried.{OwnerGiven, StandingGiven}
use Rattle.change.specs.Queries.{owner_query, standing_query}
use Rattle.change.specs.Refused.{StagesSay}
use Rattle.change.specs.Stages.{start_entries}
use Rattle.numbers.specs.declared.Refusal.{Refusal}
use Rattle.numbers.specs.Chain.{Passed, Refused}
use Rattle.numbers.specs.Numbers.{ACCEPTED, NOT_SOUND, SMALL_AREA, BAD_FIELD, OUT_OF_RANGE, NOT_RISING, TOO_EARLY, OVERFULL, BEHIND, SLOT_MISSED, NOT_LISTED, LENGTHS_EXHAUSTED}
use Rattle.placement.specs.Any.{CyclicPlacement, NoPlacement}
use Rattle.placement.specs.Placement.{Place, placement, settle}
use Rattle.records.specs.declared.Ask.{Ask}
use Rattle.records.specs.declared.Request.{Request}
use Rattle.records.specs.Reads.{Bytes, RequestRange, RefusalRange, RequestRead}
use Rattle.records.specs.Request.{ask_of, read_request, ReadRequest, requested, Reading}
use Rattle.records.specs.Written.{request_record}
use Rattle.slots.specs.Below.{count}
use Rattle.slots.specs.Clocks.{core_slot, slice_count}
use Rattle.slots.specs.declared.CoreSlot.{CoreSlot}
use Rattle.slots.specs.Limits.{IDS, LONGEST, WHOLE, AREA, LARGEST_BOUND, LARGEST_K, LAST_SLOT, IDLE}
use Rattle.slots.specs.Slots.{entitlement, supply, shortfall, Listed, KeepsBound}
use Rattle.timetable.specs.declared.Entry.{Entry}
use Rattle.timetable.specs.declared.Timetable.{Timetable}
use Rattle.timetable.specs.History.{History, present, in_force, run_of}
use Rattle.timetable.specs.Owner.{owner_number}
use Rattle.timetable.specs.Sound.{entries_in_range, is_sound}
use Rattle.timetable.specs.Timetable.{empty_timetable, entry_of, lists, serves, shortfall_at, start_of}
use Rattle.transition.specs.Reach.{is_searched, HasPlacement, PassedOver, SlotBreaks, CannotReach}

-- 1. Sound stays sound; a refusal hands back the timetable as given and touches no byte of the area; an accepted record has at most 231 bytes and
-- fits the area, and the bytes after it stay. (Shuts out: a change that keeps a shortfall of 256 R; a refusal that clears the area.)
pub record SoundStays : Type 0 where
  pub empty : is_sound empty_timetable ≡ true
  pub accepted : (t : Timetable) (s area : List ℕ) → (outcome t s area).number ≡ ACCEPTED → is_sound (outcome t s area).timetable ≡ true
  pub refused : (t : Timetable) (s area : List ℕ) → (outcome t s area).number ≢ ACCEPTED
      → ((outcome t s area).timetable ≡ t) × ((outcome t s area).written ≡ 0) × (area_after t s area ≡ area)
  pub short : (t : Timetable) (s area : List ℕ) → (outcome t s area).written ≤ AREA
  pub fits : (t : Timetable) (s area : List ℕ) → (outcome t s area).written ≤ length area
  pub size : (t : Timetable) (s area : List ℕ) → length (area_after t s area) ≡ length area
  pub rest : (t : Timetable) (s area : List ℕ) (n : ℕ) → (outcome t s area).written ≤ n → get_or (area_after t s area) n 0 ≡ get_or area n 0

-- 2. After any requests from an empty controller, take any window of slots, from slot a to its last slot a + n, however long and across as many changes
-- and absences as it holds, if id i is listed in its last slot: its slots exceed its entitlement less its bound, the one in force in the last slot.
-- (Shuts out: shortfall counted from the request slot; a debt cleared on leaving; the old weight kept until the base; a controller that does the first
-- request and then only says 0.)
abbrev pub WindowsKept : History → Type 0
WindowsKept h = (i a n : ℕ) → Listed (run_of h) i (a + n) → KeepsBound (run_of h) i a n

-- So after any requests from an empty controller.
abbrev pub Windows : Type 0
Windows = (sent : List Sent) → WindowsKept (history_of sent)

-- 3. No slot serves two, in the transition and in the cycle: not by the owners, not by the offsets.
-- (Shuts out: two partitions at offsets of one class; a cycle that starts before the transition ends.)
abbrev pub ServesOne : History → Type 0
ServesOne h =
    (x i j : ℕ) → i < IDS → j < IDS → serves (in_force h x) (core_slot x) i ≡ true → serves (in_force h x) (core_slot x) j ≡ true → i ≡ j

-- So after any requests from an empty controller.
abbrev pub OneOwner : Type 0
OneOwner = (sent : List Sent) → ServesOne (history_of sent)

-- 4. Rule 4 fails exactly if no cyclic placement at all keeps the bounds, and where it succeeds its answer is one.
-- (Shuts out: the earliest free offset taken; a search that gives up before its last offset.)
pub record PlacementComplete : Type 0 where
  pub fails : (es : List Entry) → length es ≡ IDS → entries_in_range es ≡ true
      → (placement es ≡ none) ↔ NoPlacement es
  pub succeeds : (es : List Entry) → length es ≡ IDS → entries_in_range es ≡ true → (ps : List Place) → placement es ≡ some ps
      → CyclicPlacement es (λ i. (entry_of (settle es ps) i).offset)

-- A request, by its bytes, passes the stages before the search.
abbrev pub Passes : Timetable → List ℕ → ℕ → Type 0
Passes t s area = StagesSay t (read_request s) area Passed

-- 5. For a request that passes the stages before the search. It is accepted with length n exactly if n is at most T and has a cyclic placement, and every
-- shorter length is passed over. It gets 11 with place T exactly if every length 0 to T is passed over. It gets 9 with place k exactly if k is below T, every
-- length 0 to k is passed over, and whoever gets slot k some bound is broken. And it is refused for want of a schedule, which is 9 or 11, exactly if every
-- length up to T is passed over or can't be reached.
-- (Shuts out: a controller that refuses everything; one that tries length T only; 9 where only slot T would be missed.)
pub record ShortestOf (t : Timetable) (q : Request) (r : Outcome) : Type 0 where
  pub accepted : (n : ℕ) → ((r.number ≡ ACCEPTED) × (r.timetable.length ≡ n))
      ↔ ((n ≤ q.limit) × HasPlacement (start_plan t q) n × ((m : ℕ) → m < n → PassedOver (start_plan t q) m))
  pub exhausted : ((r.number ≡ LENGTHS_EXHAUSTED) × (r.place ≡ q.limit)) ↔ ((n : ℕ) → n ≤ q.limit → PassedOver (start_plan t q) n)
  pub missed : (k : ℕ) → ((r.number ≡ SLOT_MISSED) × (r.place ≡ k))
      ↔ ((k < q.limit) × ((n : ℕ) → n ≤ k → PassedOver (start_plan t q) n) × SlotBreaks (start_plan t q) k)
  pub refused : ((r.number ≡ SLOT_MISSED) ⊎ (r.number ≡ LENGTHS_EXHAUSTED))
      ↔ ((n : ℕ) → n ≤ q.limit → PassedOver (start_plan t q) n ⊎ CannotReach (start_plan t q) n)

-- So for every request that passes.
abbrev pub Shortest : Type 0
Shortest = (t : Timetable) (s area : List ℕ) → Passes t s (length area) → ShortestOf t (requested (read_request s)) (outcome t s area)

-- 6. Tries is the number of lengths up to T whose placement was searched, at most T + 1, and 0 for refusals 1 to 8.
-- (Shuts out: invented tries; the successful length not counted.)
pub record Tries : Type 0 where
  pub before : (t : Timetable) (s area : List ℕ) (x : Refusal) → StagesSay t (read_request s) (length area) (Refused x) → (outcome t s area).tries ≡ 0
  pub counted : (t : Timetable) (s area : List ℕ) → Passes t s (length area)
      → (outcome t s area).tries ≡ count (suc (requested (read_request s)).limit) (is_searched (start_plan t (requested (read_request s))))
  pub few : (t : Timetable) (s area : List ℕ) → Passes t s (length area) → (outcome t s area).tries ≤ suc (requested (read_request s)).limit

-- 7. Whenever the rules give a refusal before the search, the outcome has its number and its place, no tries, no bytes and the timetable as given, and
-- the area is untouched; and every outcome with a number but 0, 9 and 11 is such a refusal. The lowest stage wins, fields from left to right, and within a field
-- 3, then 4, then 5. (Shuts out: places told modulo 10; numbers 1 to 5 all told as 6; an overfull listing refused before its fields are read.)
pub record Stages : Type 0 where
  pub refused : (t : Timetable) (s area : List ℕ) (read : ReadRequest) → RequestRead s read → (x : Refusal) → StagesSay t read (length area) (Refused x)
      → (outcome t s area ≡ refused_with t x.number x.place 0) × (area_after t s area ≡ area)
  pub refused_only : (t : Timetable) (s area : List ℕ) (read : ReadRequest) → RequestRead s read
      → (outcome t s area).number ≢ ACCEPTED → (outcome t s area).number ≢ SLOT_MISSED → (outcome t s area).number ≢ LENGTHS_EXHAUSTED
      → StagesSay t read (length area) (Refused (record { number = (outcome t s area).number; place = (outcome t s area).place }))
  pub fields : (s : List ℕ) → RequestRead s (read_request s)
  pub fields_only : (s : List ℕ) (x : ReadRequest) → RequestRead s x → read_request s ≡ x
  -- the entries over which refusals 7 and 8 speak are those of rule 1
  pub entries : (t : Timetable) (q : Request) → AtRequest t q (start_entries t q.slot q.asks)

-- 8. A record that is read is the one form of what it says, nothing follows it, and what it says is in range; a damaged one gets one number from 3 to 5 and
-- a place in the record or at its end. (Shuts out: bytes after the last field ignored; two records for one request.)
pub record OneForm : Type 0 where
  pub one : (s : List ℕ) (q : Request) → Bytes s → read_request s ≡ Ok q → s ≡ request_record q
  pub back : (r : Request) → RequestRange r → read_request (request_record r) ≡ Ok r
  pub range : (s : List ℕ) (q : Request) → read_request s ≡ Ok q → RequestRange q
  pub damaged : (s : List ℕ) (r : Refusal) → read_request s ≡ Err r → RefusalRange s r

-- 9. The shortfall means what the dictionary says, of every id, listed or not: from the request slot on, at every slot, it is the largest excess of
-- entitlement over supply among all windows that end there, the empty one included, back to the empty controller and across changes and absences; and the
-- kept figures are the run's own, each at its slot.
-- (Shuts out: a deficit counted from the last change; a debt that grows in an absence; surplus banked below zero; the shortfall at the base kept for the
-- request slot.)
pub record ShortfallMeans (h : History) : Type 0 where
  pub at_request : (i : ℕ) → i < IDS → start_of (present h) i ≡ shortfall (run_of h) i (present h).request.0
  pub at_base : (i : ℕ) → i < IDS → (entry_of (present h).entries i).shortfall ≡ shortfall (run_of h) i (present h).base.0
  pub most : (i a n : ℕ) → i < IDS → (present h).request.0 ≤ a + n
      → entitlement (run_of h) i a n ≤ WHOLE * supply (run_of h) i a n + shortfall_at (present h) i (core_slot (a + n))
  pub attained : (i x : ℕ) → i < IDS → (present h).request.0 ≤ x
      → (a : ℕ) × (n : ℕ) × (a + n ≡ x)
      × (entitlement (run_of h) i a n ≡ WHOLE * supply (run_of h) i a n + shortfall_at (present h) i (core_slot x))

-- So after any requests from an empty controller.
abbrev pub KeptShortfall : Type 0
KeptShortfall = (sent : List Sent) → ShortfallMeans (history_of sent)

-- 10. From the request slot on, in the transition and after it, the owner query tells who the run's slot belongs to, and the standing query the run's shortfall
-- and the slices had since the request slot. Each refuses by its numbers, in their order, with zeros beside them, and not otherwise.
-- (Shuts out: a query that ignores the transition; the shortfall at the base told in the transition; slices counted from the base.)
pub record QueriesTell (h : History) : Type 0 where
  pub owner : (x : ℕ) → x ≤ LAST_SLOT → (present h).request.0 ≤ x
      → owner_query (present h) (core_slot x) ≡ record { number = ACCEPTED; place = 0; owner = owner_number (run_of h x).owner }
  pub standing : (i x : ℕ) → i < IDS → x ≤ LAST_SLOT → (present h).request.0 ≤ x → lists (present h) i ≡ true
      → standing_query (present h) i (core_slot x)
      ≡ record {
        number = ACCEPTED;
        place = 0;
        shortfall = shortfall (run_of h) i x;
        slices = slice_count (supply (run_of h) i (present h).request.0 (x - (present h).request.0));
      }

-- So after any requests from an empty controller; and of any timetable, sound or not, each answer and refusal as it is given and only so.
pub record Queries : Type 0 where
  pub tell : (sent : List Sent) → QueriesTell (history_of sent)
  pub owner : (t : Timetable) (x : CoreSlot) → OwnerGiven t x (owner_query t x)
  pub owner_only : (t : Timetable) (x : CoreSlot) (r : OwnerAnswer) → OwnerGiven t x r → owner_query t x ≡ r
  pub standing : (t : Timetable) (i : ℕ) (x : CoreSlot) → StandingGiven t i x (standing_query t i x)
  pub standing_only : (t : Timetable) (i : ℕ) (x : CoreSlot) (r : StandingAnswer) → StandingGiven t i x r → standing_query t i x ≡ r

-- 11. Every outcome, with the area afterwards, is what the rules give, said of the outcome itself; and those rules, so said, leave one outcome and
-- one content of the area. (Shuts out: R 1 kept for a short field whose id is listed; ties to the higher id; 231 bytes told for every acceptance.)
pub record Exact : Type 0 where
  pub given : (t : Timetable) (s area : List ℕ) → Gives t s area (outcome t s area) (area_after t s area)
  pub one : (t : Timetable) (s area : List ℕ) (r r' : Outcome) (out out' : List ℕ) → Gives t s area r out → Gives t s area r' out' → (r ≡ r') × (out ≡ out')

-- 12. The names of the numbers and of the limits stand for the figures of docs/RULES.md 3.3 and 7.1. (Shuts out: two numbers changed for each other; a T of 65.)
pub record Figures : Type 0 where
  pub numbers :
      (ACCEPTED ∷ NOT_SOUND ∷ SMALL_AREA ∷ BAD_FIELD ∷ OUT_OF_RANGE ∷ NOT_RISING ∷ TOO_EARLY ∷ OVERFULL ∷ BEHIND ∷ SLOT_MISSED ∷ NOT_LISTED ∷ LENGTHS_EXHAUSTED ∷ [])
      ≡ (0 ∷ 1 ∷ 2 ∷ 3 ∷ 4 ∷ 5 ∷ 6 ∷ 7 ∷ 8 ∷ 9 ∷ 10 ∷ 11 ∷ [])
  pub limits : (IDS ∷ LONGEST ∷ WHOLE ∷ AREA ∷ LARGEST_BOUND ∷ LARGEST_K ∷ LAST_SLOT ∷ IDLE ∷ []) ≡ (32 ∷ 64 ∷ 256 ∷ 231 ∷ 8 ∷ 8 ∷ 281474976710655 ∷ 255 ∷ [])

-- The request s, and s', the same request with a T as large or larger: both are read, and they ask for the same slot and the same listing.
pub record LargerT (s s' : List ℕ) : Type 0 where
  pub read : IsOk (read_request s)
  pub read' : IsOk (read_request s')
  pub slot : (requested (read_request s')).slot ≡ (requested (read_request s)).slot
  pub asks : (requested (read_request s')).asks ≡ (requested (read_request s)).asks
  pub larger : (requested (read_request s)).limit ≤ (requested (read_request s')).limit

-- 13. Raising T: what a request gets with T, the outcome r and the area `out`, beside what the same request gets with a larger T, r' and `out'`.
-- (Shuts out: 9 and 11 changed for each other; a longer transition taken because a larger T allows it.)
pub record RaisedT (limit : ℕ) (r : Outcome) (out : List ℕ) (r' : Outcome) (out' : List ℕ) : Type 0 where
  -- raising T can't help after a 9: the answer is the same, its place and tries included
  pub missed : r.number ≡ SLOT_MISSED → (r' ≡ r) × (out' ≡ out)
  -- an acceptance is the same, with the same bytes
  pub accepted : r.number ≡ ACCEPTED → (r' ≡ r) × (out' ≡ out)
  -- so is a refusal before the search
  pub before : r.number ≢ SLOT_MISSED → r.number ≢ ACCEPTED → r.number ≢ LENGTHS_EXHAUSTED → (r' ≡ r) × (out' ≡ out)
  -- after an 11 raising T may help: the request is accepted, or gets 9 or 11
  pub again : r.number ≡ LENGTHS_EXHAUSTED → (r'.number ≡ ACCEPTED) ⊎ (r'.number ≡ SLOT_MISSED) ⊎ (r'.number ≡ LENGTHS_EXHAUSTED)
  -- what is accepted then has a length above T
  pub longer : r.number ≡ LENGTHS_EXHAUSTED → r'.number ≡ ACCEPTED → limit < r'.timetable.length
  -- and a slot that is missed then is none before T
  pub later : r.number ≡ LENGTHS_EXHAUSTED → r'.number ≡ SLOT_MISSED → limit ≤ r'.place

-- So for every timetable, request and area.
abbrev pub RaisingT : Type 0
RaisingT = (t : Timetable) (s s' area : List ℕ) → LargerT s s'
    → RaisedT (requested (read_request s)).limit (outcome t s area) (area_after t s area) (outcome t s' area) (area_after t s' area)

-- 14. Reading an answer. Each record is read, or refused 3 at the one place, as its fields say, from its start and from any place on; one that is read is
-- the one record of what was read, and what was read is in range; a schedule in range is read back from its record; and reading what a change wrote gives
-- back the new timetable's length, owners and offsets.
-- (Shuts out: an id that equals the one before let through; bytes after the last field ignored; every fault told at place 0; the reader back at the start
-- where a field is refused.)
pub record AnswersRead : Type 0 where
  pub given : (s : List ℕ) (at : ℕ) → AnswerRead s at no_schedule (read_from s at)
  pub only : (s : List ℕ) (at : ℕ) (x : ReadAnswer) → AnswerRead s at no_schedule x → read_from s at ≡ x
  pub damaged : (s : List ℕ) (r : Refusal) → read_answer s ≡ Err r → (r.number ≡ BAD_FIELD) × (r.place ≤ length s)
  pub one : (s : List ℕ) (x : Schedule) → read_answer s ≡ Ok x → s ≡ schedule_record x
  pub range : (s : List ℕ) (x : Schedule) → read_answer s ≡ Ok x → ScheduleRange x
  pub back : (x : Schedule) → ScheduleRange x → read_answer (schedule_record x) ≡ Ok x
  pub changed : (t : Timetable) (s area : List ℕ) → (outcome t s area).number ≡ ACCEPTED
      → read_answer (take (outcome t s area).written (area_after t s area)) ≡ Ok (schedule_of (outcome t s area).timetable)
  -- of one that is read what was read is told, and of one that is refused nothing
  pub told : (s : List ℕ) (at : ℕ) (x : Schedule) → read_from s at ≡ Ok x → told_schedule (read_from s at) ≡ x
  pub untold : (s : List ℕ) (at : ℕ) (r : Refusal) → read_from s at ≡ Err r → NothingTold (told_schedule (read_from s at))
  -- a field at a time: what stands at a place is one thing, and it is what the reader tells there; and the owner that it tells for a slot is the one read
  pub field : (s : List ℕ) (at : ℕ) → FieldRead s at (field_at s at)
  pub field_only : (s : List ℕ) (at : ℕ) (x : ReadField) → FieldRead s at x → field_at s at ≡ x
  -- and the reader's place afterwards: behind the field, or where it was
  pub step : (s : List ℕ) (at : ℕ) → ReaderStep s at (field_of (field_at s at)) (place_after at (field_at s at))
  pub step_only : (s : List ℕ) (at : ℕ) (x : Reading (Option AnswerField)) (next : ℕ) → ReaderStep s at x next
      → (field_of (field_at s at) ≡ x) × (place_after at (field_at s at) ≡ next)
  pub owner : (s : List ℕ) (x : Schedule) → read_answer s ≡ Ok x → (n : ℕ) → told_owner s n ≡ get_or x.owners n 0

-- A request that was read, as this slot, T and listing.
pub record ReadAs (slot : CoreSlot) (limit : ℕ) (listing : List ℕ) (x : ReadRequest) : Type 0 where
  pub read : IsOk x
  pub same_slot : (requested x).slot ≡ slot
  pub same_limit : (requested x).limit ≡ limit
  pub lists : ListsEntries listing (requested x).asks

-- 15. Writing a request. What is returned and the area afterwards are what the rules give, case by case, and those leave one of each; and the controller
-- reads what was written as the same slot and T, and as a listing that asks for each entry's id what the entry says, and for no other id anything.
-- (Shuts out: a short field written for R 1; the area looked at before the entries; a cut-short entry dropped; a byte told as written on a refusal.)
pub record RequestsWritten : Type 0 where
  pub given : (slot : CoreSlot) (limit : ℕ) (listing area : List ℕ)
      → RequestWritten slot limit listing area (write_request slot limit listing (length area)) (area_written slot limit listing area)
  pub one : (slot : CoreSlot) (limit : ℕ) (listing area : List ℕ) (r r' : Reading ℕ) (out out' : List ℕ) → RequestWritten slot limit listing area r out
      → RequestWritten slot limit listing area r' out' → (r ≡ r') × (out ≡ out')
  -- what is told of it: the refusal's number, its place and 0 bytes, or number 0, place 0 and the bytes written
  pub told : (slot : CoreSlot) (limit : ℕ) (listing area : List ℕ)
      → RequestTells slot limit listing area
      (told_number (write_request slot limit listing (length area)))
      (told_place (write_request slot limit listing (length area)))
      (told_written (write_request slot limit listing (length area)))
      (area_written slot limit listing area)
  pub told_one : (slot : CoreSlot) (limit : ℕ) (listing area : List ℕ) (n p w n' p' w' : ℕ) (out out' : List ℕ)
      → RequestTells slot limit listing area n p w out → RequestTells slot limit listing area n' p' w' out'
      → (n ≡ n') × (p ≡ p') × (w ≡ w') × (out ≡ out')
  pub read : (slot : CoreSlot) (limit : ℕ) (listing area : List ℕ) (n : ℕ) → write_request slot limit listing (length area) ≡ Ok n
      → ReadAs slot limit listing (read_request (take n (area_written slot limit listing area)))

-- What a request asks for an id, `ask`, and the same in full, for an id with this entry in the timetable: the same period, and, where it asks for the id,
-- an R that is given, the one that is asked.
pub record AskInFull (old : Entry) (ask full : Ask) : Type 0 where
  pub period : full.period ≡ ask.period
  pub given : 0 < ask.period → 0 < full.bound
  pub bound : 0 < ask.period → AsksBound old ask.bound full.bound

-- The request s, and s', the same request in full for a timetable: both are read, they have the same slot and T, and what s asks for an id s' asks in full.
pub record InFull (t : Timetable) (s s' : List ℕ) : Type 0 where
  pub read : IsOk (read_request s)
  pub read' : IsOk (read_request s')
  pub slot : (requested (read_request s')).slot ≡ (requested (read_request s)).slot
  pub limit : (requested (read_request s')).limit ≡ (requested (read_request s)).limit
  pub asks : (i : ℕ) → i < IDS → AskInFull (entry_of t.entries i) (ask_of (requested (read_request s)).asks i) (ask_of (requested (read_request s')).asks i)

-- 16. As before. For every timetable and area a request with short fields gets exactly the outcome of the request in full, and leaves exactly its area; and
-- for a sound timetable every request that is read has a request in full, and one only. And 8 names an id with a short field only where it is not listed
-- and returns with a debt of a whole slot or more.
-- (Shuts out: R 1 kept for a listed id; the R of an id that left; the R of another id.)
pub record AsBefore : Type 0 where
  pub same : (t : Timetable) (s s' area : List ℕ) → InFull t s s' → (outcome t s' area ≡ outcome t s area) × (area_after t s' area ≡ area_after t s area)
  pub full : (t : Timetable) (s : List ℕ) → is_sound t ≡ true → IsOk (read_request s) → (s' : List ℕ) × InFull t s s'
  pub one : (t : Timetable) (s s' s'' : List ℕ) → InFull t s s' → InFull t s s'' → read_request s'' ≡ read_request s'
  pub behind : (t : Timetable) (s area : List ℕ) → (outcome t s area).number ≡ BEHIND
      → (0 < (ask_of (requested (read_request s)).asks (outcome t s area).place).bound)
      ⊎ ((lists t (outcome t s area).place ≡ false) × (WHOLE ≤ shortfall_at t (outcome t s area).place (requested (read_request s)).slot))

-- The request s asks a timetable for what is there: it is read, its slot is not before the base, and it lists exactly the present ids, each with its
-- present period and by a short field.
pub record AsksAsThere (t : Timetable) (s : List ℕ) : Type 0 where
  pub read : IsOk (read_request s)
  pub in_time : t.base.0 ≤ (requested (read_request s)).slot.0
  pub asks : (i : ℕ) → i < IDS → ask_of (requested (read_request s)).asks i ≡ record { period = (entry_of t.entries i).period; bound = 0 }

-- An outcome that is accepted with length 0, and in which each id keeps its period and its R.
pub record StaysAsThere (t : Timetable) (r : Outcome) : Type 0 where
  pub accepted : r.number ≡ ACCEPTED
  pub at_once : r.timetable.length ≡ 0
  pub period : (i : ℕ) → i < IDS → (entry_of r.timetable.entries i).period ≡ (entry_of t.entries i).period
  pub bound : (i : ℕ) → i < IDS → (entry_of r.timetable.entries i).bound ≡ (entry_of t.entries i).bound

-- 17. What is there is granted: a sound timetable that is asked for what is there, with an area that is large enough, stays as there; and it can be so asked
-- at every slot from the base on, with every T.
-- (Shuts out: R 1 kept for a listed id; the smallest free offset taken; weights that sum to 256 refused.)
pub record GrantedAsThere : Type 0 where
  pub granted : (t : Timetable) (s area : List ℕ) → is_sound t ≡ true → AREA ≤ length area → AsksAsThere t s → StaysAsThere t (outcome t s area)
  pub asked : (t : Timetable) → is_sound t ≡ true → (slot limit : ℕ) → t.base.0 ≤ slot → slot ≤ LAST_SLOT → limit ≤ LONGEST
      → (s : List ℕ) × AsksAsThere t s × ((requested (read_request s)).slot.0 ≡ slot) × ((requested (read_request s)).limit ≡ limit)

-- 18. A debt is worked off, not dropped. From slot a to slot a + n of a run an id's shortfall falls by at most 256 for each of its own slots between them,
-- and not at all without one; and over slots in which the id is not listed it stays as it is.
-- (Shuts out: a debt cleared on leaving, or on returning; a debt that grows in an absence.)
pub record WorkedOff (h : History) : Type 0 where
  pub falls : (i a n : ℕ) → shortfall (run_of h) i a ≤ shortfall (run_of h) i (a + n) + WHOLE * supply (run_of h) i a n
  pub absent : (i a n : ℕ) → i < IDS → ((m : ℕ) → m < n → (run_of h (a + m)).weight i ≡ 0) → shortfall (run_of h) i (a + n) ≡ shortfall (run_of h) i a

-- So after any requests from an empty controller. And no request, leaving and returning included, changes a shortfall up to its request slot: the run's
-- stays, and the new timetable tells there what the one before told, be the id listed in both, in one of the two or in neither.
pub record Debts : Type 0 where
  pub worked_off : (sent : List Sent) → WorkedOff (history_of sent)
  pub stays : (h : History) (q : Sent) (i x : ℕ) → x ≤ (present (send h q)).request.0 → shortfall (run_of (send h q)) i x ≡ shortfall (run_of h) i x
  pub accepted : (t : Timetable) (s area : List ℕ) → (outcome t s area).number ≡ ACCEPTED → (i : ℕ) → i < IDS
      → shortfall_at (outcome t s area).timetable i (outcome t s area).timetable.request ≡ shortfall_at t i (outcome t s area).timetable.request
