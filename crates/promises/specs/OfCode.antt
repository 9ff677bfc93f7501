-- docs/RULES.md 1.4 to 1.12, demands 1 to 3 and what lab, service screen, desk, lab network and method software read, of the code: of whatever meets the contract of `change`, of a query, of the reader of answers or the writer of requests, and of a controller that is made of such calls.
use Rattle.std.specs.Prelude.{get_or, length, take, true, List, [], ◌∷◌, ◌↔◌, ◌≢◌, ◌≡◌, ℕ, ◌-◌, ◌≤◌, ◌<◌, Ok}
use Rattle.std.specs.declared.option.Option.{Option}
use Rattle.archive.specs.declared.AnswerField.{AnswerField}
use Rattle.archive.specs.declared.Schedule.{Schedule}
use Rattle.archive.specs.AnswerRead.{field_at, field_of, no_schedule, place_after, read_answer, read_from, schedule_of, told_owner, ReadAnswer, ReadField}
use Rattle.archive.specs.AnswerReads.{AnswerRead, FieldRead, ReaderStep}
use Rattle.archive.specs.RequestWrite.{area_written, write_request}
use Rattle.archive.specs.Told.{told_number, told_place, told_written}
use Rattle.archive.specs.Writes.{RequestTells, RequestWritten}
use Rattle.change.specs.Change.{outcome, area_after}
use Rattle.change.specs.declared.Outcome.{Outcome}
use Rattle.change.specs.declared.OwnerAnswer.{OwnerAnswer}
use Rattle.change.specs.declared.StandingAnswer.{StandingAnswer}
use Rattle.change.specs.Given.{Accepted, Gives, refused_with}
use Rattle.change.specs.Queried.{OwnerGiven, StandingGiven, owner_answer, standing_answer}
use Rattle.change.specs.Queries.{owner_query, standing_query}
use Rattle.change.specs.Refused.{StagesSay}
use Rattle.numbers.specs.declared.Refusal.{Refusal}
use Rattle.numbers.specs.Chain.{Passed, Refused}
use Rattle.numbers.specs.Numbers.{ACCEPTED, SLOT_MISSED, LENGTHS_EXHAUSTED}
use Rattle.promises.specs.Promises.{LargerT, Passes, RaisedT, ReadAs, ServesOne, ShortestOf, ShortfallMeans, WindowsKept, AsksAsThere, InFull, StaysAsThere, WorkedOff}
use Rattle.records.specs.Reads.{RequestRead}
use Rattle.records.specs.Request.{read_request, ReadRequest, requested, Reading}
use Rattle.slots.specs.Clocks.{core_slot, slice_count}
use Rattle.slots.specs.declared.CoreSlot.{CoreSlot}
use Rattle.slots.specs.Limits.{AREA, IDS, LAST_SLOT}
use Rattle.slots.specs.Slots.{shortfall, supply}
use Rattle.timetable.specs.declared.Timetable.{Timetable}
use Rattle.timetable.specs.History.{History, present, run_of}
use Rattle.timetable.specs.Owner.{owner_number}
use Rattle.timetable.specs.Sound.{is_sound}
use Rattle.timetable.specs.Timetable.{lists, shortfall_at}

-- The contract of `change`: the outcome r and the area afterwards, `out`, for a timetable, the bytes of a request and an area.
abbrev pub Meets : Timetable → List ℕ → List ℕ → Outcome → List ℕ → Type 0
Meets t s area r out = (r ≡ outcome t s area) × (out ≡ area_after t s area)

-- A controller that starts empty and hands each request to a `change` that meets its contract, keeping the timetables that it accepts.
pub data Serves : History → Type 0 where
  start : Serves []
  accepts : (h : History) → Serves h → (s area : List ℕ) (r : Outcome) (out : List ℕ) → Meets (present h) s area r out → r.number ≡ ACCEPTED
      → Serves (r.timetable ∷ h)
  refuses : (h : History) → Serves h → (s area : List ℕ) (r : Outcome) (out : List ℕ) → Meets (present h) s area r out → r.number ≢ ACCEPTED
      → Serves h

-- Demand 1: whenever the rules give a refusal before the search, the code gives its number and its place, and every number but 0, 9 and 11 is such a refusal;
-- no refusal touches a byte of the area or the timetable; an acceptance is sound.
pub record DemandOne : Type 0 where
  pub given : (t : Timetable) (s area : List ℕ) (r : Outcome) (out : List ℕ) → Meets t s area r out
      → (read : ReadRequest) → RequestRead s read → (x : Refusal) → StagesSay t read (length area) (Refused x)
      → (r ≡ refused_with t x.number x.place 0) × (out ≡ area)
  pub only : (t : Timetable) (s area : List ℕ) (r : Outcome) (out : List ℕ) → Meets t s area r out
      → r.number ≢ ACCEPTED → r.number ≢ SLOT_MISSED → r.number ≢ LENGTHS_EXHAUSTED
      → (read : ReadRequest) → RequestRead s read → StagesSay t read (length area) (Refused (record { number = r.number; place = r.place }))
  pub refused : (t : Timetable) (s area : List ℕ) (r : Outcome) (out : List ℕ) → Meets t s area r out → r.number ≢ ACCEPTED
      → (r.timetable ≡ t) × (r.written ≡ 0) × (out ≡ area)
  pub sound : (t : Timetable) (s area : List ℕ) (r : Outcome) (out : List ℕ) → Meets t s area r out → r.number ≡ ACCEPTED
      → is_sound r.timetable ≡ true

-- Demand 2: an accepted request gives exactly the transition, cyclic slots and answer record of the rules: its outcome and its area are as `Accepted` says,
-- rule by rule, which leaves one outcome and one content of the area; and of any request, what the code gives is what the rules give, and nothing else.
pub record DemandTwo : Type 0 where
  pub accepted : (t : Timetable) (s area : List ℕ) (r : Outcome) (out : List ℕ) → Meets t s area r out → r.number ≡ ACCEPTED
      → (read : ReadRequest) → RequestRead s read → Accepted t (requested read) area r out
  pub one : (t : Timetable) (s area : List ℕ) (read : ReadRequest) → RequestRead s read → StagesSay t read (length area) Passed
      → (r r' : Outcome) (out out' : List ℕ) → Accepted t (requested read) area r out → Accepted t (requested read) area r' out' → (r ≡ r') × (out ≡ out')
  pub exactly : (t : Timetable) (s area : List ℕ) (r : Outcome) (out : List ℕ) → Meets t s area r out ↔ Gives t s area r out

-- Demand 3: every window of the run that the controller makes keeps its bound; no slot serves two; the transition is the shortest, and a request that
-- passes the stages before is refused for want of a schedule exactly if every length up to its limit is passed over or can't be reached, by 9 or by 11 as
-- promise 5 says.
pub record DemandThree : Type 0 where
  pub windows : (h : History) → Serves h → WindowsKept h
  pub one_owner : (h : History) → Serves h → ServesOne h
  pub shortest : (t : Timetable) (s area : List ℕ) (r : Outcome) (out : List ℕ) → Meets t s area r out → Passes t s (length area)
      → ShortestOf t (requested (read_request s)) r

-- What the commissioning desk reads: whether a larger T may help, of any two outcomes that meet the contract.
abbrev pub RaisingTOfCode : Type 0
RaisingTOfCode = (t : Timetable) (s s' area : List ℕ) (r r' : Outcome) (out out' : List ℕ) → Meets t s area r out → Meets t s' area r' out'
    → LargerT s s' → RaisedT (requested (read_request s)).limit r out r' out'

-- What the method software gets for short fields: what it gets for the request in full, of any two outcomes that meet the contract.
abbrev pub AsBeforeOfCode : Type 0
AsBeforeOfCode = (t : Timetable) (s s' area : List ℕ) (r r' : Outcome) (out out' : List ℕ) → Meets t s area r out → Meets t s' area r' out'
    → InFull t s s' → (r' ≡ r) × (out' ≡ out)

-- And for what is there, all by short fields: that it stays.
abbrev pub GrantedOfCode : Type 0
GrantedOfCode = (t : Timetable) (s area : List ℕ) (r : Outcome) (out : List ℕ) → Meets t s area r out → is_sound t ≡ true → AREA ≤ length area
    → AsksAsThere t s → StaysAsThere t r

-- What the lab reads: the kept shortfall is the largest excess of entitlement over supply, across the changes of a controller.
abbrev pub DeficitMeans : Type 0
DeficitMeans = (h : History) → Serves h → ShortfallMeans h

-- And a debt is worked off, not dropped: in the run of a controller, and by each `change` that accepts.
pub record DebtsOfCode : Type 0 where
  pub worked_off : (h : History) → Serves h → WorkedOff h
  pub accepted : (t : Timetable) (s area : List ℕ) (r : Outcome) (out : List ℕ) → Meets t s area r out → r.number ≡ ACCEPTED → (i : ℕ) → i < IDS
      → shortfall_at r.timetable i r.timetable.request ≡ shortfall_at t i r.timetable.request

-- The queries: each answers or refuses as the rules say, with zeros beside a refusal, and leaves one answer; what it answers of a controller's
-- timetable is the run's owner, and the run's shortfall and supply.
pub record QueriesOfCode : Type 0 where
  pub owner : (t : Timetable) (x : CoreSlot) (r : OwnerAnswer) → (r ≡ owner_query t x) ↔ OwnerGiven t x r
  pub standing : (t : Timetable) (i : ℕ) (x : CoreSlot) (r : StandingAnswer) → (r ≡ standing_query t i x) ↔ StandingGiven t i x r
  pub owner_run : (h : History) → Serves h → (x : ℕ) → x ≤ LAST_SLOT → (present h).request.0 ≤ x
      → (r : OwnerAnswer) → r ≡ owner_query (present h) (core_slot x) → r ≡ owner_answer ACCEPTED (owner_number (run_of h x).owner)
  pub standing_run : (h : History) → Serves h → (i x : ℕ) → i < IDS → x ≤ LAST_SLOT → (present h).request.0 ≤ x → lists (present h) i ≡ true
      → (r : StandingAnswer) → r ≡ standing_query (present h) i (core_slot x)
      → r ≡ standing_answer ACCEPTED (shortfall (run_of h) i x) (slice_count (supply (run_of h) i (present h).request.0 (x - (present h).request.0)))

-- What the lab network reads and writes: a record is read as the rules say and only so, whole, from any place on and a field at a time, and what a
-- `change` wrote is read as the schedule of its timetable; a request is written as the rules say and only so, and the controller reads what was written as
-- the same slot, T and listing.
pub record ArchiveOfCode : Type 0 where
  pub answer : (s : List ℕ) (at : ℕ) (x : ReadAnswer) → (x ≡ read_from s at) ↔ AnswerRead s at no_schedule x
  pub field : (s : List ℕ) (at : ℕ) (x : ReadField) → (x ≡ field_at s at) ↔ FieldRead s at x
  pub next : (s : List ℕ) (at : ℕ) (x : Reading (Option AnswerField)) (next : ℕ)
      → ((x ≡ field_of (field_at s at)) × (next ≡ place_after at (field_at s at))) ↔ ReaderStep s at x next
  pub owner : (s : List ℕ) (x : Schedule) → read_answer s ≡ Ok x → (n o : ℕ) → o ≡ told_owner s n → o ≡ get_or x.owners n 0
  pub changed : (t : Timetable) (s area : List ℕ) (r : Outcome) (out : List ℕ) → Meets t s area r out → r.number ≡ ACCEPTED
      → (x : ReadAnswer) → x ≡ read_answer (take r.written out) → x ≡ Ok (schedule_of r.timetable)
  pub request : (slot : CoreSlot) (limit : ℕ) (listing area : List ℕ) (w : Reading ℕ) (out : List ℕ)
      → ((w ≡ write_request slot limit listing (length area)) × (out ≡ area_written slot limit listing area)) ↔ RequestWritten slot limit listing area w out
  pub told : (slot : CoreSlot) (limit : ℕ) (listing area : List ℕ) (number place written : ℕ) (out : List ℕ)
      → ((number ≡ told_number (write_request slot limit listing (length area))) × (place ≡ told_place (write_request slot limit listing (length area)))
      × (written ≡ told_written (write_request slot limit listing (length area))) × (out ≡ area_written slot limit listing area))
      ↔ RequestTells slot limit listing area number place written out
  pub read : (slot : CoreSlot) (limit : ℕ) (listing area : List ℕ) (w : Reading ℕ) (out : List ℕ) → w ≡ write_request slot limit listing (length area)
      → out ≡ area_written slot limit listing area → (n : ℕ) → w ≡ Ok n → ReadAs slot limit listing (read_request (take n out))
  pub told_read : (slot : CoreSlot) (limit : ℕ) (listing area : List ℕ) (number place written : ℕ) (out : List ℕ)
      → RequestTells slot limit listing area number place written out → number ≡ ACCEPTED → ReadAs slot limit listing (read_request (take written out))
