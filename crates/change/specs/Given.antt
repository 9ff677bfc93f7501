-- docs/RULES.md 4 and 7: what a request gets, said of the outcome and the area themselves, rule by rule. Nothing here searches.
use Rattle.std.specs.Prelude.{get_or, length, List, true, false, ◌≡◌, ℕ, suc, ◌+◌, ◌≤◌, ◌<◌}
use Rattle.change.specs.declared.Outcome.{Outcome}
use Rattle.change.specs.Refused.{StagesSay}
use Rattle.placement.specs.Any.{NoPlacement}
use Rattle.placement.specs.RuleFour.{ByRuleFour}
use Rattle.records.specs.AnswerForm.{AnswerStands}
use Rattle.numbers.specs.declared.Refusal.{Refusal}
use Rattle.numbers.specs.Chain.{Passed, Refused}
use Rattle.records.specs.declared.Request.{Request}
use Rattle.numbers.specs.Numbers.{ACCEPTED, SLOT_MISSED, LENGTHS_EXHAUSTED}
use Rattle.records.specs.Reads.{RequestRead}
use Rattle.records.specs.Request.{ask_of, ReadRequest, requested}
use Rattle.slots.specs.Limits.{IDS, LONGEST}
use Rattle.timetable.specs.declared.Entry.{Entry}
use Rattle.timetable.specs.declared.Timetable.{Timetable}
use Rattle.timetable.specs.Timetable.{absent_entry, entry_of, is_listed, start_of, shortfall_at, with_offset}
use Rattle.transition.specs.Reach.{AnyoneBreaks}
use Rattle.transition.specs.RuleThree.{ByRuleThree, walked_to}

-- The bound that a field asks for an id with this entry in the timetable: its R; or, where the field is short, which is read as 0, the R as before.
pub data AsksBound (old : Entry) (asked bound : ℕ) : Type 0 where
  -- the R that is given
  in_full : 0 < asked → bound ≡ asked → AsksBound old asked bound
  -- the R with which the timetable lists the id
  as_listed : asked ≡ 0 → is_listed old ≡ true → bound ≡ old.bound → AsksBound old asked bound
  -- 1 for an id that it does not list
  not_listed : asked ≡ 0 → is_listed old ≡ false → bound ≡ 1 → AsksBound old asked bound

-- An id that the record lists enters the change with the period and the bound that it asks, not placed yet, and with its shortfall at the request slot.
pub record Enters (t : Timetable) (q : Request) (i : ℕ) (e : Entry) : Type 0 where
  pub period : e.period ≡ (ask_of q.asks i).period
  pub bound : AsksBound (entry_of t.entries i) (ask_of q.asks i).bound e.bound
  pub shortfall : e.shortfall ≡ shortfall_at t i q.slot
  pub offset : e.offset ≡ 0

-- Rule 1: the entries at the request slot. Each id that the record lists enters, and every other keeps its shortfall and nothing else.
pub record AtRequest (t : Timetable) (q : Request) (es : List Entry) : Type 0 where
  pub count : length es ≡ IDS
  pub listed : (i : ℕ) → i < IDS → 0 < (ask_of q.asks i).period → Enters t q i (entry_of es i)
  pub absent : (i : ℕ) → i < IDS → (ask_of q.asks i).period ≡ 0 → entry_of es i ≡ absent_entry (shortfall_at t i q.slot)

-- A timetable by rules 2 to 4, from the entries that rule 1 gives.
pub record ByRules (q : Request) (start : List Entry) (t : Timetable) : Type 0 where
  -- the asked slot, and the base: request slot + length
  pub slot : t.request ≡ q.slot
  pub base : t.base.0 ≡ q.slot.0 + t.length
  -- rule 2: at most T, and from every shorter length no cyclic placement at all keeps the bounds
  pub limit : t.length ≤ q.limit
  pub shorter : (m : ℕ) → m < t.length → NoPlacement (walked_to start t.owners m)
  -- rule 3: the owners, one for each transition slot; the others are zero
  pub transition : ByRuleThree start t.owners t.length
  pub places : length t.owners ≡ LONGEST
  pub unused : (k : ℕ) → t.length ≤ k → get_or t.owners k 0 ≡ 0
  -- rule 4: the offsets, from the entries walked to the base
  pub placed : ByRuleFour (walked_to start t.owners t.length) (λ i. (entry_of t.entries i).offset)
  -- the starts: the shortfalls at the request slot
  pub start_count : length t.starts ≡ IDS
  pub starts : (i : ℕ) → i < IDS → start_of t i ≡ (entry_of start i).shortfall
  -- each entry is the one walked to the base, at its offset, and where the record does not list the id the one at the request slot
  pub count : length t.entries ≡ IDS
  pub kept : (i : ℕ) → i < IDS → entry_of t.entries i ≡ with_offset (entry_of t.entries i).offset (entry_of (walked_to start t.owners t.length) i)
  pub absent : (i : ℕ) → i < IDS → (ask_of q.asks i).period ≡ 0 → entry_of t.entries i ≡ entry_of start i

-- An acceptance: a timetable by the rules, number and place 0, a try for each length up to the one accepted, and the answer record in the area.
pub record Accepted (t : Timetable) (q : Request) (before : List ℕ) (r : Outcome) (after : List ℕ) : Type 0 where
  pub start : List Entry
  pub starts : AtRequest t q start
  pub rules : ByRules q start r.timetable
  pub number : r.number ≡ ACCEPTED
  pub place : r.place ≡ 0
  pub tries : r.tries ≡ suc r.timetable.length
  pub answer : AnswerStands before r.timetable.length r.timetable.owners r.timetable.entries r.written after

-- How the lengths end in vain at n, from the entries there, and the number of it: slot n, below T, is missed, since whoever gets it a bound is broken; or n
-- is T, whatever slot T would bring.
pub data EndsAt (limit n : ℕ) (there : List Entry) : ℕ → Type 0 where
  missed : n < limit → AnyoneBreaks there → EndsAt limit n there SLOT_MISSED
  exhausted : n ≡ limit → EndsAt limit n there LENGTHS_EXHAUSTED

-- No length up to T gives a schedule: each length up to n is passed over, and there they end, with this number.
pub record Wanting (t : Timetable) (q : Request) (n number : ℕ) : Type 0 where
  pub start : List Entry
  pub starts : AtRequest t q start
  pub owners : List ℕ
  pub transition : ByRuleThree start owners n
  pub passed : (m : ℕ) → m ≤ n → NoPlacement (walked_to start owners m)
  pub ends : EndsAt q.limit n (walked_to start owners n) number

-- What a refusal returns beside its number, place and tries: no bytes written, and the timetable as given.
abbrev pub refused_with : Timetable → ℕ → ℕ → ℕ → Outcome
refused_with t number place tries = record { number = number; place = place; tries = tries; written = 0; timetable = t }

-- What the bytes s of a request get from a timetable and an area: the outcome, and the area afterwards. A refusal leaves the area as it was.
pub data Gives (t : Timetable) (s before : List ℕ) : Outcome → List ℕ → Type 0 where
  -- a refusal before the search
  early : (read : ReadRequest) → RequestRead s read → (x : Refusal) → StagesSay t read (length before) (Refused x)
      → Gives t s before (refused_with t x.number x.place 0) before
  -- a schedule
  schedule : (read : ReadRequest) → RequestRead s read → StagesSay t read (length before) Passed → (r : Outcome) (after : List ℕ)
      → Accepted t (requested read) before r after → Gives t s before r after
  -- the refusal for want of a schedule: its place is the length at which they end, with a try for each length passed over
  wanting : (read : ReadRequest) → RequestRead s read → StagesSay t read (length before) Passed → (n number : ℕ) → Wanting t (requested read) n number
      → Gives t s before (refused_with t number n (suc n)) before
