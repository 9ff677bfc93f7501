-- docs/RULES.md 6 and 7.1: when a field is read and when it is refused, and what is read, as statements.
use Rattle.std.specs.Prelude.{get_or, length, set, Bool, true, false, ◌&&◌, List, ◌⊎◌, ◌≡◌, ℕ, suc, ◌+◌, ◌^◌, ◌≤◌, ◌<◌, Ok, Err}
use Rattle.records.specs.declared.Ask.{Ask}
use Rattle.records.specs.declared.Listed.{Listed}
use Rattle.numbers.specs.declared.Refusal.{Refusal}
use Rattle.records.specs.declared.Request.{Request}
use Rattle.numbers.specs.Numbers.{BAD_FIELD, OUT_OF_RANGE, NOT_RISING}
use Rattle.records.specs.Request.{ask_of, content_at, is_field, is_listing, no_asks, number_at, ReadRequest, Reading}
use Rattle.slots.specs.Clocks.{core_slot}
use Rattle.slots.specs.Limits.{IDS, LAST_SLOT, LONGEST, LARGEST_BOUND}
use Rattle.timetable.specs.Sound.{Period, is_bound}

-- What a field that holds a number gives: 3 for its form, then 4 for its value, then the number.
pub data NumberRead (s : List ℕ) (at tag size most : ℕ) : Reading ℕ → Type 0 where
  wrong : is_field s at tag size ≡ false → NumberRead s at tag size most (Err (record { number = BAD_FIELD; place = at }))
  high : is_field s at tag size ≡ true → most < number_at s (at + 3) size
      → NumberRead s at tag size most (Err (record { number = OUT_OF_RANGE; place = at }))
  value : is_field s at tag size ≡ true → number_at s (at + 3) size ≤ most → NumberRead s at tag size most (Ok (number_at s (at + 3) size))

-- The two forms of a tag 3 field, each with the place after it, its bound and whether its values are in range.
pub data ListedForm (s : List ℕ) (at : ℕ) : ℕ → ℕ → Bool → Type 0 where
  long : is_field s at 3 3 ≡ true → ListedForm s at (at + 6) (content_at s at 2) (is_listing s at && is_bound (content_at s at 2))
  short : is_field s at 3 3 ≡ false → is_field s at 3 2 ≡ true → ListedForm s at (at + 5) 0 (is_listing s at)

-- What a tag 3 field gives: 3 for its form, then 4 for its values, then 5 for its id, then what it lists, with the place after it.
pub data ListedRead (s : List ℕ) (at floor : ℕ) : Reading Listed → Type 0 where
  wrong : is_field s at 3 3 ≡ false → is_field s at 3 2 ≡ false → ListedRead s at floor (Err (record { number = BAD_FIELD; place = at }))
  high : {next bound : ℕ} {range : Bool} → ListedForm s at next bound range → range ≡ false
      → ListedRead s at floor (Err (record { number = OUT_OF_RANGE; place = at }))
  low : {next bound : ℕ} {range : Bool} → ListedForm s at next bound range → range ≡ true → content_at s at 0 < floor
      → ListedRead s at floor (Err (record { number = NOT_RISING; place = at }))
  value : {next bound : ℕ} {range : Bool} → ListedForm s at next bound range → range ≡ true → floor ≤ content_at s at 0
      → ListedRead s at floor
      (Ok (record { id = content_at s at 0; ask = record { period = 2 ^ content_at s at 1; bound = bound }; next = next }))

-- How a listing is read from a place up to an end: nothing is ahead, or a field and the rest, or a field that is refused.
pub data ListingRead (s : List ℕ) (end : ℕ) : ℕ → ℕ → List Ask → Reading (List Ask) → Type 0 where
  none : {at floor : ℕ} {asks : List Ask} → end ≤ at → ListingRead s end at floor asks (Ok asks)
  more : {at floor next bound : ℕ} {range : Bool} {asks : List Ask} {x : Reading (List Ask)} → at < end → ListedForm s at next bound range
      → range ≡ true → floor ≤ content_at s at 0
      → ListingRead s end next (suc (content_at s at 0)) (set asks (content_at s at 0) (record { period = 2 ^ content_at s at 1; bound = bound })) x
      → ListingRead s end at floor asks x
  stop : {at floor : ℕ} {asks : List Ask} {r : Refusal} → at < end → ListedRead s at floor (Err r) → ListingRead s end at floor asks (Err r)

-- Tag 1, length 8: the request slot, at most 2^48 - 1.
abbrev pub SlotRead : List ℕ → ℕ → Reading ℕ → Type 0
SlotRead s at = NumberRead s at 1 8 LAST_SLOT

-- Tag 2, length 1: T, 0 to 64.
abbrev pub LimitRead : List ℕ → ℕ → Reading ℕ → Type 0
LimitRead s at = NumberRead s at 2 1 LONGEST

-- How a request is read: the field of the slot, of T, then the listing up to the record's end; the first that is refused ends it.
pub data RequestRead (s : List ℕ) : ReadRequest → Type 0 where
  no_slot : {r : Refusal} → SlotRead s 0 (Err r) → RequestRead s (Err r)
  no_limit : {slot : ℕ} {r : Refusal} → SlotRead s 0 (Ok slot) → LimitRead s 11 (Err r) → RequestRead s (Err r)
  no_listing : {slot limit : ℕ} {r : Refusal} → SlotRead s 0 (Ok slot) → LimitRead s 11 (Ok limit)
      → ListingRead s (length s) 15 0 no_asks (Err r) → RequestRead s (Err r)
  whole : {slot limit : ℕ} {asks : List Ask} → SlotRead s 0 (Ok slot) → LimitRead s 11 (Ok limit)
      → ListingRead s (length s) 15 0 no_asks (Ok asks) → RequestRead s (Ok (record { slot = core_slot slot; limit = limit; asks = asks }))

-- An id is not listed, or its period is 2^k and its bound at most 8, which is 0 where its field was short.
abbrev pub AskRange : Ask → Type 0
AskRange a = ((a.period ≡ 0) × (a.bound ≡ 0)) ⊎ (Period a.period × (a.bound ≤ LARGEST_BOUND))

-- One ask in range for each id.
pub record AsksRange (asks : List Ask) : Type 0 where
  pub count : length asks ≡ IDS
  pub each : (i : ℕ) → i < IDS → AskRange (ask_of asks i)

-- A request in range.
pub record RequestRange (q : Request) : Type 0 where
  pub slot : q.slot.0 ≤ LAST_SLOT
  pub limit : q.limit ≤ LONGEST
  pub asks : AsksRange q.asks

-- A refusal of reading: its number is 3, 4 or 5, and its place in the record or at its end.
pub record RefusalRange (s : List ℕ) (r : Refusal) : Type 0 where
  pub low : BAD_FIELD ≤ r.number
  pub high : r.number ≤ NOT_RISING
  pub inside : r.place ≤ length s

-- Every element of a record is a byte.
abbrev pub Bytes : List ℕ → Type 0
Bytes s = (i : ℕ) → get_or s i 0 < 256
