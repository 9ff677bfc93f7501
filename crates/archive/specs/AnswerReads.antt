-- docs/RULES.md 6.8 to 6.10: what reading an answer gives, said of the record's bytes and of what is read, not of how it is read.
use Rattle.std.specs.Prelude.{get_or, length, true, false, List, ◌≢◌, ◌⊎◌, ◌≡◌, ℕ, ◌+◌, ◌≤◌, ◌<◌, Ok, Err, Some, None}
use Rattle.std.specs.declared.option.Option.{Option}
use Rattle.archive.specs.AnswerRead.{floor_at, id_offset, step, told_length, with_field, ReadAnswer, ReadField}
use Rattle.archive.specs.declared.AnswerField.{AnswerField}
use Rattle.archive.specs.declared.AnswerField.TheVariants.{Length, Owners, Offset}
use Rattle.archive.specs.declared.Schedule.{Schedule}
use Rattle.numbers.specs.declared.Refusal.{Refusal}
use Rattle.numbers.specs.Numbers.{BAD_FIELD}
use Rattle.records.specs.Request.{content_at, is_field, Reading}
use Rattle.slots.specs.Limits.{IDS, LONGEST}

-- 3 at the place of the field, where the reader stays. (Where the record ends with a required field due, that place is its length.)
abbrev pub bad_field : ℕ → ReadField
bad_field at = Err (record { number = BAD_FIELD; place = at })

-- An owner above 31 among those that the record's owners' field holds.
abbrev pub WrongOwner : List ℕ → Type 0
WrongOwner s = (k : ℕ) × (k < told_length s) × (IDS ≤ content_at s 4 k)

-- What stands at a place of a record: first the length, then the owners, behind them an id with its offset at a time, or nothing more; each in the
-- controller's form, or 3 at its place.
pub data FieldRead (s : List ℕ) : ℕ → ReadField → Type 0 where
  -- tag 10 hex, length 1: at most 64
  size : is_field s 0 0x10 1 ≡ true → told_length s ≤ LONGEST → FieldRead s 0 (step (Length (told_length s)) 4)
  no_length : (is_field s 0 0x10 1 ≡ false) ⊎ (LONGEST < told_length s) → FieldRead s 0 (bad_field 0)
  -- tag 11 hex: exactly that many owners, each 0 to 31
  owners : told_length s ≤ LONGEST → is_field s 4 0x11 (told_length s) ≡ true → ((k : ℕ) → k < told_length s → content_at s 4 k < IDS)
      → FieldRead s 4 (step (Owners (told_length s)) (7 + told_length s))
  no_owners : (LONGEST < told_length s) ⊎ (is_field s 4 0x11 (told_length s) ≡ false) ⊎ WrongOwner s → FieldRead s 4 (bad_field 4)
  -- tag 12 hex, length 2: an id, 0 to 31 and above the one before, and any byte as offset
  offset : {at : ℕ} → at ≢ 0 → at ≢ 4 → is_field s at 0x12 2 ≡ true → content_at s at 0 < IDS → floor_at s at ≤ content_at s at 0
      → FieldRead s at (step (Offset (content_at s at 0) (content_at s at 1)) (at + 5))
  no_offset_field : {at : ℕ} → at ≢ 0 → at ≢ 4 → at < length s
      → (is_field s at 0x12 2 ≡ false) ⊎ (IDS ≤ content_at s at 0) ⊎ (content_at s at 0 < floor_at s at) → FieldRead s at (bad_field at)
  end : {at : ℕ} → at ≢ 0 → at ≢ 4 → length s ≤ at → FieldRead s at (Ok None)

-- What the reader tells at a place, and its place afterwards.
pub data ReaderStep (s : List ℕ) (at : ℕ) : Reading (Option AnswerField) → ℕ → Type 0 where
  -- a field: it moves on behind it
  moves : {f : AnswerField} {next : ℕ} → FieldRead s at (step f next) → ReaderStep s at (Ok (Some f)) next
  -- nothing more: it stays
  rests : FieldRead s at (Ok None) → ReaderStep s at (Ok None) at
  -- a field that is refused: it stays
  stays : {r : Refusal} → FieldRead s at (Err r) → ReaderStep s at (Err r) at

-- How an answer is read from a place on, added to what was read before: a field and then the rest, or nothing more, or a field that is refused.
pub data AnswerRead (s : List ℕ) : ℕ → Schedule → ReadAnswer → Type 0 where
  more : {at next : ℕ} {f : AnswerField} {x : Schedule} {y : ReadAnswer} → FieldRead s at (step f next) → at < next
      → AnswerRead s next (with_field s x f) y → AnswerRead s at x y
  whole : {at : ℕ} {x : Schedule} → FieldRead s at (Ok None) → AnswerRead s at x (Ok x)
  stop : {at : ℕ} {x : Schedule} {r : Refusal} → FieldRead s at (Err r) → AnswerRead s at x (Err r)

-- Nothing is told: length 0, all owners 0, no id listed.
pub record NothingTold (x : Schedule) : Type 0 where
  pub size : x.length ≡ 0
  pub owner : (k : ℕ) → get_or x.owners k 0 ≡ 0
  pub unlisted : (i : ℕ) → id_offset x.offsets i ≡ None

-- A schedule in range: at most 64 transition slots with owners 0 to 31 and 0 for the others.
pub record ScheduleRange (x : Schedule) : Type 0 where
  pub short : x.length ≤ LONGEST
  pub slots : length x.owners ≡ LONGEST
  pub owner : (k : ℕ) → k < x.length → get_or x.owners k 0 < IDS
  pub unused : (k : ℕ) → x.length ≤ k → k < LONGEST → get_or x.owners k 0 ≡ 0
  pub ids : length x.offsets ≡ IDS
