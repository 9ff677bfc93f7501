-- docs/RULES.md 10.6 to 10.8: what the functions in C tell of an archived answer, whole and a field at a time, and of writing a request.
use Rattle.std.specs.Prelude.{leb, get_or, length, cond, List, [], ◌∷◌, ◌++◌, map, ◌≡◌, ℕ, ◌+◌, ◌≤◌, ◌<◌, Ok, Err, Some, None, is_some}
use Rattle.std.proofs.lemmas.List.Edits.{sets}
use Rattle.std.specs.declared.option.Option.{Option}
use Rattle.std.specs.Option.{unwrap_or}
use Rattle.archive.specs.AnswerRead.{field_of, id_offset, place_after, read_answer, ReadField}
use Rattle.archive.specs.declared.AnswerField.{AnswerField}
use Rattle.archive.specs.declared.AnswerField.TheVariants.{Length, Owners, Offset}
use Rattle.archive.specs.declared.Schedule.{Schedule}
use Rattle.archive.specs.RequestWrite.{area_written, write_request}
unfoldable pub use Rattle.archive.specs.Told.{told_number, told_place, told_written}
use Rattle.numbers.specs.Numbers.{ACCEPTED, SMALL_AREA}
use Rattle.records.specs.Request.{Reading}
use Rattle.slots.specs.Clocks.{core_slot}
use Rattle.slots.specs.Limits.{IDS, LONGEST}

-- A schedule has this many bytes.
abbrev pub SCHEDULE : ℕ
SCHEDULE = 129

-- For each id whether it is listed stands from here on.
abbrev pub LISTED_AT : ℕ
LISTED_AT = 65

-- The offsets stand from here on.
abbrev pub OFFSETS_AT : ℕ
OFFSETS_AT = 97

-- Of an id: 1 if it is listed, and else 0.
abbrev pub listed_byte : Option ℕ → ℕ
listed_byte p = cond (is_some p) 1 0

-- Of an id: its offset, 0 if it is not listed.
abbrev pub offset_byte : Option ℕ → ℕ
offset_byte p = unwrap_or p 0

-- The bytes of a schedule: the length, the owners, for each id whether it is listed, and its offset.
unfoldable pub schedule_bytes : Schedule → List ℕ
schedule_bytes x = (x.length ∷ []) ++ x.owners ++ map listed_byte x.offsets ++ map offset_byte x.offsets

-- Reading an answer, with an area of this many bytes: the record's refusal, or else 2 for an area under 129 bytes.
unfoldable pub read_number : List ℕ → ℕ → ℕ
read_number answer room = elim (read_answer answer) [ Ok x ↦ cond (leb SCHEDULE room) ACCEPTED SMALL_AREA | Err r ↦ r.number ]

-- The place that reading an answer tells: that of the record's refusal, else 0.
unfoldable pub read_place : List ℕ → ℕ
read_place answer = elim (read_answer answer) [ Ok x ↦ 0 | Err r ↦ r.place ]

-- The area after reading an answer: the schedule at its start and the bytes behind as they were, or after a refusal every byte as it was.
unfoldable pub area_read : List ℕ → List ℕ → List ℕ
area_read answer area =
    elim (read_answer answer) [
      | Ok x ↦ cond (leb SCHEDULE (length area)) (sets area 0 (schedule_bytes x)) area
      | Err r ↦ area
    ]

-- The area after a schedule was told in it, figure by figure at its byte.
pub record ScheduleStands (x : Schedule) (before after : List ℕ) : Type 0 where
  pub size : get_or after 0 0 ≡ x.length
  pub owner : (k : ℕ) → k < LONGEST → get_or after (1 + k) 0 ≡ get_or x.owners k 0
  pub listed : (i : ℕ) → i < IDS → get_or after (65 + i) 0 ≡ cond (is_some (id_offset x.offsets i)) 1 0
  pub offset : (i : ℕ) → i < IDS → get_or after (97 + i) 0 ≡ unwrap_or (id_offset x.offsets i) 0
  -- the bytes behind the 129 as they were
  pub rest : (n : ℕ) → 129 ≤ n → get_or after n 0 ≡ get_or before n 0
  pub same : length after ≡ length before

-- What reading an answer returns and leaves.
pub record AnswerTold (answer area : List ℕ) (number place : ℕ) (area-left : List ℕ) : Type 0 where
  pub number_told : number ≡ read_number answer (length area)
  pub place_told : place ≡ read_place answer
  pub area_told : area-left ≡ area_read answer area

-- What writing a request returns and leaves.
pub record RequestTold (slot limit : ℕ) (listing area : List ℕ) (number place written : ℕ) (area-left : List ℕ) : Type 0 where
  pub number_told : number ≡ told_number (write_request (core_slot slot) limit listing (length area))
  pub place_told : place ≡ told_place (write_request (core_slot slot) limit listing (length area))
  pub written_told : written ≡ told_written (write_request (core_slot slot) limit listing (length area))
  pub area_told : area-left ≡ area_written (core_slot slot) limit listing area

-- The tag that reading a field tells: 0 where nothing is left or the field is refused.
unfoldable pub field_tag : Reading (Option AnswerField) → ℕ
field_tag (Ok (Some (Length n))) = 0x10
field_tag (Ok (Some (Owners n))) = 0x11
field_tag (Ok (Some (Offset id offset))) = 0x12
field_tag (Ok None) = 0
field_tag (Err r) = 0

-- The first byte that reading a field tells: the length, the number of owners, or the id.
unfoldable pub field_first : Reading (Option AnswerField) → ℕ
field_first (Ok (Some (Length n))) = n
field_first (Ok (Some (Owners n))) = n
field_first (Ok (Some (Offset id offset))) = id
field_first (Ok None) = 0
field_first (Err r) = 0

-- The second byte that reading a field tells: the id's offset.
unfoldable pub field_second : Reading (Option AnswerField) → ℕ
field_second (Ok (Some (Length n))) = 0
field_second (Ok (Some (Owners n))) = 0
field_second (Ok (Some (Offset id offset))) = offset
field_second (Ok None) = 0
field_second (Err r) = 0

-- What reading the field at a place returns, and where the reader's place is then.
pub record FieldTold (at : ℕ) (read : ReadField) (number place tag first second next : ℕ) : Type 0 where
  pub number_told : number ≡ told_number read
  pub place_told : place ≡ told_place read
  pub tag_told : tag ≡ field_tag (field_of read)
  pub first_told : first ≡ field_first (field_of read)
  pub second_told : second ≡ field_second (field_of read)
  pub next_told : next ≡ place_after at read
