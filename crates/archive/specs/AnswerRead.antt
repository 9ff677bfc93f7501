-- docs/RULES.md 6.8 to 6.10: reading an answer, field by field and whole.
use Rattle.std.specs.Prelude.{eqb, leb, ltb, get_or, length, replicate, set, Bool, cond, ◌&&◌, List, [], ◌∷◌, ◌++◌, map, ℕ, zero, suc, ◌+◌, ◌-◌, Ok, Err, Some, None, is_some}
use Rattle.std.specs.declared.option.Option.{Option}
use Rattle.std.specs.Option.{unwrap_or}
use Rattle.archive.specs.declared.AnswerField.{AnswerField}
use Rattle.archive.specs.declared.AnswerField.TheVariants.{Length, Owners, Offset}
use Rattle.archive.specs.declared.AnswerStep.{AnswerStep}
use Rattle.archive.specs.declared.Schedule.{Schedule}
use Rattle.numbers.specs.Numbers.{BAD_FIELD, refusal}
use Rattle.records.specs.Answer.{answer_form}
use Rattle.records.specs.Request.{content_at, is_field, Reading}
use Rattle.slots.specs.Below.{every}
use Rattle.slots.specs.Limits.{IDS, LONGEST}
use Rattle.timetable.specs.declared.Entry.{Entry}
use Rattle.timetable.specs.declared.Timetable.{Timetable}
use Rattle.timetable.specs.Timetable.{is_listed}

-- What is said of id i: its offset, or nothing where the answer does not list it.
abbrev pub id_offset : List (Option ℕ) → ℕ → Option ℕ
id_offset offsets i = get_or offsets i None

-- An answer that says nothing.
abbrev pub no_schedule : Schedule
no_schedule = record { length = 0; owners = replicate LONGEST 0; offsets = replicate IDS None }

-- The one record of a schedule.
unfoldable pub schedule_record : Schedule → List ℕ
schedule_record x = answer_form x.length x.owners (λ i. is_some (id_offset x.offsets i)) (λ i. unwrap_or (id_offset x.offsets i) 0)

-- What an entry of a timetable says in an answer.
abbrev pub entry_offset : Entry → Option ℕ
entry_offset e = cond (is_listed e) (Some e.offset) None

-- The schedule of a timetable: the length and the owners of its transition, and each listed id's offset.
abbrev pub schedule_of : Timetable → Schedule
schedule_of t = record { length = t.length; owners = t.owners; offsets = map entry_offset t.entries }

-- The transition's length, as the content of the first field tells it.
abbrev pub told_length : List ℕ → ℕ
told_length s = content_at s 0 0

-- What stands at a place, as it was read: a field, nothing more, or the refusal.
abbrev pub ReadField : Type 0
ReadField = Reading (Option AnswerStep)

-- A field, and the place after it.
abbrev pub step : AnswerField → ℕ → ReadField
step f next = Ok (Some (record { field = f; next = next }))

-- A field of another form than the controller's: 3, at its place.
unfoldable pub refused_at : ℕ → ReadField
refused_at at = Err (refusal BAD_FIELD at)

-- Tag 10 hex, length 1: the transition's length, at most 64.
abbrev pub length_stands : List ℕ → Bool
length_stands s = is_field s 0 0x10 1 && leb (told_length s) LONGEST

-- What is read at the record's start: the transition's length.
unfoldable pub length_field : List ℕ → ReadField
length_field s = cond (length_stands s) (step (Length (told_length s)) 4) (refused_at 0)

-- Each of the owners is 0 to 31.
unfoldable pub are_owners : List ℕ → ℕ → Bool
are_owners s size = every size (λ k. ltb (content_at s 4 k) IDS)

-- The owner of transition slot n, or 0 where the transition does not have it.
unfoldable pub told_owner : List ℕ → ℕ → ℕ
told_owner s n = cond (ltb n (told_length s)) (content_at s 4 n) 0

-- The owners of the first n transition slots.
unfoldable pub owners_below : List ℕ → ℕ → List ℕ
owners_below s zero = []
owners_below s (suc n) = owners_below s n ++ (told_owner s n ∷ [])

-- Tag 11 hex: exactly as many owners as the length says, at most 64, each 0 to 31.
abbrev pub owners_stand : List ℕ → Bool
owners_stand s = leb (told_length s) LONGEST && is_field s 4 0x11 (told_length s) && are_owners s (told_length s)

-- What is read behind the length: how many owners there are.
unfoldable pub owners_field : List ℕ → ReadField
owners_field s = cond (owners_stand s) (step (Owners (told_length s)) (7 + told_length s)) (refused_at 4)

-- The lowest id that the field at a place may have: 0 up to the place behind the owners, else one above that of the field before, five bytes earlier.
unfoldable pub floor_at : List ℕ → ℕ → ℕ
floor_at s at = cond (leb at (7 + told_length s)) 0 (suc (content_at s (at - 5) 0))

-- Tag 12 hex, length 2: an id, 0 to 31 and above the one before, and its offset.
abbrev pub offset_stands : List ℕ → ℕ → Bool
offset_stands s at = is_field s at 0x12 2 && ltb (content_at s at 0) IDS && leb (floor_at s at) (content_at s at 0)

-- What is read behind the owners: an id and its offset.
unfoldable pub offset_field : List ℕ → ℕ → ReadField
offset_field s at = cond (offset_stands s at) (step (Offset (content_at s at 0) (content_at s at 1)) (at + 5)) (refused_at at)

-- What stands at a place: the length at 0, the owners at 4, from there on the offsets up to the record's end.
unfoldable pub field_at : List ℕ → ℕ → ReadField
field_at s at =
    cond (eqb at 0) (length_field s)
    (cond (eqb at 4) (owners_field s)
    (cond (leb (length s) at) (Ok None) (offset_field s at)))

-- A schedule with what one more field of the record says.
unfoldable pub with_field : List ℕ → Schedule → AnswerField → Schedule
with_field s x (Length n) = record { length = n; owners = x.owners; offsets = x.offsets }
with_field s x (Owners n) = record { length = x.length; owners = owners_below s LONGEST; offsets = x.offsets }
with_field s x (Offset id offset) =
    record { length = x.length; owners = x.owners; offsets = set x.offsets id (Some offset) }

-- The field that stands there, if one does.
unfoldable pub field_of : ReadField → Reading (Option AnswerField)
field_of (Ok (Some x)) = Ok (Some x.field)
field_of (Ok None) = Ok None
field_of (Err r) = Err r

-- The place after it. Where nothing more stands or the field is refused, it is the same place.
unfoldable pub place_after : ℕ → ReadField → ℕ
place_after at (Ok (Some x)) = x.next
place_after at (Ok None) = at
place_after at (Err r) = at

-- An answer as it was read.
abbrev pub ReadAnswer : Type 0
ReadAnswer = Reading Schedule

-- What an answer tells of the schedule: what was read, and of one that is refused nothing.
unfoldable pub told_schedule : ReadAnswer → Schedule
told_schedule (Ok x) = x
told_schedule (Err r) = no_schedule

-- An answer as it was read into a schedule that was lent.
abbrev pub read_into : Schedule → Reading (Unit {0}) → ReadAnswer
read_into x (Ok _) = Ok x
read_into x (Err r) = Err r

-- How reading ends: with the refusal of a field, or with what was read. (Behind a field it goes on.)
unfoldable pub read_end : Schedule → ReadField → ReadAnswer
read_end x (Ok f) = Ok x
read_end x (Err r) = Err r

-- Helper of read_from: at most `most` fields from a place on, added to what was read before.
unfoldable pub read_fields : ℕ → List ℕ → ℕ → Schedule → ReadAnswer
read_fields zero s at x = read_end x (field_at s at)
read_fields (suc most) s at x =
    elim (field_at s at) [
      | Ok (Some f) ↦ read_fields most s f.next (with_field s x f.field)
      | Ok None ↦ read_end x (Ok None)
      | Err r ↦ read_end x (Err r)
    ]

-- All fields from a place on, one after the other until nothing is left or one is refused. (As many as the record has bytes are enough.)
unfoldable pub read_from : List ℕ → ℕ → ReadAnswer
read_from s at = read_fields (length s) s at no_schedule

-- A whole answer: its fields from the first on.
abbrev pub read_answer : List ℕ → ReadAnswer
read_answer s = read_from s 0
