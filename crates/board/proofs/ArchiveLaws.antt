-- What reading an answer, whole or a field, and writing a request return and leave, from what the functions below them gave. Assumes nothing.
use borrow.Author.Tests.{le-leb, lt-leb}
use lib.ListN.{length}
use lib.Seq.{sets}
use mathlib.Core.List.{List}
use mathlib.Core.Path.{◌≡◌, refl, sym, ap, ◌∙◌}
use Prim.Native.Nat.{ℕ, ◌≤◌, ◌<◌}
use Rattle.std.specs.Prelude.{Ok, Err, Some, None}
use Rattle.records.specs.Request.{Reading}
use Rattle.archive.specs.declared.Schedule.{Schedule}
use Rattle.archive.proofs.AnswerForms.{answer_range}
use Rattle.archive.specs.AnswerRead.{field_of, place_after, read_answer, step, ReadAnswer, ReadField}
use Rattle.archive.specs.declared.AnswerField.{AnswerField}
use Rattle.archive.specs.declared.AnswerStep.{AnswerStep}
use Rattle.archive.specs.declared.AnswerField.TheVariants.{Length, Owners, Offset}
use Rattle.archive.specs.RequestWrite.{area_written, write_request}
use Rattle.archive.specs.Told.{told_number, told_place, told_written}
use Rattle.board.proofs.ScheduleLaws.{schedule_stands}
use Rattle.board.specs.Archive.{AnswerTold, FieldTold, RequestTold, SCHEDULE, ScheduleStands, area_read, field_first, field_second, field_tag, read_number, read_place, schedule_bytes}
use Rattle.numbers.specs.declared.Refusal.{Refusal}
use Rattle.numbers.specs.Numbers.{ACCEPTED, SMALL_AREA}
use Rattle.slots.specs.Clocks.{core_slot}

-- An answer as it was read.
module _ (answer area : List ℕ) (read : ReadAnswer) (e : read ≡ read_answer answer) where
  -- A refused one tells its refusal.
  pub answer_refused : (r : Refusal) → read ≡ Err r → AnswerTold answer area r.number r.place area
  unfolding read_number read_place area_read
  answer_refused r q =
      let p : read_answer answer ≡ Err r = sym e ∙ q in
      record { number_told = rw (p, read_number) refl; place_told = rw (p, read_place) refl; area_told = rw (p, area_read) refl }

  module _ (x : Schedule) (q : read ≡ Ok x) where
    -- One that is read is refused for an area that is too small.
    pub area_small : length area < SCHEDULE → AnswerTold answer area SMALL_AREA 0 area
    unfolding read_number read_place area_read
    area_small h =
        let p : read_answer answer ≡ Ok x = sym e ∙ q in
        let b = lt-leb SCHEDULE (length area) h in
        record {
          number_told = rw (p, read_number) (rw b refl);
          place_told = rw (p, read_place) refl;
          area_told = rw (p, area_read) (rw b refl);
        }

    -- Else it leaves its schedule in the area.
    pub answer_whole : (after : List ℕ) → SCHEDULE ≤ length area → after ≡ sets area 0 (schedule_bytes x) → AnswerTold answer area ACCEPTED 0 after
    unfolding read_number read_place area_read
    answer_whole after h w =
        let p : read_answer answer ≡ Ok x = sym e ∙ q in
        let b = le-leb SCHEDULE (length area) h in
        record {
          number_told = rw (p, read_number) (rw b refl);
          place_told = rw (p, read_place) refl;
          area_told = rw (p, area_read) (rw b w);
        }

-- Where an answer is read, and the area has room for it, its schedule stands in the area.
pub answer_stands : (answer area : List ℕ) (x : Schedule) → read_answer answer ≡ Ok x → SCHEDULE ≤ length area
    → ScheduleStands x area (area_read answer area)
unfolding area_read
answer_stands answer area x e room =
    let r = answer_range answer x e in
    rw (e, area_read) (rw (le-leb SCHEDULE (length area) room) (schedule_stands x r.slots r.ids area room))

-- A request as it was written.
module _ (slot limit : ℕ) (listing area after : List ℕ) (p : after ≡ area_written (core_slot slot) limit listing area) where
  written_as : (w : Reading ℕ) → w ≡ write_request (core_slot slot) limit listing (length area)
      → RequestTold slot limit listing area (told_number w) (told_place w) (told_written w) after
  written_as w e = record { number_told = ap told_number e; place_told = ap told_place e; written_told = ap told_written e; area_told = p }

  pub request_told : (n : ℕ) → Ok n ≡ write_request (core_slot slot) limit listing (length area) → RequestTold slot limit listing area ACCEPTED 0 n after
  unfolding told_number told_place told_written
  request_told n e = written_as (Ok n) e

  pub request_refused : (r : Refusal) → Err r ≡ write_request (core_slot slot) limit listing (length area)
      → RequestTold slot limit listing area r.number r.place 0 after
  unfolding told_number told_place told_written
  request_refused r e = written_as (Err r) e

-- A field as it was read, and the place after it.
module _ (at : ℕ) (read : ReadField) where
  told : (x : ReadField) → x ≡ read
      → FieldTold at read (told_number x) (told_place x) (field_tag (field_of x)) (field_first (field_of x)) (field_second (field_of x)) (place_after at x)
  told x p = record {
    number_told = ap told_number p;
    place_told = ap told_place p;
    tag_told = ap (λ (y : ReadField). field_tag (field_of y)) p;
    first_told = ap (λ (y : ReadField). field_first (field_of y)) p;
    second_told = ap (λ (y : ReadField). field_second (field_of y)) p;
    next_told = ap (place_after at) p;
  }

  -- A step with this field.
  pub stood : (x : AnswerStep) (f : AnswerField) → x.field ≡ f → Ok (Some x) ≡ read → step f x.next ≡ read
  stood x f e p = sym (ap (λ (g : AnswerField). step g x.next) e) ∙ p

  -- The length.
  pub length_told : (n next : ℕ) → step (Length n) next ≡ read → FieldTold at read ACCEPTED 0 0x10 n 0 next
  unfolding told_number told_place field_of field_tag field_first field_second place_after
  length_told n next p = told (step (Length n) next) p

  -- The owners.
  pub owners_told : (n next : ℕ) → step (Owners n) next ≡ read → FieldTold at read ACCEPTED 0 0x11 n 0 next
  unfolding told_number told_place field_of field_tag field_first field_second place_after
  owners_told n next p = told (step (Owners n) next) p

  -- An id and its offset.
  pub offset_told : (id offset next : ℕ) → step (Offset id offset) next ≡ read → FieldTold at read ACCEPTED 0 0x12 id offset next
  unfolding told_number told_place field_of field_tag field_first field_second place_after
  offset_told id offset next p = told (step (Offset id offset) next) p

  -- Nothing more.
  pub end_told : Ok None ≡ read → FieldTold at read ACCEPTED 0 0 0 0 at
  unfolding told_number told_place field_of field_tag field_first field_second place_after
  end_told p = told (Ok None) p

  -- A refusal.
  pub refusal_told : (r : Refusal) → Err r ≡ read → FieldTold at read r.number r.place 0 0 0 at
  unfolding told_number told_place field_of field_tag field_first field_second place_after
  refusal_told r p = told (Err r) p
