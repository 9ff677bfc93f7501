-- The answer of an accepted request is read back as the schedule of its timetable: its length, its owners and its offsets. Assumes nothing.
use lib.ListN.{length, length-map, get_or-eq_default}
use mathlib.Core.Bool.{true}
use mathlib.Core.List.{List}
use mathlib.Core.Path.{◌≡◌, ap, ◌∙◌}
use native.Mathlib.Decide.{dec_lt}
use native.Mathlib.Omega.{arith}
use Prim.Native.Nat.{ℕ, ◌<◌}
use Rattle.std.specs.Prelude.{Ok}
use Rattle.archive.proofs.AnswerBack.{answer_back, entries_record}
use Rattle.archive.specs.AnswerRead.{entry_offset, read_answer, schedule_of}
use Rattle.archive.specs.AnswerReads.{ScheduleRange}
use Rattle.change.proofs.Answers.{accepted_continues, accepted_owners, record_accepted}
use Rattle.change.specs.Change.{answer, record_of}
use Rattle.numbers.specs.Numbers.{ACCEPTED}
use Rattle.slots.proofs.Below.{true_false}
use Rattle.slots.specs.Limits.{IDS}
use Rattle.timetable.specs.declared.Entry.{Entry}
use Rattle.timetable.specs.declared.Timetable.{Timetable}
use Rattle.timetable.specs.Timetable.{entry_of, is_listed, no_entry}

-- A listed id is below 32.
listed_id : (es : List Entry) (i : ℕ) → length es ≡ IDS → is_listed (entry_of es i) ≡ true → i < IDS
listed_id es i c l = by (dec_lt i IDS)
  where
    by : Dec (i < IDS) → i < IDS
    by (yes h) = h
    by (no h) = absurd (true_false l (rw (get_or-eq_default es no_entry {n = i} (omega (arith, c)))))

module _ (t : Timetable) (s : List ℕ) (area : ℕ) (e : (answer t s area).number ≡ ACCEPTED) where
  -- The schedule of an accepted request's timetable is in range.
  accepted_range : ScheduleRange (schedule_of (answer t s area).timetable)
  accepted_range =
      let c = accepted_continues t s area e in
      let sound = c.sound in
      let es = (answer t s area).timetable.entries in
      record {
        short = sound.size;
        slots = accepted_owners t s area e;
        owner = λ k h. listed_id es _ c.shape (sound.owners k h);
        unused = λ k h b. sound.unused k b h;
        ids = length-map es entry_offset ∙ c.shape;
      }

  -- Reading the answer's record gives that schedule.
  pub accepted_read : read_answer (record_of (answer t s area)) ≡ Ok (schedule_of (answer t s area).timetable)
  accepted_read =
      let n = (answer t s area).timetable in
      ap read_answer (record_accepted (answer t s area) e ∙ entries_record n.length n.owners n.entries)
      ∙ answer_back (schedule_of n) accepted_range
