-- The answer of a request that is granted or refused.
use Rattle.std.specs.Prelude.{Err, Ok, ℕ}
use Rattle.std.specs.declared.result.Result.{Result}
use Rattle.change.specs.declared.Answer.{Answer}
use Rattle.change.specs.declared.Refused.{Refused}
use Rattle.numbers.specs.Numbers.{ACCEPTED}
use Rattle.timetable.specs.declared.Timetable.{Timetable}

-- Helper of grant: an acceptance, by the lengths searched, or a refusal; with the timetable that is in force then.
abbrev pub told : Timetable → Result ℕ Refused → Answer
told t (Ok tries) = record { number = ACCEPTED; place = 0; tries = tries; timetable = t }
told t (Err r) = record { number = r.refusal.number; place = r.refusal.place; tries = r.tries; timetable = t }
