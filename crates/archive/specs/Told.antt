-- docs/RULES.md 6.11, 6.12 and 13.3: what is told of a result, figure by figure: a number, a place, and how many bytes were written.
use Rattle.std.specs.Prelude.{ℕ, Ok, Err}
use Rattle.numbers.specs.Numbers.{ACCEPTED}
use Rattle.records.specs.Request.{Reading}

-- The number: that of the refusal, else 0.
unfoldable pub told_number : {A : Type 0} → Reading A → ℕ
told_number (Ok x) = ACCEPTED
told_number (Err r) = r.number

-- The place: that of the refusal, else 0.
unfoldable pub told_place : {A : Type 0} → Reading A → ℕ
told_place (Ok x) = 0
told_place (Err r) = r.place

-- The bytes written: 0 after a refusal.
unfoldable pub told_written : Reading ℕ → ℕ
told_written (Ok n) = n
told_written (Err r) = 0
