-- docs/RULES.md 7.2: a chain of stages. The first refusal wins.
use Rattle.std.specs.Prelude.{Bool, cond, List, [], ◌∷◌, ℕ, Ok, Err}
use Rattle.std.proofs.Math.Option.{Option, none, some}
use Rattle.std.specs.declared.result.Result.{Result}
use Rattle.numbers.specs.declared.Refusal.{Refusal}
use Rattle.numbers.specs.Numbers.{refusal}

-- What a stage says of a request: that it is passed, or its refusal.
abbrev pub Verdict : Type 0
Verdict = Result (Unit {0}) Refusal

-- It is passed,
abbrev pub Passed : Verdict
Passed = Ok tt

-- or refused.
abbrev pub Refused : Refusal → Verdict
Refused r = Err r

-- Helper of stage_sound: a stage that refuses where its test says so, with place 0.
abbrev pub refused_if : Bool → ℕ → Verdict
refused_if test number = cond test (Refused (refusal number 0)) Passed

-- Helper of stage_overfull: a stage that refuses an id, if it names one.
unfoldable pub refused_at : ℕ → Option ℕ → Verdict
refused_at number none = Passed
refused_at number (some i) = Refused (refusal number i)

-- Helper of first_of: what a stage says, or where it is passed those after it.
unfoldable pub or_else : Verdict → Verdict → Verdict
or_else (Ok _) next = next
or_else (Err r) next = Err r

-- What a chain of stages says: the first refusal, or that all are passed.
unfoldable pub first_of : List Verdict → Verdict
first_of [] = Passed
first_of (stage ∷ rest) = or_else stage (first_of rest)

-- What a stage is to say and those after it, as statements: the first refusal wins.
pub data Then (A B : Verdict → Type 0) : Verdict → Type 0 where
  refused : (r : Refusal) → A (Refused r) → Then A B (Refused r)
  passed : (v : Verdict) → A Passed → B v → Then A B v
