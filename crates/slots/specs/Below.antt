-- Helpers of the definitions of every layer: questions about the numbers below a number: ids, slots of a cycle, places of a list.
use Rattle.std.specs.Prelude.{Bool, true, cond, ◌&&◌, ℕ, zero, suc, ◌+◌}
use Rattle.std.proofs.Math.Option.{Option, none, some}

-- The test passes for every number below n.
unfoldable pub every : ℕ → (ℕ → Bool) → Bool
every zero test = true
every (suc n) test = every n test && test n

-- The lowest number below n for which the test passes, or none.
unfoldable pub first : ℕ → (ℕ → Bool) → Option ℕ
first zero test = none
first (suc n) test = elim (first n test) [ none ↦ cond (test n) (some n) none | some i ↦ some i ]

-- How many numbers below n pass the test.
unfoldable pub count : ℕ → (ℕ → Bool) → ℕ
count zero test = 0
count (suc n) test = count n test + cond (test n) 1 0
