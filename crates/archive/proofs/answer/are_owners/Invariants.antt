-- The invariant: it is answered whether each of the owners below n is 0 to 31. Assumes nothing.
use lib.Dec.{ltb}
use mathlib.Core.Bool.{Bool}
use mathlib.Core.List.{List}
use mathlib.Core.Path.{◌≡◌}
use Prim.Native.Nat.{ℕ}
use Rattle.records.specs.Request.{content_at}
use Rattle.slots.specs.Below.{every}
use Rattle.slots.specs.Limits.{IDS}
use Rattle.archive.proofs.answer.are_owners.Given as goal

-- Owner k is 0 to 31.
abbrev pub test : List ℕ → ℕ → Bool
test s k = ltb (content_at s 4 k) IDS

abbrev pub invariant-loop-n : goal.invariant-loop-n
invariant-loop-n l = l.are ≡ every l.n (test l.s)
