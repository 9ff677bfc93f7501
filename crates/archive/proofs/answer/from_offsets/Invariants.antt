-- The invariant: what is read from `at` on, added to what was read so far, is what is read from the first place on. Assumes nothing.
use mathlib.Core.Logic.{◌≢◌}
use Prim.Native.Nat.{◌-◌}
use lib.ListN.{length}
use Rattle.archive.proofs.AnswerSteps.{AnswerRead}
use Rattle.archive.specs.AnswerRead.{ReadAnswer}
use Rattle.archive.proofs.answer.from_offsets.Given as goal

abbrev pub invariant-loop-id : goal.invariant-loop-id
invariant-loop-id l =
    (l.at ≢ 0) × (l.at ≢ 4) × ((y : ReadAnswer) → AnswerRead l.s l.at l.x y → AnswerRead l.s l.from l.initial.x y)

abbrev pub decreases-loop-id : goal.decreases-loop-id
decreases-loop-id l = length l.s - l.at
