-- The loop's invariant of `are_zero` is that no bit is set so far exactly if each owner so far is 0. Assumes nothing.
use Rattle.std.proofs.Common.{◌≡◌, ℕ, eqb, get_or}
use Rattle.slots.specs.Below.{every}
use Rattle.timetable.proofs.soundness.are_zero.Given as goal

abbrev pub invariant-loop-owner : goal.invariant-loop-owner
invariant-loop-owner l = eqb l.used 0 ≡ every l.owner-index (λ (n : ℕ). eqb (get_or l.owners n 0) 0)
