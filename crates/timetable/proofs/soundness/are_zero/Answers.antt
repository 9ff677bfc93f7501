-- `are_zero` carries the answer so far in the bits that are set. Assumes nothing.
use Rattle.std.proofs.Common.{ℕ, eqb, get_or, refl}
use Rattle.slots.specs.Below.{every}
use Rattle.timetable.proofs.Bits.{none_more}
use Rattle.timetable.proofs.ScanLaws.{every_next}
use Rattle.timetable.proofs.soundness.are_zero.Goals as goal

pub loop-owner-init : goal.loop-owner-init
unfolding every
loop-owner-init c = refl

pub loop-owner-preserved : goal.loop-owner-preserved
loop-owner-preserved c =
    let l = c.loop-owner in
    every_next (λ (n : ℕ). eqb (get_or c.args.owners.now n 0) 0) l.owner-index _ _ _ (none_more l.used _) l.invariant refl
