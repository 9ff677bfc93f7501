-- `is_period` takes the nine powers of two from 1 to 256, one by one. Assumes nothing.
use mathlib.Core.Path.{sym}
use native.Mathlib.Omega.{arith}
use Rattle.timetable.proofs.SoundLaws.{period_above, period_low, period_not}
use Rattle.timetable.proofs.soundness.is_period.Goals as goal

pub returns-in_default : goal.returns-in_default
returns-in_default c = sym (period_not c.args.p (λ h. omega arith) (λ h. omega arith) (λ h. omega arith))

pub returns-in_default-2 : goal.returns-in_default-2
returns-in_default-2 c = sym (period_not c.args.p (λ h. omega arith) (λ h. omega arith) (λ h. omega arith))

pub returns-in-1 : goal.returns-in-1
returns-in-1 c = sym (period_above c.args.p c.in-1.is)

pub returns-in-1-2 : goal.returns-in-1-2
returns-in-1-2 c = sym (period_low c.args.p (omega arith) (omega arith))
