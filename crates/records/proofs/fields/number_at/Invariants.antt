-- The invariant: `number` is the number that the bytes so far write. Assumes nothing.
use Rattle.std.proofs.Common.{◌≡◌}
use Rattle.records.specs.Request.{number_at}
use Rattle.records.proofs.fields.number_at.Given as goal

abbrev pub invariant-loop-b : goal.invariant-loop-b
invariant-loop-b l = l.number ≡ number_at l.s l.from l.b-index
