-- The six bytes are the field of the contract. Assumes nothing.
use native.Mathlib.Omega.{arith}
use Rattle.records.proofs.SetsLaws.{sets_copied}
use Rattle.records.specs.Answer.{field}
use Rattle.archive.proofs.writer.put_entry.Goals as goal

pub returns : goal.returns
unfolding field
returns c = sets_copied _ _ _ _ _ c.copy_from_slice.ensures.after (omega arith) (omega arith)
