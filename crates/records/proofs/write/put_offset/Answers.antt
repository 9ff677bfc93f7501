-- The five bytes of the field are copied. Assumes nothing.
use Rattle.std.proofs.Common.{arith}
use Rattle.records.proofs.SetsLaws.{sets_copied}
use Rattle.records.specs.Answer.{field}
use Rattle.records.proofs.write.put_offset.Goals as goal

pub returns : goal.returns
unfolding field
returns c = sets_copied _ _ _ _ _ c.copy_from_slice.ensures.after (omega arith) (omega (arith, c.requires))
