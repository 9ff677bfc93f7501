-- What is written to a part is stored byte by byte. Assumes nothing.
use native.Mathlib.Omega.{arith}
use Rattle.records.proofs.SetsLaws.{sets_copied}
use Rattle.board.proofs.image.put_bytes.Goals as goal

pub returns : goal.returns
returns c = sets_copied c.args.image.now c.args.bytes.now _ c.args.at _ c.copy_from_slice.ensures.after (omega arith) (omega arith)
