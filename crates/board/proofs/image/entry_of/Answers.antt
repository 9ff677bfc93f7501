-- The six bytes are those from the entry's place on. Assumes nothing.
use Rattle.board.proofs.HeldLaws.{entry_read}
use Rattle.board.proofs.image.entry_of.Goals as goal

pub returns : goal.returns
returns c = entry_read c.args.image.now _ c.bytes_at.result c.bytes_at.ensures _ _ c.from_be_bytes.ensures c.from_be_bytes-2.ensures
