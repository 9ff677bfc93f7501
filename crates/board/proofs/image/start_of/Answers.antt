-- The two bytes are those from the start's place on. Assumes nothing.
use Rattle.board.proofs.HeldLaws.{start_read}
use Rattle.board.proofs.image.start_of.Goals as goal

pub returns : goal.returns
returns c = start_read c.args.image.now _ c.bytes_at.result c.bytes_at.ensures _ c.from_be_bytes.ensures
