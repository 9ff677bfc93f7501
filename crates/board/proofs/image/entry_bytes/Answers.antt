-- The period, the offset, the bound and the shortfall, one behind the other. Assumes nothing.
use mathlib.Core.Path.{refl}
use Rattle.board.specs.Image.{entry_bytes}
use Rattle.records.specs.Written.{number_bytes}
use Rattle.board.proofs.image.entry_bytes.Goals as goal

pub returns : goal.returns
unfolding entry_bytes number_bytes
returns c = rw (c.to_be_bytes.ensures, c.to_be_bytes-2.ensures) refl
