-- `fmt` of `parts::printing::Packed` ends: the measure is what is left of the image.
-- Assumes nothing.
use lib.ListN.{length}
use Rattle.parts.proofs.printing.PackedDisplay.fmt.Given as goal

abbrev pub decreases-loop-byte : goal.decreases-loop-byte
decreases-loop-byte g l = length l.rest
