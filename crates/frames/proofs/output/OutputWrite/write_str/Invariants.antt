-- `write_str` of `frames::output::Output` meets its contract. The invariant: the buffer has its length.
-- Assumes nothing.
use lib.ListN.{length}
use mathlib.Core.Path.{◌≡◌}
use Rattle.frames.proofs.output.OutputWrite.write_str.Given as goal

abbrev pub invariant-loop-byte : goal.invariant-loop-byte
invariant-loop-byte g l = length l.self.bytes ≡ length l.initial.self.bytes
