-- `frames::stream::next_frame` meets its contract. The invariant: nothing was put, and the program waits as it stood or with more read behind a part of a frame. The measure is how much longer that part may grow.
-- Assumes nothing.
use lib.ListN.{length}
use mathlib.Core.Path.{◌≡◌}
use Prim.Native.Nat.{◌-◌}
use Rattle.frames.proofs.BufferLaws.{Waiting}
use Rattle.frames.proofs.stream.next_frame.Given as goal

abbrev pub invariant-loop-size : goal.invariant-loop-size
invariant-loop-size l = record {
  bytes : l.out.bytes ≡ l.initial.out.bytes;
  long : length l.input.bytes ≡ length l.initial.input.bytes;
  waiting : Waiting l.initial.input l.initial.out.put l.input l.out.put;
}

abbrev pub decreases-loop-size : goal.decreases-loop-size
decreases-loop-size l = length l.initial.input.bytes - (l.input.to - l.input.from)
