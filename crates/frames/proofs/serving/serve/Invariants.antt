-- `frames::serving::serve` meets its contract. The invariant: what stands ahead lies inside the buffers, the input's buffer has its length, as many frames were answered as the loop counts, and as many as are left to count can be answered still.
-- Assumes nothing.
use lib.ListN.{length}
use mathlib.Core.Path.{◌≡◌}
use Prim.Native.Nat.{◌+◌, ◌≤◌}
use Rattle.frames.proofs.RunLaws.{Stood}
use Rattle.frames.specs.Buffers.{AheadInside}
use Rattle.frames.proofs.serving.serve.Given as goal

abbrev pub invariant-loop : goal.invariant-loop
invariant-loop g l = record {
  inside : AheadInside l.ahead l.input l.out;
  long : length l.input.bytes ≡ length l.fn.input.bytes;
  left : l.most ≤ l.counter + g.A.Answerer.left l.answerer;
  stood : Stood _ g.A.Answerer.gives g.A.Answerer.puts l.fn.answerer l.initial.ahead l.initial.input l.initial.out l.answerer l.ahead l.input l.out l.counter;
}
