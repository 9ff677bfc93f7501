-- `parts::reading::Reader::bytes` meets its contract. The invariant: as many bytes were read as were passed.
-- Assumes nothing.
use Rattle.std.proofs.Common.{drop, ◌≡◌}
use Rattle.parts.proofs.reading.Reader.bytes.Given as goal

abbrev pub invariant-loop-byte : goal.invariant-loop-byte
invariant-loop-byte g l = l.self.rest.now ≡ drop l.byte-index l.initial.self.rest.now
