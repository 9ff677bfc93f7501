-- The invariant: the first n entries are in range and rise, and `floor` is the least id that the next may have. Assumes nothing.
use mathlib.Core.Path.{◌≡◌}
use Rattle.archive.proofs.WriterLaws.{floor_of}
use Rattle.archive.specs.Writes.{EntriesRise}
use Rattle.archive.proofs.writer.check_entries.Given as goal

abbrev pub invariant-loop-n : goal.invariant-loop-n
invariant-loop-n l = EntriesRise l.listing l.n × (l.floor ≡ floor_of l.listing l.n)
