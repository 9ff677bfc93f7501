-- The invariant: the fields of the first n entries are stored from place 15 on. Assumes nothing.
use lib.ListN.{length}
use lib.Seq.{sets}
use mathlib.Core.Path.{◌≡◌}
use Rattle.archive.specs.Put.{listing_fields}
use Rattle.archive.proofs.writer.put_entries.Given as goal

abbrev pub invariant-loop-n : goal.invariant-loop-n
invariant-loop-n l = (length l.area ≡ length l.initial.area) × (l.area ≡ sets l.initial.area 15 (listing_fields l.listing l.n))
