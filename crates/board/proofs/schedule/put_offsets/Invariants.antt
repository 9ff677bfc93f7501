-- The invariant: the offsets of the ids below `id` are stored. Assumes nothing.
use lib.ListN.{length, take}
use lib.Seq.{sets}
use mathlib.Core.List.{map}
use mathlib.Core.Path.{◌≡◌}
use Rattle.board.specs.Archive.{OFFSETS_AT, offset_byte}
use Rattle.board.proofs.schedule.put_offsets.Given as goal

abbrev pub invariant-loop-id : goal.invariant-loop-id
invariant-loop-id l = (length l.area ≡ length l.initial.area) × (l.area ≡ sets l.initial.area OFFSETS_AT (take l.id (map offset_byte l.offsets)))
