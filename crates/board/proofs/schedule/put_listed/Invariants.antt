-- The invariant: whether each id below `id` is listed is stored. Assumes nothing.
use lib.ListN.{length, take}
use lib.Seq.{sets}
use mathlib.Core.List.{map}
use mathlib.Core.Path.{◌≡◌}
use Rattle.board.specs.Archive.{LISTED_AT, listed_byte}
use Rattle.board.proofs.schedule.put_listed.Given as goal

abbrev pub invariant-loop-id : goal.invariant-loop-id
invariant-loop-id l = (length l.area ≡ length l.initial.area) × (l.area ≡ sets l.initial.area LISTED_AT (take l.id (map listed_byte l.offsets)))
