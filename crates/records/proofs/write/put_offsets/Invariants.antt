-- The loop's invariant of `put_offsets` is that the offsets of the ids below `id` are stored from `from` on, and `at` is the place after them. Assumes nothing.
use Rattle.std.proofs.Common.{length, ◌≡◌}
use Rattle.records.proofs.AreaLaws.{Stored}
use Rattle.records.proofs.write.put_offsets.Given as goal

abbrev pub invariant-loop-id : goal.invariant-loop-id
invariant-loop-id l = (length l.area ≡ length l.initial.area) × Stored l.initial.area l.area l.from l.at l.entries l.id
