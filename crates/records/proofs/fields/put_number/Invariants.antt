-- The invariant: the bytes that are left, put before those already put, are the whole number. Assumes nothing.
use Rattle.std.proofs.Common.{length, ◌≡◌}
use Rattle.std.proofs.lemmas.List.Edits.{sets}
use Rattle.records.specs.Written.{number_bytes}
use Rattle.records.proofs.fields.put_number.Given as goal

abbrev pub invariant-loop-n : goal.invariant-loop-n
invariant-loop-n l = (length l.area ≡ length l.initial.area) × (sets l.area l.at (number_bytes l.rest l.n) ≡ sets l.initial.area l.at (number_bytes l.number l.width))
