-- The invariant: the entries and the starts of the ids below `id` are stored one behind the other. Assumes nothing.
use lib.Seq.{sets}
use mathlib.Core.Path.{◌≡◌}
use Rattle.board.specs.Image.{ENTRIES_AT, STARTS_AT, entries_bytes, starts_bytes}
use Rattle.board.proofs.image.put_ids.Given as goal

abbrev pub invariant-loop-id : goal.invariant-loop-id
invariant-loop-id l =
    l.image ≡ sets (sets l.initial.image ENTRIES_AT (entries_bytes l.t.entries l.id)) STARTS_AT (starts_bytes l.t.starts l.id)
