-- The invariant: the entries and the starts of the ids below `id` are those of the image, and the other fields stay. Assumes nothing.
use lib.ListN.{get_or, length}
use mathlib.Core.Path.{◌≡◌}
use Prim.Native.Nat.{ℕ, ◌+◌, ◌*◌, ◌<◌}
use Rattle.board.specs.Image.{ENTRIES_AT, ENTRY, START, STARTS_AT, entry_at, start_at}
use Rattle.slots.specs.Limits.{IDS}
use Rattle.timetable.specs.Timetable.{entry_of}
use Rattle.board.proofs.image.read_image.Given as goal

abbrev pub invariant-loop-id : goal.invariant-loop-id
invariant-loop-id l = record {
  request : l.t.request ≡ l.initial.t.request;
  size : l.t.length ≡ l.initial.t.length;
  owners : l.t.owners ≡ l.initial.t.owners;
  base : l.t.base ≡ l.initial.t.base;
  entries_long : length l.t.entries ≡ IDS;
  entries : (i : ℕ) → i < l.id → entry_of l.t.entries i ≡ entry_at l.image (ENTRIES_AT + ENTRY * i);
  starts_long : length l.t.starts ≡ IDS;
  starts : (i : ℕ) → i < l.id → get_or l.t.starts i 0 ≡ start_at l.image (STARTS_AT + START * i);
}
