-- The fields that are read are those of the timetable that the image holds. Assumes nothing.
use lib.ListN.{length-replicate, length-set}
use mathlib.Core.Path.{refl, ◌∙◌}
use native.Mathlib.Omega.{arith}
use Prim.Native.Nat.{ℕ, ◌+◌, ◌*◌}
use Rattle.board.proofs.HeldLaws.{entries_read, held, one_more, slot_read, starts_read}
use Rattle.board.specs.Image.{ENTRIES_AT, ENTRY, START, STARTS_AT, entry_at, start_at}
use Rattle.slots.specs.Limits.{IDS}
use Rattle.timetable.specs.Timetable.{no_entry}
use Rattle.board.proofs.image.read_image.Goals as goal

pub loop-id-init : goal.loop-id-init
loop-id-init c = record {
  request = refl;
  size = refl;
  owners = refl;
  base = refl;
  entries_long = rw c.requires (length-replicate IDS no_entry);
  entries = λ i h. absurd (omega arith);
  starts_long = rw c.requires (length-replicate {A = ℕ} IDS 0);
  starts = λ i h. absurd (omega arith);
}

pub loop-id-preserved : goal.loop-id-preserved
loop-id-preserved c =
    let l = c.loop-id in
    let i = l.invariant in
    let s = c.args.image.now in
    record {
      request = i.request;
      size = i.size;
      owners = i.owners;
      base = i.base;
      entries_long = length-set l.t.entries l.id _ ∙ i.entries_long;
      entries = one_more no_entry (λ k. entry_at s (ENTRIES_AT + ENTRY * k)) l.t.entries l.id _ (omega (arith, i.entries_long)) c.entry_of.ensures i.entries;
      starts_long = length-set l.t.starts l.id _ ∙ i.starts_long;
      starts = one_more 0 (λ k. start_at s (STARTS_AT + START * k)) l.t.starts l.id _ (omega (arith, i.starts_long)) c.start_of.ensures i.starts;
    }

pub returns : goal.returns
returns c =
    let s = c.args.image.now in
    let i = c.loop-id.invariant in
    held s _ _ _ _ _ _
    (i.request ∙ slot_read s _ _ c.bytes_at.ensures _ c.from_be_bytes.ensures)
    i.size
    (i.owners ∙ c.bytes_at-t.ensures)
    (i.base ∙ slot_read s _ _ c.bytes_at-2.ensures _ c.from_be_bytes-2.ensures)
    (entries_read s _ i.entries_long (λ k h. i.entries k (omega arith)))
    (starts_read s _ i.starts_long (λ k h. i.starts k (omega arith)))
