-- The slot is tested first, then T, then the listing, as in the definition. Assumes nothing.
use mathlib.Core.Path.{sym, ap, ◌∙◌}
use Rattle.archive.proofs.HandedLaws.{handed_checked, high_limit, high_slot}
use Rattle.archive.specs.RequestWrite.{checked}
use Rattle.records.specs.Request.{ReadRequest}
use Rattle.archive.proofs.writer.check_request.Goals as goal

pub returns-then-slot-gt-LAST_SLOT : goal.returns-then-slot-gt-LAST_SLOT
returns-then-slot-gt-LAST_SLOT c = rw c.of.ensures (sym (ap (λ (x : ReadRequest). checked x) (high_slot _ _ _ c.if-slot-gt-LAST_SLOT.true)))

pub returns-then-limit-gt-LONGEST : goal.returns-then-limit-gt-LONGEST
returns-then-limit-gt-LONGEST c =
    rw c.of-then-limit-gt-LONGEST.ensures
    (sym (ap (λ (x : ReadRequest). checked x) (high_limit _ _ _ c.if-slot-gt-LAST_SLOT.false c.if-limit-gt-LONGEST.true)))

pub returns : goal.returns
returns c =
    c.check_entries.ensures
    ∙ sym (handed_checked _ _ _ (record { slot_range = c.if-slot-gt-LAST_SLOT.false; limit_range = c.if-limit-gt-LONGEST.false }))
