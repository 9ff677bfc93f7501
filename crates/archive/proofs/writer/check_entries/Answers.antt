-- The invariant: the first n entries are in range and rise, and `floor` is the least id that the next may have. Assumes nothing.
use mathlib.Core.Path.{refl, sym, ◌∙◌}
use native.Mathlib.Numerals.{add-one}
use native.Mathlib.Omega.{arith}
use Rattle.archive.proofs.WriterLaws.{Stop, entry_fails, entry_range, floor_of, checked_is, rise_inside, rise_more, rise_none}
use Rattle.archive.specs.Writes.{EntryRange}
use Rattle.archive.proofs.writer.check_entries.Goals as goal

pub loop-n-init : goal.loop-n-init
unfolding floor_of
loop-n-init c = (rise_none _, refl)

pub returns-then-not-is_entry : goal.returns-then-not-is_entry
returns-then-not-is_entry c =
    rw c.of.ensures
    (checked_is _ _ _ c.loop-n.invariant.0
    (Stop.high (omega (arith, c.loop-n-test.true)) (entry_fails _ _ (sym c.is_entry.ensures ∙ c.if-not-is_entry.true))))

pub returns-then-id-floor : goal.returns-then-id-floor
returns-then-id-floor c =
    let in-range : EntryRange c.args.listing.now c.loop-n.n =
    entry_range _ _ (sym c.is_entry.ensures ∙ c.if-not-is_entry.false) in
    let l = c.loop-n in
    rw c.of-then-id-floor.ensures (checked_is _ _ _ l.invariant.0 (Stop.low in-range (omega (arith, c.if-id-floor.true, l.invariant.1))))

pub overflow_add-floor : goal.overflow_add-floor
overflow_add-floor c =
    let in-range : EntryRange c.args.listing.now c.loop-n.n =
    entry_range _ _ (sym c.is_entry.ensures ∙ c.if-not-is_entry.false) in
    omega (arith, in-range.id)

pub loop-n-preserved : goal.loop-n-preserved
unfolding floor_of
loop-n-preserved c =
    let in-range : EntryRange c.args.listing.now c.loop-n.n =
    entry_range _ _ (sym c.is_entry.ensures ∙ c.if-not-is_entry.false) in
    let l = c.loop-n in
    rw (add-one l.n) (rise_more _ l.n l.invariant.0 in-range (omega (arith, c.if-id-floor.false, l.invariant.1)), omega arith)

pub returns : goal.returns
returns c =
    let l = c.loop-n in
    checked_is _ _ _ l.invariant.0 (Stop.end (omega (arith, rise_inside _ _ l.invariant.0)))
