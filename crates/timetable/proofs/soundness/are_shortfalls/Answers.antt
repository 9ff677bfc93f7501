-- `are_shortfalls` carries the answer so far in the bits that differ. Assumes nothing.
use Rattle.std.proofs.Common.{get_or, bit_xor, refl}
use Rattle.slots.specs.Below.{every}
use Rattle.timetable.proofs.Bits.{none_differs, none_more}
use Rattle.timetable.proofs.FitLaws.{arrived}
use Rattle.timetable.proofs.ScanLaws.{every_next}
use Rattle.timetable.specs.Timetable.{entry_of}
use Rattle.timetable.proofs.soundness.are_shortfalls.Goals as goal

pub loop-id-init : goal.loop-id-init
unfolding every
loop-id-init c = refl

pub loop-id-preserved : goal.loop-id-preserved
loop-id-preserved c =
    let a = c.args in
    let l = c.loop-id in
    let x = get_or a.owed.now l.id 0 in
    let y = (entry_of a.entries.now l.id).shortfall in
    every_next (arrived a.owed.now a.entries.now) l.id _ _ _ (none_more l.differ (bit_xor x y)) l.invariant (none_differs x y)
