-- `owners_listed` stops at the first owner that is no id, or that has no weight. Assumes nothing.
use Rattle.std.proofs.Common.{true, false, length, refl, sym}
use Rattle.slots.specs.Below.{every}
use Rattle.timetable.proofs.ScanLaws.{scan_goes, scan_stops}
use Rattle.timetable.proofs.SoundLaws.{weighs_foreign, weighs_nothing, weighs_some}
use Rattle.timetable.specs.Walk.{weighs}
use Rattle.timetable.proofs.soundness.owners_listed.Goals as goal

pub loop-owner-init : goal.loop-owner-init
unfolding every
loop-owner-init c = refl

pub returns-then-owner : goal.returns-then-owner
returns-then-owner c =
    let a = c.args in
    let l = c.loop-owner in
    scan_stops (weighs a.owners.now a.weights.now) (length a.owners.now) l.owner-index false c.loop-owner-test.true (sym (weighs_foreign a.owners.now a.weights.now l.owner-index c.if-owner.true)) refl

pub returns-then-weights-owner-eq0 : goal.returns-then-weights-owner-eq0
returns-then-weights-owner-eq0 c =
    let a = c.args in
    let l = c.loop-owner in
    scan_stops (weighs a.owners.now a.weights.now) (length a.owners.now) l.owner-index false c.loop-owner-test.true (sym (weighs_nothing a.owners.now a.weights.now l.owner-index c.if-owner.false c.if-weights-owner-eq0.true)) refl

pub loop-owner-preserved : goal.loop-owner-preserved
loop-owner-preserved c =
    let a = c.args in
    let l = c.loop-owner in
    scan_goes (weighs a.owners.now a.weights.now) l.owner-index true l.invariant (sym (weighs_some a.owners.now a.weights.now l.owner-index c.if-owner.false c.if-weights-owner-eq0.false)) refl
