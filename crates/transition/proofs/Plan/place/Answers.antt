-- `place` meets its contract. The loop's invariant: the ids below id have their offsets, and the others are as they were. Assumes nothing.
use borrow.Author.Rules.{rules}
use lib.ListN.{length}
use mathlib.Core.Path.{◌≡◌, refl}
use native.Mathlib.Omega.{arith}
use Rattle.placement.proofs.Unplaced.{unplaced_ranged}
use Rattle.slots.specs.Limits.{IDS}
use Rattle.timetable.proofs.Entries.{each_all}
use Rattle.timetable.specs.Timetable.{each}
use Rattle.transition.proofs.Each.{as_many, each_more}
use Rattle.transition.proofs.SearchLaws.{put_in, settled_none, settled_some}
use Rattle.transition.proofs.Plan.place.Goals as goal

pub reorder-requires : goal.reorder-requires
reorder-requires c =
    let size : length c.args.self.now.entries ≡ IDS = search rules in
    (c.requires.listing, unplaced_ranged _ size c.requires.ready.ranged)

pub returns-in_default-clause-settled : goal.returns-in_default-clause-settled
returns-in_default-clause-settled c =
    let size : length c.args.self.now.entries ≡ IDS = search rules in
    settled_none c.args.self.now size c.requires.ready _ _ c.reorder.ensures c.place.result c.place.ensures c.in_default.is

pub loop-id-init : goal.loop-id-init
unfolding each
loop-id-init c = refl

pub loop-id-preserved : goal.loop-id-preserved
loop-id-preserved c = let l = c.loop-id in each_more (put_in c.in-Some.offsets) _ l.id l.e-items l.invariant _ refl

pub returns-clause-settled : goal.returns-clause-settled
returns-clause-settled c =
    let l = c.loop-id in
    let size : length c.args.self.now.entries ≡ IDS = search rules in
    let long = as_many (put_in c.in-Some.offsets) _ l.id l.e-items l.invariant in
    settled_some c.args.self.now size c.requires.ready _ _ c.reorder.ensures c.place.result c.place.ensures c.in-Some.offsets c.in-Some.is
    l.e-items (each_all (put_in c.in-Some.offsets) _ l.id IDS l.e-items (omega (arith, c.loop-id-test.false, long, size)) (omega (arith, l.auto.id-end, long, size)) l.invariant)
