-- `over_all` meets its contract. The loop's invariant: the shortfalls below the index have risen by their weights, and the others are as they were. Assumes nothing.
use borrow.Author.Rules.{rules}
use lib.ListN.{length}
use mathlib.Core.List.{List}
use mathlib.Core.Path.{◌≡◌, refl, ap}
use native.Mathlib.Omega.{arith}
use Rattle.slots.specs.Limits.{IDS}
use Rattle.timetable.proofs.Entries.{each_all}
use Rattle.timetable.specs.declared.Entry.{Entry}
use Rattle.timetable.specs.Timetable.{each}
use Rattle.transition.proofs.Each.{as_many}
use Rattle.transition.proofs.StepLaws.{risen, weighed, rising_fits, risen_weighed, risen_fits, risen_next, risen_paid}
use Rattle.transition.specs.declared.Plan.{Plan}
use Rattle.transition.proofs.Plan.over_all.Goals as goal

pub weight_of-requires : goal.weight_of-requires
weight_of-requires c = weighed _ c.requires.0 c.args.u c.requires.1

pub over_slot-own-requires : goal.over_slot-own-requires
over_slot-own-requires c = rising_fits _ c.requires.0 c.args.u c.requires.1 _ c.weight_of.ensures

pub loop-e-init : goal.loop-e-init
unfolding each
loop-e-init c = refl

pub weight_of-requires-in-loop-e : goal.weight_of-requires-in-loop-e
weight_of-requires-in-loop-e c =
    let l = c.loop-e in
    let size : length c.args.self.now.entries ≡ IDS = search rules in
    risen_weighed _ l.e-items c.requires.0 l.e-index l.invariant (omega (arith, c.loop-e-test.true, as_many risen _ l.e-index l.e-items l.invariant, size))

pub over_slot-e-requires : goal.over_slot-e-requires
over_slot-e-requires c =
    let l = c.loop-e in
    let size : length c.args.self.now.entries ≡ IDS = search rules in
    risen_fits _ l.e-items c.requires.0 l.e-index l.invariant (omega (arith, c.loop-e-test.true, as_many risen _ l.e-index l.e-items l.invariant, size)) _ c.weight_of-in-loop-e.ensures

pub loop-e-preserved : goal.loop-e-preserved
loop-e-preserved c =
    let l = c.loop-e in
    risen_next _ l.e-items l.e-index l.invariant _ _ c.weight_of-in-loop-e.ensures c.over_slot-e.ensures

pub returns : goal.returns
returns c =
    let l = c.loop-e in
    let size : length c.args.self.now.entries ≡ IDS = search rules in
    let long = as_many risen _ l.e-index l.e-items l.invariant in
    ap (λ (es : List Entry). let p : Plan = record { owners = c.args.self.now.owners; entries = es } in p)
    (risen_paid _ l.e-items c.args.u size (each_all risen _ l.e-index IDS l.e-items (omega (arith, c.loop-e-test.false, long, size)) (omega (arith, l.auto.e-index-end, long, size)) l.invariant)
    _ _ c.weight_of.ensures c.over_slot-own.ensures)
