-- `enter_all` lets one id enter after the other. Assumes nothing.
use Rattle.std.proofs.Common.{refl}
use Rattle.slots.specs.Limits.{IDS}
use Rattle.change.specs.Entered.{entered}
use Rattle.timetable.proofs.Entries.{each_all}
use Rattle.timetable.proofs.SoundLaws.{entry_range}
use Rattle.timetable.specs.Timetable.{each}
use Rattle.transition.proofs.Each.{each_more, next_is}
use Rattle.change.proofs.before.enter_all.Goals as goal

pub loop-id-init : goal.loop-id-init
unfolding each
loop-id-init c = refl

pub enter-requires : goal.enter-requires
enter-requires c =
    let l = c.loop-id in
    let here = next_is (entered c.args.elapsed c.args.asks.now) c.args.entries.now l.id l.entries l.invariant in
    rw here (entry_range c.args.entries.now l.id c.requires c.loop-id-test.true)

pub loop-id-preserved : goal.loop-id-preserved
loop-id-preserved c = let l = c.loop-id in each_more (entered c.args.elapsed c.args.asks.now) _ l.id l.entries l.invariant _ c.enter.ensures

pub returns : goal.returns
returns c =
    let l = c.loop-id in
    each_all (entered c.args.elapsed c.args.asks.now) c.args.entries.now l.id IDS l.entries c.loop-id-test.false l.auto.id-end l.invariant
