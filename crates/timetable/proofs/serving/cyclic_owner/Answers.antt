-- `cyclic_owner` answers with the first id that has the slot. Assumes nothing.
use Rattle.std.proofs.Common.{refl, sym, ◌∙◌}
use Rattle.slots.specs.Below.{first}
use Rattle.slots.specs.Limits.{IDS}
use Rattle.timetable.proofs.OwnerLaws.{owns}
use Rattle.timetable.proofs.ScanLaws.{first_here, first_more}
use Rattle.timetable.proofs.SoundLaws.{entry_range}
use Rattle.timetable.proofs.serving.cyclic_owner.Goals as goal

pub loop-id-init : goal.loop-id-init
unfolding first
loop-id-init c = refl

pub takes-requires : goal.takes-requires
takes-requires c = entry_range c.args.entries.now c.loop-id.id c.requires c.loop-id-test.true

pub returns-then-takes : goal.returns-then-takes
returns-then-takes c =
    let l = c.loop-id in
    first_here (owns c.args.entries.now c.args.n) l.id IDS c.loop-id-test.true l.invariant (sym c.takes.ensures ∙ c.if-takes.true)

pub loop-id-preserved : goal.loop-id-preserved
loop-id-preserved c = let l = c.loop-id in first_more (owns c.args.entries.now c.args.n) l.id l.invariant (sym c.takes.ensures ∙ c.if-takes.false)
