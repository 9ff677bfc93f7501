-- The parts are stored one behind the other, and no store changes the area's length. Assumes nothing.
use borrow.Author.Rules.{rules}
use lib.ListN.{length, length-set, set}
use mathlib.Core.Path.{◌≡◌, sym}
use native.Mathlib.Omega.{arith}
use Rattle.board.proofs.ScheduleLaws.{schedule_stored}
use Rattle.records.proofs.SetsLaws.{sets_copied}
use Rattle.slots.specs.Limits.{LONGEST}
use Rattle.board.proofs.schedule.put_schedule.Goals as goal

pub returns : goal.returns
returns c =
    let x = c.args.x.now in
    let l = set c.args.area.now 0 x.length in
    let owners-count : length x.owners ≡ LONGEST =
    search rules in
    let room : length l ≡ length c.args.area.now =
    length-set c.args.area.now 0 x.length in
    schedule_stored x owners-count c.put_listed.ensures.ids c.args.area.now _ _ _
    (sets_copied l x.owners _ 1 64 c.copy_from_slice.ensures.after (sym owners-count) (omega arith))
    c.put_listed.ensures.listed
    c.put_offsets.ensures
