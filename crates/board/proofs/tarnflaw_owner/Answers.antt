-- Bytes that are no image are refused; on an image it is the owner query on the timetable that it holds. Assumes nothing.
use mathlib.Core.Path.{ap, ◌∙◌}
use Rattle.board.proofs.BoardLaws.{owner_no_image, owner_told}
use Rattle.board.specs.Image.{timetable_at}
use Rattle.board.proofs.tarnflaw_owner.Goals as goal

pub returns-in_default : goal.returns-in_default
returns-in_default c = owner_no_image c.args.image.now c.in_default.ensures.cases c.args.slot

pub returns : goal.returns
returns c =
    let chunk = c.in-Some.ensures.cases in
    owner_told c.args.image.now chunk.long _ (c.read_image.ensures ∙ ap timetable_at chunk.same) c.args.slot c.owner_query-a.result c.owner_query-a.ensures
