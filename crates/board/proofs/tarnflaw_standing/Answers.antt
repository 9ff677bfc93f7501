-- Bytes that are no image are refused; on an image it is the standing query on the timetable that it holds. Assumes nothing.
use mathlib.Core.Path.{ap, ◌∙◌}
use Rattle.board.proofs.BoardLaws.{standing_no_image, standing_told}
use Rattle.board.specs.Image.{timetable_at}
use Rattle.board.proofs.tarnflaw_standing.Goals as goal

pub returns-in_default : goal.returns-in_default
returns-in_default c = standing_no_image c.args.image.now c.in_default.ensures.cases c.args.id c.args.slot

pub returns : goal.returns
returns c =
    let chunk = c.in-Some.ensures.cases in
    standing_told c.args.image.now chunk.long _ (c.read_image.ensures ∙ ap timetable_at chunk.same) c.args.id c.args.slot c.standing_query-a.result c.standing_query-a.ensures
