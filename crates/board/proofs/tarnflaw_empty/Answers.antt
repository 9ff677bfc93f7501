-- Bytes that are no image are refused; an image becomes that of the empty timetable. Assumes nothing.
use mathlib.Core.Path.{ap, ◌∙◌}
use Rattle.board.proofs.BoardLaws.{empty_made, empty_refused}
use Rattle.board.specs.Image.{image_of}
use Rattle.board.proofs.tarnflaw_empty.Goals as goal

pub returns-in_default : goal.returns-in_default
returns-in_default c = empty_refused c.args.image.now c.in_default.ensures.cases

pub returns : goal.returns
returns c =
    empty_made c.args.image.now c.in-Some.ensures.cases.long c.put_image.new.image (c.put_image.ensures ∙ ap image_of c.empty.ensures)
