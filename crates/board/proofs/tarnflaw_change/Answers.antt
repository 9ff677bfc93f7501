-- Bytes that are no image are refused; an image is changed by what its timetable grants, and a refusal leaves every byte. Assumes nothing.
use lib.ListN.{length}
use mathlib.Core.Path.{refl, sym, ap, ◌∙◌, subst}
use Rattle.board.proofs.BoardLaws.{change_granted, change_no_image, change_refused}
use Rattle.board.specs.Image.{timetable_at}
use Rattle.change.proofs.Passing.{GoesInto, goes_into}
use Rattle.change.specs.declared.Answer.{Answer}
use Rattle.board.proofs.tarnflaw_change.Goals as goal

pub returns-in_default : goal.returns-in_default
returns-in_default c = change_no_image c.args.image.now c.in_default.ensures.cases c.args.request.now c.args.area.now

pub write_answer-requires : goal.write_answer-requires
write_answer-requires c =
    let room = length c.args.area.now in
    subst (λ (a : Answer). GoesInto a room) (sym c.in-Ok.ensures.told) (goes_into c.read_image.new.t c.args.request.now room) refl

pub returns-in-Ok : goal.returns-in-Ok
returns-in-Ok c =
    let chunk = c.in-Some.ensures.cases in
    change_granted c.args.image.now chunk.long c.read_image.new.t (c.read_image.ensures ∙ ap timetable_at chunk.same) c.args.request.now c.args.area.now
    c.decided.new.t c.in-Ok.searched c.in-Ok.ensures.told _ _ _ c.put_image.ensures c.write_answer.ensures

pub returns-in-Err : goal.returns-in-Err
returns-in-Err c =
    let chunk = c.in-Some.ensures.cases in
    rw chunk.same
    (change_refused c.args.image.now chunk.long c.read_image.new.t (c.read_image.ensures ∙ ap timetable_at chunk.same) c.args.request.now c.args.area.now
    c.decided.new.t c.in-Err.refused c.in-Err.ensures.told c.in-Err.ensures.refused)
