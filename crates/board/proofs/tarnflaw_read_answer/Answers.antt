-- A refused record tells its refusal; of one that is read the schedule is written, if the area is long enough. Assumes nothing.
use mathlib.Core.Path.{ap}
use Rattle.archive.specs.AnswerRead.{read_into}
use Rattle.board.proofs.ArchiveLaws.{answer_refused, answer_whole, area_small}
use Rattle.board.proofs.tarnflaw_read_answer.Goals as goal

pub returns-then-area-lt-SCHEDULE : goal.returns-then-area-lt-SCHEDULE
returns-then-area-lt-SCHEDULE c =
    let r = c.read_into in
    let a = c.args in
    area_small a.answer.now a.area.now _ r.ensures r.new.x (ap (read_into r.new.x) c.in-Ok.is) c.if-area-lt-SCHEDULE.true

pub returns-in-Err : goal.returns-in-Err
returns-in-Err c =
    let r = c.read_into in
    let a = c.args in
    answer_refused a.answer.now a.area.now _ r.ensures c.in-Err.refusal (ap (read_into r.new.x) c.in-Err.is)

pub returns-else-area-lt-SCHEDULE : goal.returns-else-area-lt-SCHEDULE
returns-else-area-lt-SCHEDULE c =
    let r = c.read_into in
    let a = c.args in
    answer_whole a.answer.now a.area.now _ r.ensures r.new.x (ap (read_into r.new.x) c.in-Ok.is) c.put_schedule.new.area c.if-area-lt-SCHEDULE.false c.put_schedule.ensures
