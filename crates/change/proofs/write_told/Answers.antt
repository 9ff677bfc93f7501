-- `write_told` writes the record of an acceptance, and of a refusal there is none. Assumes nothing.
use Rattle.change.proofs.ToldLaws.{told_granted, told_refused}
use Rattle.std.proofs.lemmas.Result.{IfErr-at_err}
use Rattle.change.proofs.write_told.Goals as goal

pub returns-in-Ok : goal.returns-in-Ok
returns-in-Ok c = told_granted c.args.t c.args.decided c.args.area.now c.in-Ok.tries c.in-Ok.is _ _ c.write_answer.ensures

pub returns-in-Err : goal.returns-in-Err
returns-in-Err c =
    told_refused c.args.t c.args.decided c.args.area.now c.in-Err.refused c.in-Err.is (IfErr-at_err _ c.in-Err.is c.requires.refused)
