-- `decided` tests soundness, the first stage, and a timetable that is sound grants or refuses. Assumes nothing.
use mathlib.Core.Path.{sym, ap, ◌∙◌}
use native.Mathlib.Omega.{arith}
use Rattle.change.proofs.Passing.{answer_unsound}
use Rattle.change.proofs.ToldLaws.{told_early}
use Rattle.change.specs.Change.{refuse}
use Rattle.change.proofs.decided.Goals as goal

pub returns-in_err-sound_stage-clause-told : goal.returns-in_err-sound_stage-clause-told
returns-in_err-sound_stage-clause-told c =
    let a = c.args in
    let k = c.in_err-sound_stage.ensures in
    (told_early a.t.now a.request.now a.area c.from_residual.result _ c.from_residual.ensures.1
    (answer_unsound a.t.now _ _ k.0 ∙ sym (ap (refuse a.t.now) k.1)) (rw k.1 (omega arith))).0
