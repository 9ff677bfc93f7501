-- `enter` makes the definition's test, whether the id is asked for. Assumes nothing.
use mathlib.Core.Path.{◌∙◌}
use Rattle.change.proofs.StageSteps.{enter_absent, enter_asked}
use Rattle.timetable.specs.Timetable.{shortfall_after}
use Rattle.change.proofs.before.enter.Goals as goal

pub shortfall_after-shortfall-requires : goal.shortfall_after-shortfall-requires
shortfall_after-shortfall-requires c = c.requires

pub returns-then-ask-eq0 : goal.returns-then-ask-eq0
returns-then-ask-eq0 c =
    let a = c.args in
    c.absent.ensures
    ∙ enter_absent a.old (shortfall_after a.old a.elapsed) a.ask c.shortfall_after-shortfall.result c.if-ask-eq0.true c.shortfall_after-shortfall.ensures

pub returns : goal.returns
returns c =
    let a = c.args in
    enter_asked a.old (shortfall_after a.old a.elapsed) a.ask c.asked_bound.result c.shortfall_after-shortfall.result c.if-ask-eq0.false c.asked_bound.ensures
    c.shortfall_after-shortfall.ensures
