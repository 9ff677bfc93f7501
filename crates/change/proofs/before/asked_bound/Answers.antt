-- `asked_bound` makes the definition's test. Assumes nothing.
use mathlib.Core.Path.{◌∙◌}
use Rattle.change.proofs.StageSteps.{short_bound, given_bound}
use Rattle.change.proofs.before.asked_bound.Goals as goal

pub returns-then-ask-eq0 : goal.returns-then-ask-eq0
returns-then-ask-eq0 c = let a = c.args in c.bound_before.ensures ∙ short_bound a.old a.ask c.if-ask-eq0.true

pub returns : goal.returns
returns c = let a = c.args in given_bound a.old a.ask c.if-ask-eq0.false
