-- `bound_before` makes the definition's test. Assumes nothing.
use mathlib.Core.Path.{sym, ◌∙◌}
use Rattle.change.proofs.StageSteps.{listed_bound, new_bound}
use Rattle.change.proofs.before.bound_before.Goals as goal

pub returns-then-is_listed : goal.returns-then-is_listed
returns-then-is_listed c = listed_bound c.args.old (sym c.is_listed.ensures ∙ c.if-is_listed.true)

pub returns : goal.returns
returns c = new_bound c.args.old (sym c.is_listed.ensures ∙ c.if-is_listed.false)
