-- `is_behind` asks whether the entry is listed, and whether its shortfall is not below 256 R, as the definition does. Assumes nothing.
use mathlib.Core.Path.{sym, ◌∙◌}
use Rattle.change.proofs.StageSteps.{behind_unlisted, behind_listed}
use Rattle.change.proofs.before.is_behind.Goals as goal

pub returns-then-is_listed : goal.returns-then-is_listed
returns-then-is_listed c = behind_listed c.args.e (sym c.is_listed.ensures ∙ c.if-is_listed.true)

pub returns-else-is_listed : goal.returns-else-is_listed
returns-else-is_listed c = c.if-is_listed.false ∙ behind_unlisted c.args.e (sym c.is_listed.ensures ∙ c.if-is_listed.false)
