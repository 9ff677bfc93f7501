-- `bears` asks what the definition asks of a listed entry's start, or of another's. Assumes nothing.
use mathlib.Core.Path.{sym, ◌∙◌}
use Rattle.timetable.proofs.SoundLaws.{bears_listed, bears_unlisted}
use Rattle.timetable.proofs.Entry.bears.Goals as goal

pub returns-then-is_listed : goal.returns-then-is_listed
returns-then-is_listed c =
    bears_listed c.args.self c.args.start (sym c.is_listed.ensures ∙ c.if-is_listed.true)

pub returns : goal.returns
returns c =
    bears_unlisted c.args.self c.args.start (sym c.is_listed.ensures ∙ c.if-is_listed.false)
