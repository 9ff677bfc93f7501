-- The step is the one of owners that stand, or the refusal. Assumes nothing.
use mathlib.Core.Path.{sym, ◌∙◌}
use Rattle.archive.specs.AnswerRead.{owners_field, refused_at}
use Rattle.archive.proofs.answer.owners_field.Goals as goal

pub returns-then-not-owners_stand : goal.returns-then-not-owners_stand
unfolding owners_field refused_at
returns-then-not-owners_stand c = rw c.bad_field.ensures (sym (rw (sym c.owners_stand.ensures ∙ c.if-not-owners_stand.true)))

pub returns : goal.returns
unfolding owners_field
returns c =
    rw c.told_length-size.ensures (sym (rw (sym c.owners_stand.ensures ∙ c.if-not-owners_stand.false)))
