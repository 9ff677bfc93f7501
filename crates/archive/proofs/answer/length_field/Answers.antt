-- The step is the one of a length that stands, or the refusal. Assumes nothing.
use mathlib.Core.Path.{sym, ◌∙◌}
use Rattle.archive.specs.AnswerRead.{length_field, refused_at}
use Rattle.archive.proofs.answer.length_field.Goals as goal

pub returns-then-not-length_stands : goal.returns-then-not-length_stands
unfolding length_field refused_at
returns-then-not-length_stands c = rw c.bad_field.ensures (sym (rw (sym c.length_stands.ensures ∙ c.if-not-length_stands.true)))

pub returns : goal.returns
unfolding length_field
returns c =
    rw c.told_length.ensures (sym (rw (sym c.length_stands.ensures ∙ c.if-not-length_stands.false)))
