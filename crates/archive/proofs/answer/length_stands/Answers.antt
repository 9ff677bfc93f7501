-- The form is tested first, then the length. Assumes nothing.
use lib.Dec.{leb}
use mathlib.Core.Path.{sym, ap, ◌∙◌}
use Rattle.slots.specs.Limits.{LONGEST}
use Rattle.archive.proofs.answer.length_stands.Goals as goal

pub returns-then-not-is_field : goal.returns-then-not-is_field
returns-then-not-is_field c = sym (rw (sym c.is_field.ensures ∙ c.if-not-is_field.true))

pub returns : goal.returns
returns c =
    ap (λ n. leb n LONGEST) c.told_length.ensures ∙ sym (rw (sym c.is_field.ensures ∙ c.if-not-is_field.false))
