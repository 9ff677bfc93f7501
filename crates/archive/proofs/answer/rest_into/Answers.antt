-- Reading begins at the length, at the owners or at the offsets, and gives one thing. Assumes nothing.
use mathlib.Core.Path.{sym}
use Rattle.archive.proofs.AnswerSteps.{answer_is}
use Rattle.archive.proofs.answer.rest_into.Goals as goal

pub returns-then-from-eq0 : goal.returns-then-from-eq0
returns-then-from-eq0 c = rw c.if-from-eq0.true (sym (answer_is _ (rw c.requires at c.from_length.ensures)))

pub returns-then-from-eq-OWNERS_AT : goal.returns-then-from-eq-OWNERS_AT
returns-then-from-eq-OWNERS_AT c = rw c.if-from-eq-OWNERS_AT.true (sym (answer_is _ (rw c.requires at c.from_owners.ensures)))

pub returns : goal.returns
returns c = sym (answer_is _ (rw c.requires at c.from_offsets.ensures))
