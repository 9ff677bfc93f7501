-- The place is told apart as in the definition. Assumes nothing.
use borrow.Author.Tests.{le-leb, lt-leb, ne_eqb}
use lib.ListN.{length}
use mathlib.Core.Path.{sym, ◌∙◌}
use Rattle.archive.specs.AnswerRead.{field_at}
use Rattle.archive.proofs.answer.field_at.Goals as goal

pub returns-then-at-eq0 : goal.returns-then-at-eq0
unfolding field_at
returns-then-at-eq0 c = c.length_field.ensures ∙ sym (rw c.if-at-eq0.true)

pub returns-then-at-eq-OWNERS_AT : goal.returns-then-at-eq-OWNERS_AT
unfolding field_at
returns-then-at-eq-OWNERS_AT c = c.owners_field.ensures ∙ sym (rw c.if-at-eq-OWNERS_AT.true)

pub returns-then-s-at : goal.returns-then-s-at
unfolding field_at
returns-then-s-at c =
    let a = c.args in
    sym (rw (ne_eqb a.at 0 c.if-at-eq0.false, ne_eqb a.at 4 c.if-at-eq-OWNERS_AT.false, le-leb (length a.s.now) a.at c.if-s-at.true))

pub returns : goal.returns
unfolding field_at
returns c =
    let a = c.args in
    c.offset_field.ensures
    ∙ sym (rw (ne_eqb a.at 0 c.if-at-eq0.false, ne_eqb a.at 4 c.if-at-eq-OWNERS_AT.false, lt-leb (length a.s.now) a.at c.if-s-at.false))
