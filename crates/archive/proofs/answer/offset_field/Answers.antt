-- The step is the one of an offset that stands, or the refusal. Assumes nothing.
use lib.ListN.{length}
use mathlib.Core.Path.{sym, ◌∙◌}
use native.Mathlib.Omega.{arith}
use Prim.Native.Nat.{◌+◌, ◌≤◌}
use Rattle.archive.proofs.AnswerSteps.{offset_inside}
use Rattle.archive.specs.AnswerRead.{offset_field, refused_at}
use Rattle.archive.proofs.answer.offset_field.Goals as goal

pub returns-then-not-offset_stands : goal.returns-then-not-offset_stands
unfolding offset_field refused_at
returns-then-not-offset_stands c = rw c.bad_field.ensures (sym (rw (sym c.offset_stands.ensures ∙ c.if-not-offset_stands.true)))

pub content_at-requires : goal.content_at-requires
content_at-requires c =
    let inside : c.args.at + 5 ≤ length c.args.s.now =
    (offset_inside _ _ (sym c.offset_stands.ensures ∙ c.if-not-offset_stands.false)).0 in
    omega (arith, inside)

pub content_at-requires-2 : goal.content_at-requires-2
content_at-requires-2 c =
    let inside : c.args.at + 5 ≤ length c.args.s.now =
    (offset_inside _ _ (sym c.offset_stands.ensures ∙ c.if-not-offset_stands.false)).0 in
    omega (arith, inside)

pub overflow_add-result : goal.overflow_add-result
overflow_add-result c =
    let inside : c.args.at + 5 ≤ length c.args.s.now =
    (offset_inside _ _ (sym c.offset_stands.ensures ∙ c.if-not-offset_stands.false)).0 in
    omega (arith, inside)

pub returns : goal.returns
unfolding offset_field
returns c =
    rw (c.content_at.ensures, c.content_at-2.ensures) (sym (rw (sym c.offset_stands.ensures ∙ c.if-not-offset_stands.false)))
