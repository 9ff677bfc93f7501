-- The form is tested first, then the id. Assumes nothing.
use borrow.Author.Tests.{le-ltb, lt-ltb}
use lib.Dec.{leb}
use mathlib.Core.Bool.{true, and-false}
use mathlib.Core.Path.{◌≡◌, sym, ap, ◌∙◌}
use native.Mathlib.Omega.{arith}
use Rattle.archive.specs.AnswerRead.{floor_at}
use Rattle.records.proofs.ReadSteps.{field_inside}
use Rattle.records.specs.Request.{content_at, is_field}
use Rattle.slots.specs.Limits.{IDS}
use Rattle.archive.proofs.answer.offset_stands.Goals as goal

pub returns-then-not-is_field : goal.returns-then-not-is_field
returns-then-not-is_field c = sym (rw (sym c.is_field.ensures ∙ c.if-not-is_field.true))

pub content_at-id-requires : goal.content_at-id-requires
content_at-id-requires c =
    let form : is_field c.args.s.now c.args.at 0x12 2 ≡ true =
    sym c.is_field.ensures ∙ c.if-not-is_field.false in
    omega (arith, (field_inside _ _ 0x12 2 form).0)

pub returns-then-id-ge-IDS : goal.returns-then-id-ge-IDS
returns-then-id-ge-IDS c =
    let a = c.args in
    sym
    (rw (le-ltb (content_at a.s.now a.at 0) IDS (omega (arith, c.content_at-id.ensures)), and-false (is_field a.s.now a.at 0x12 2)))

pub is_above-requires : goal.is_above-requires
is_above-requires c =
    let form : is_field c.args.s.now c.args.at 0x12 2 ≡ true =
    sym c.is_field.ensures ∙ c.if-not-is_field.false in
    (omega arith, omega (arith, (field_inside _ _ 0x12 2 form).0))

pub returns : goal.returns
returns c =
    let form : is_field c.args.s.now c.args.at 0x12 2 ≡ true =
    sym c.is_field.ensures ∙ c.if-not-is_field.false in
    let a = c.args in
    let i = c.content_at-id.ensures in
    c.is_above.ensures
    ∙ ap (leb (floor_at a.s.now a.at)) i
    ∙ sym (rw (form, lt-ltb (content_at a.s.now a.at 0) IDS (omega (arith, i))))
