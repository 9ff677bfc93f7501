-- The form is tested first, then the value, as in the definition; a field that stands ends inside the record, so no sum wraps. Assumes nothing.
use mathlib.Core.Bool.{true}
use mathlib.Core.Path.{◌≡◌, refl, sym, ◌∙◌}
use native.Mathlib.Omega.{arith}
use Rattle.records.proofs.FieldLaws.{NumberRead, number_is}
use Rattle.records.proofs.ReadSteps.{field_inside}
use Rattle.records.specs.Request.{is_field}
use Rattle.records.proofs.read.number_field.Goals as goal

pub returns-then-not-is_field : goal.returns-then-not-is_field
returns-then-not-is_field c =
    rw c.of.ensures
    (number_is _ _ _ _ _ _ (NumberRead.wrong (sym c.is_field.ensures ∙ c.if-not-is_field.true)))

pub overflow_add-at : goal.overflow_add-at
overflow_add-at c =
    let form : is_field c.args.s.now c.args.at c.args.tag c.args.size ≡ true =
    sym c.is_field.ensures ∙ c.if-not-is_field.false in
    omega (arith, (field_inside _ _ _ _ form).0)

pub number_at-number-requires : goal.number_at-number-requires
number_at-number-requires c =
    let form : is_field c.args.s.now c.args.at c.args.tag c.args.size ≡ true =
    sym c.is_field.ensures ∙ c.if-not-is_field.false in
    omega (arith, (field_inside _ _ _ _ form).0)

pub overflow_add-next : goal.overflow_add-next
overflow_add-next c =
    let form : is_field c.args.s.now c.args.at c.args.tag c.args.size ≡ true =
    sym c.is_field.ensures ∙ c.if-not-is_field.false in
    record { fits = omega (arith, (field_inside _ _ _ _ form).0) }

pub overflow_add-next-2 : goal.overflow_add-next-2
overflow_add-next-2 c =
    let form : is_field c.args.s.now c.args.at c.args.tag c.args.size ≡ true =
    sym c.is_field.ensures ∙ c.if-not-is_field.false in
    record { fits = omega (arith, (field_inside _ _ _ _ form).0) }

pub returns-then-most-number : goal.returns-then-most-number
returns-then-most-number c =
    let form : is_field c.args.s.now c.args.at c.args.tag c.args.size ≡ true =
    sym c.is_field.ensures ∙ c.if-not-is_field.false in
    rw c.of-then-most-number.ensures
    (number_is _ _ _ _ _ _ (NumberRead.high form (omega (arith, c.number_at-number.ensures))))

pub returns : goal.returns
returns c =
    let form : is_field c.args.s.now c.args.at c.args.tag c.args.size ≡ true =
    sym c.is_field.ensures ∙ c.if-not-is_field.false in (
      rw c.number_at-number.ensures (number_is _ _ _ _ _ _ (NumberRead.value form (omega (arith, c.number_at-number.ensures)))),
      refl,
    )
