-- The long form is tested first, then the short one, each for its range and then for its id, as in the definition. Assumes nothing.
use mathlib.Core.Bool.{true, false, ◌&&◌}
use mathlib.Core.Path.{◌≡◌, sym, ap, ap₂, ◌∙◌}
use native.Mathlib.Omega.{arith}
use Rattle.records.proofs.FieldLaws.{ListedForm, ListedRead, listed_is}
use Rattle.records.proofs.NextStep.{listed_tested}
use Rattle.records.proofs.ReadSteps.{field_inside, listed_range}
use Rattle.records.specs.Request.{content_at, is_field, is_listing}
use Rattle.timetable.specs.Sound.{is_bound}
use Rattle.records.proofs.read.listed_field.Goals as goal

pub content_at-bound-requires : goal.content_at-bound-requires
content_at-bound-requires c =
    let long : is_field c.args.s.now c.args.at 3 3 ≡ true =
    sym c.is_field.ensures ∙ c.if-is_field.true in
    omega (arith, (field_inside _ _ 3 3 long).0)

pub is_listing-requires : goal.is_listing-requires
is_listing-requires c =
    let long : is_field c.args.s.now c.args.at 3 3 ≡ true =
    sym c.is_field.ensures ∙ c.if-is_field.true in
    omega (arith, (field_inside _ _ 3 3 long).0)

pub returns-then-not-is_listing : goal.returns-then-not-is_listing
returns-then-not-is_listing c =
    let long : is_field c.args.s.now c.args.at 3 3 ≡ true =
    sym c.is_field.ensures ∙ c.if-is_field.true in
    rw c.of.ensures
    (sym
    (listed_is _ _ _ _
    (ListedRead.high
    (ListedForm.long long)
    (rw (sym c.is_listing.ensures ∙ c.if-not-is_listing.true)))))

pub returns-then-not-is_bound : goal.returns-then-not-is_bound
returns-then-not-is_bound c =
    let long : is_field c.args.s.now c.args.at 3 3 ≡ true =
    sym c.is_field.ensures ∙ c.if-is_field.true in
    rw c.of-then-not-is_bound.ensures
    (sym
    (listed_is _ _ _ _
    (ListedRead.high
    (ListedForm.long long)
    (ap₂ ◌&&◌ (sym c.is_listing.ensures ∙ c.if-not-is_listing.false)
    (ap is_bound (sym c.content_at-bound.ensures) ∙ sym c.is_bound.ensures ∙ c.if-not-is_bound.true)))))

pub overflow_add-at : goal.overflow_add-at
overflow_add-at c =
    let long : is_field c.args.s.now c.args.at 3 3 ≡ true =
    sym c.is_field.ensures ∙ c.if-is_field.true in
    omega (arith, (field_inside _ _ 3 3 long).0)

pub listed_as-requires : goal.listed_as-requires
listed_as-requires c =
    let long : is_field c.args.s.now c.args.at 3 3 ≡ true =
    sym c.is_field.ensures ∙ c.if-is_field.true in
    let long-range : is_listing c.args.s.now c.args.at
    && is_bound (content_at c.args.s.now c.args.at 2)
    ≡ true =
    ap₂ ◌&&◌ (sym c.is_listing.ensures ∙ c.if-not-is_listing.false)
    (ap is_bound (sym c.content_at-bound.ensures) ∙ sym c.is_bound.ensures ∙ c.if-not-is_bound.false) in
    let p = long in
    (omega (arith, (field_inside _ _ 3 3 p).0), (listed_range _ _ (ListedForm.long p) long-range).k_range)

pub returns-then-is_field : goal.returns-then-is_field
returns-then-is_field c =
    let long : is_field c.args.s.now c.args.at 3 3 ≡ true =
    sym c.is_field.ensures ∙ c.if-is_field.true in
    let long-range : is_listing c.args.s.now c.args.at
    && is_bound (content_at c.args.s.now c.args.at 2)
    ≡ true =
    ap₂ ◌&&◌ (sym c.is_listing.ensures ∙ c.if-not-is_listing.false)
    (ap is_bound (sym c.content_at-bound.ensures) ∙ sym c.is_bound.ensures ∙ c.if-not-is_bound.false) in
    c.listed_as.ensures
    ∙ rw c.content_at-bound.ensures
    (sym (listed_tested _ _ _ (ListedForm.long long) long-range))

pub returns-then-not-is_field : goal.returns-then-not-is_field
returns-then-not-is_field c =
    let not-long : is_field c.args.s.now c.args.at 3 3 ≡ false =
    sym c.is_field.ensures ∙ c.if-is_field.false in
    rw c.of-then-not-is_field.ensures
    (sym
    (listed_is _ _ _ _
    (ListedRead.wrong not-long
    (sym c.is_field-2.ensures ∙ c.if-not-is_field.true))))

pub is_listing-requires-2 : goal.is_listing-requires-2
is_listing-requires-2 c =
    let short : is_field c.args.s.now c.args.at 3 2 ≡ true =
    sym c.is_field-2.ensures ∙ c.if-not-is_field.false in
    omega (arith, (field_inside _ _ 3 2 short).0)

pub returns-then-not-is_listing-2 : goal.returns-then-not-is_listing-2
returns-then-not-is_listing-2 c =
    let not-long : is_field c.args.s.now c.args.at 3 3 ≡ false =
    sym c.is_field.ensures ∙ c.if-is_field.false in
    let short : is_field c.args.s.now c.args.at 3 2 ≡ true =
    sym c.is_field-2.ensures ∙ c.if-not-is_field.false in
    rw c.of-then-not-is_listing-2.ensures
    (sym
    (listed_is _ _ _ _
    (ListedRead.high
    (ListedForm.short not-long short)
    (sym c.is_listing-2.ensures ∙ c.if-not-is_listing-2.true))))

pub overflow_add-at-2 : goal.overflow_add-at-2
overflow_add-at-2 c =
    let short : is_field c.args.s.now c.args.at 3 2 ≡ true =
    sym c.is_field-2.ensures ∙ c.if-not-is_field.false in
    omega (arith, (field_inside _ _ 3 2 short).0)

pub listed_as-requires-2 : goal.listed_as-requires-2
listed_as-requires-2 c =
    let not-long : is_field c.args.s.now c.args.at 3 3 ≡ false =
    sym c.is_field.ensures ∙ c.if-is_field.false in
    let short : is_field c.args.s.now c.args.at 3 2 ≡ true =
    sym c.is_field-2.ensures ∙ c.if-not-is_field.false in
    let short-range : is_listing c.args.s.now c.args.at
    ≡ true =
    sym c.is_listing-2.ensures ∙ c.if-not-is_listing-2.false in
    let q = short in (
      omega (arith, (field_inside _ _ 3 2 q).0),
      (listed_range _ _ (ListedForm.short not-long q) short-range).k_range,
    )

pub returns : goal.returns
returns c =
    let not-long : is_field c.args.s.now c.args.at 3 3 ≡ false =
    sym c.is_field.ensures ∙ c.if-is_field.false in
    let short : is_field c.args.s.now c.args.at 3 2 ≡ true =
    sym c.is_field-2.ensures ∙ c.if-not-is_field.false in
    let short-range : is_listing c.args.s.now c.args.at
    ≡ true =
    sym c.is_listing-2.ensures ∙ c.if-not-is_listing-2.false in
    c.listed_as-2.ensures
    ∙ sym
    (listed_tested _ _ _ (ListedForm.short not-long short)
    short-range)
