-- The length is tested first, then the form, then the owners. Assumes nothing.
use borrow.Author.Tests.{le-leb, lt-leb}
use mathlib.Core.Bool.{and-false}
use mathlib.Core.Path.{◌≡◌, sym, subst, ◌∙◌}
use native.Mathlib.Omega.{arith}
use Prim.Native.Nat.{ℕ}
use Rattle.archive.specs.AnswerRead.{are_owners, told_length}
use Rattle.records.proofs.ReadSteps.{field_inside}
use Rattle.records.specs.Request.{is_field}
use Rattle.slots.specs.Limits.{LONGEST}
use Rattle.archive.proofs.answer.owners_stand.Goals as goal

pub returns-then-size-gt-LONGEST : goal.returns-then-size-gt-LONGEST
returns-then-size-gt-LONGEST c =
    let s = c.args.s.now in
    sym (rw (lt-leb (told_length s) LONGEST (omega (arith, c.told_length-size.ensures))))

pub returns-then-not-is_field : goal.returns-then-not-is_field
returns-then-not-is_field c =
    let s = c.args.s.now in
    sym
    (rw (
      sym (subst (λ (n : ℕ). c.is_field.result ≡ is_field s 4 0x11 n) c.told_length-size.ensures c.is_field.ensures) ∙ c.if-not-is_field.true,
      and-false _,
    ))

pub are_owners-requires : goal.are_owners-requires
are_owners-requires c =
    omega (arith, (field_inside _ _ 0x11 _ (sym c.is_field.ensures ∙ c.if-not-is_field.false)).0)

pub returns : goal.returns
returns c =
    let s = c.args.s.now in
    let e = c.told_length-size.ensures in
    subst (λ (n : ℕ). c.are_owners.result ≡ are_owners s n) e c.are_owners.ensures
    ∙ sym
    (rw (
      le-leb (told_length s) LONGEST (omega (arith, e)),
      sym (subst (λ (n : ℕ). c.is_field.result ≡ is_field s 4 0x11 n) e c.is_field.ensures) ∙ c.if-not-is_field.false,
    ))
