-- The invariant: what is read from `at` on, added to what was read so far, is what is read from the first place on. Assumes nothing.
use mathlib.Core.Bool.{true}
use mathlib.Core.List.{List}
use mathlib.Core.Path.{◌≡◌, sym, ◌∙◌}
use native.Mathlib.Omega.{arith}
use Prim.Native.Nat.{ℕ}
use Rattle.archive.proofs.AnswerSteps.{offset_ends, offset_goes, offset_inside, offset_stops}
use Rattle.archive.specs.AnswerRead.{offset_stands}
use Rattle.archive.proofs.answer.from_offsets.Goals as goal

-- The offset that is read stands.
abbrev Stands : List ℕ → ℕ → Type 0
Stands s at = offset_stands s at ≡ true

pub loop-id-init : goal.loop-id-init
loop-id-init c = (c.requires.0, c.requires.1, λ y d. d)

pub offset_stands-requires : goal.offset_stands-requires
offset_stands-requires c = omega (arith, c.loop-id.invariant.0)

pub content_at-id-requires : goal.content_at-id-requires
content_at-id-requires c =
    let stands : Stands c.args.s.now c.loop-id.at =
    sym c.offset_stands.ensures ∙ c.loop-id-test.true in
    omega (arith, (offset_inside _ _ stands).0)

pub content_at-offset-requires : goal.content_at-offset-requires
content_at-offset-requires c =
    let stands : Stands c.args.s.now c.loop-id.at =
    sym c.offset_stands.ensures ∙ c.loop-id-test.true in
    omega (arith, (offset_inside _ _ stands).0)

pub overflow_add-at : goal.overflow_add-at
overflow_add-at c =
    let stands : Stands c.args.s.now c.loop-id.at =
    sym c.offset_stands.ensures ∙ c.loop-id-test.true in
    omega (arith, (offset_inside _ _ stands).0)

pub loop-id-smaller : goal.loop-id-smaller
loop-id-smaller c =
    let stands : Stands c.args.s.now c.loop-id.at =
    sym c.offset_stands.ensures ∙ c.loop-id-test.true in
    omega (arith, (offset_inside _ _ stands).0)

pub loop-id-preserved : goal.loop-id-preserved
loop-id-preserved c =
    let stands : Stands c.args.s.now c.loop-id.at =
    sym c.offset_stands.ensures ∙ c.loop-id-test.true in
    let l = c.loop-id in
    let s = c.args.s.now in (
      omega arith,
      omega arith,
      λ y d. l.invariant.2 y (offset_goes s l.x l.at l.invariant.0 l.invariant.1 y _ _ c.content_at-id.ensures c.content_at-offset.ensures stands d),
    )

pub returns-then-at-s : goal.returns-then-at-s
returns-then-at-s c =
    let a = c.args in
    let l = c.loop-id in
    rw c.bad_field.ensures
    (l.invariant.2 _ (offset_stops a.s.now l.x l.at l.invariant.0 l.invariant.1 (sym c.offset_stands.ensures ∙ c.loop-id-test.false) c.if-at-s.true))

pub returns : goal.returns
returns c =
    let l = c.loop-id in
    l.invariant.2 _ (offset_ends _ l.x l.at l.invariant.0 l.invariant.1 c.if-at-s.false)
