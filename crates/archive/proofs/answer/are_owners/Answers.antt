-- The invariant: it is answered whether each of the owners below n is 0 to 31. Assumes nothing.
use borrow.Author.Tests.{le-ltb, lt-ltb}
use mathlib.Core.Bool.{Bool, true, false, ◌&&◌}
use mathlib.Core.Path.{◌≡◌, refl, sym, ◌∙◌}
use native.Mathlib.Omega.{arith}
use Rattle.archive.specs.AnswerRead.{are_owners}
use Rattle.records.specs.Request.{content_at}
use Rattle.slots.specs.Below.{every}
use Rattle.timetable.proofs.ScanLaws.{every_next}
use Rattle.archive.proofs.answer.are_owners.Goals as goal
use Rattle.archive.proofs.answer.are_owners.Invariants.{test}
use Rattle.archive.proofs.answer.are_owners.Goals.{then-s-n-ge-IDS, else-s-n-ge-IDS}

-- One that is not makes the answer no, and one that is leaves it.
and-false : (b : Bool) → false ≡ (b && false)
and-false true = refl
and-false false = refl

and-true : (b : Bool) → b ≡ (b && true)
and-true true = refl
and-true false = refl

pub loop-n-init : goal.loop-n-init
unfolding every
loop-n-init c = refl

pub loop-n-preserved : goal.loop-n-preserved
unfolding content_at
loop-n-preserved c =
    let l = c.loop-n in
    let a = c.args in
    elim c.if-s-n-ge-IDS.branch [
      | then-s-n-ge-IDS w ↦ every_next (test a.s.now) l.n _ l.are false (w.are-is ∙ and-false l.are) l.invariant (sym (le-ltb _ _ w.if-s-n-ge-IDS.true))
      | else-s-n-ge-IDS w ↦ every_next (test a.s.now) l.n _ l.are true (w.are-is ∙ and-true l.are) l.invariant (sym (lt-ltb _ _ w.if-s-n-ge-IDS.false))
    ]

pub returns : goal.returns
unfolding are_owners
returns c =
    let l = c.loop-n in
    let n : l.n ≡ c.args.size = omega arith in
    rw n at l.invariant
