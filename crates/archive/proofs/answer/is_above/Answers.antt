-- The field before begins five bytes earlier, so its id is the byte two before. Assumes nothing.
use borrow.Author.Tests.{le-leb, lt-leb}
use mathlib.Core.Path.{◌≡◌, refl, sym}
use native.Mathlib.Omega.{arith}
use Prim.Native.Nat.{◌+◌, ◌-◌}
use Rattle.archive.specs.AnswerRead.{floor_at, told_length}
use Rattle.records.specs.Request.{content_at}
use Rattle.archive.proofs.answer.is_above.Goals as goal

pub returns-then-at-told_length : goal.returns-then-at-told_length
unfolding floor_at
returns-then-at-told_length c =
    let a = c.args in
    rw (le-leb a.at (7 + told_length a.s.now) (omega (arith, c.told_length.ensures))) (sym (le-leb 0 a.id (omega arith)))

pub returns : goal.returns
unfolding floor_at content_at
returns c =
    let a = c.args in
    let k : a.at - 5 + 3 + 0 ≡ a.at - 2 = omega (arith, c.told_length.ensures) in
    rw (lt-leb a.at (7 + told_length a.s.now) (omega (arith, c.told_length.ensures)), k) refl
