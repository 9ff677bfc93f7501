-- The owners stand from byte 7 on; past the record and past the length there is none. Assumes nothing.
use borrow.Author.Tests.{le-ltb, lt-ltb}
use lib.ListN.{get_or-eq_default}
use mathlib.Core.Path.{sym}
use native.Mathlib.Omega.{arith}
use Rattle.archive.specs.AnswerRead.{told_owner, told_length}
use Rattle.records.specs.Request.{content_at}
use Rattle.archive.proofs.answer.owner_at.Goals as goal

pub returns-then-told_length-n : goal.returns-then-told_length-n
unfolding told_owner
returns-then-told_length-n c =
    let a = c.args in
    rw (le-ltb a.n (told_length a.s.now) (omega (arith, c.told_length.ensures)))

pub returns-then-s-n : goal.returns-then-s-n
unfolding told_owner content_at
returns-then-s-n c =
    let a = c.args in
    rw (lt-ltb a.n (told_length a.s.now) (omega (arith, c.told_length.ensures))) (sym (get_or-eq_default a.s.now 0 (omega arith)))

pub returns : goal.returns
unfolding told_owner content_at
returns c =
    let a = c.args in
    rw (lt-ltb a.n (told_length a.s.now) (omega (arith, c.told_length.ensures)))
