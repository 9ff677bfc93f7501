-- The tests are those of the definition: not cut off, the tag, the length that the field states. Assumes nothing.
use borrow.Author.Tests.{eq-eqb, le-leb, lt-leb, ne_eqb}
use lib.ListN.{get_or, length}
use native.Mathlib.Omega.{arith}
use Prim.Native.Nat.{◌+◌}
use Rattle.records.specs.Request.{is_field, length_at}
use Rattle.records.proofs.fields.is_field.Goals as goal

pub returns-then-s-at : goal.returns-then-s-at
unfolding is_field
returns-then-s-at c =
    let a = c.args in
    rw (lt-leb (a.at + 3 + a.size) (length a.s.now) (omega arith))

pub returns-then-s-at-2 : goal.returns-then-s-at-2
unfolding is_field
returns-then-s-at-2 c =
    let a = c.args in
    rw (lt-leb (a.at + 3 + a.size) (length a.s.now) (omega arith))

pub returns-then-s-at-3 : goal.returns-then-s-at-3
unfolding is_field
returns-then-s-at-3 c =
    let a = c.args in
    rw (le-leb (a.at + 3 + a.size) (length a.s.now) (omega arith), ne_eqb (get_or a.s.now a.at 0) a.tag c.if-s-at-3.true)

pub returns : goal.returns
unfolding is_field length_at
returns c =
    let a = c.args in
    rw (le-leb (a.at + 3 + a.size) (length a.s.now) (omega arith), eq-eqb (get_or a.s.now a.at 0) a.tag c.if-s-at-3.false, c.number_at.ensures)
