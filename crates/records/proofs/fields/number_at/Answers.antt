-- The invariant: `number` is the number that the bytes so far write. Assumes nothing.
use mathlib.Core.Path.{refl}
use native.Mathlib.Omega.{arith}
use Prim.Native.Nat.{◌+◌}
use Rattle.records.proofs.NumberLaws.{byte_of, number_next, number_room}
use Rattle.records.specs.Request.{number_at}
use Rattle.records.proofs.fields.number_at.Goals as goal

pub loop-b-init : goal.loop-b-init
unfolding number_at
loop-b-init c = refl

pub overflow_mul-number : goal.overflow_mul-number
overflow_mul-number c =
    let a = c.args in
    let b = byte_of a.s.now a.from a.count c.loop-b.b-index c.loop-b-test.true in
    omega (arith, number_room a.s.now a.from (λ i. omega (arith, c.type_inv.s i)) c.loop-b.b-index (omega arith), c.loop-b.invariant)

pub overflow_add-number : goal.overflow_add-number
overflow_add-number c =
    let a = c.args in
    let b = byte_of a.s.now a.from a.count c.loop-b.b-index c.loop-b-test.true in
    let d = c.type_inv.s (a.from + c.loop-b.b-index) in
    omega (arith, number_room a.s.now a.from (λ i. omega (arith, c.type_inv.s i)) c.loop-b.b-index (omega arith), c.loop-b.invariant, b.1, d)

pub loop-b-preserved : goal.loop-b-preserved
loop-b-preserved c =
    let a = c.args in
    let b = byte_of a.s.now a.from a.count c.loop-b.b-index c.loop-b-test.true in
    omega (arith, number_next a.s.now a.from c.loop-b.b-index, c.loop-b.invariant, b.1)
