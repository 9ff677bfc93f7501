-- `last_free` meets its contract. The loop's invariant: the search has come down to the slots that are left. Assumes nothing.
use borrow.Author.Rules.{rules}
use lib.Count.{count_leading_zeros}
use mathlib.Core.Path.{◌≡◌}
use native.Mathlib.Omega.{arith}
use Prim.Native.Nat.{ℕ, ◌-◌, ◌≤◌}
use Rattle.placement.proofs.Table.{passed_free, passed_word, passed_all}
use Rattle.std.specs.Prelude.{Some}
use Rattle.placement.specs.Placed.{Finds}
use Rattle.timetable.specs.Marks.{WORD}
use Rattle.placement.proofs.taken.Taken.last_free.Goals as goal

pub overflow_sub-result : goal.overflow_sub-result
overflow_sub-result c =
    let found : let zeros = count_leading_zeros WORD c.free_up_to-free.result in
    (zeros ≤ c.loop-left.left - 1) × Finds c.args.self.now.bits c.args.last (Some (c.loop-left.left - 1 - zeros)) =
    let a = c.args in
    passed_free a.self.now.bits a.last c.loop-left.left c.loop-left.invariant.1 (omega arith) (c.loop-left.left - 1) (omega arith)
    c.free_up_to-free.result c.free_up_to-free.ensures (omega (arith, c.if-free-ne0.true)) (search rules) in
    found.0

pub returns-then-free-ne0 : goal.returns-then-free-ne0
returns-then-free-ne0 c =
    let found : let zeros = count_leading_zeros WORD c.free_up_to-free.result in
    (zeros ≤ c.loop-left.left - 1) × Finds c.args.self.now.bits c.args.last (Some (c.loop-left.left - 1 - zeros)) =
    let a = c.args in
    passed_free a.self.now.bits a.last c.loop-left.left c.loop-left.invariant.1 (omega arith) (c.loop-left.left - 1) (omega arith)
    c.free_up_to-free.result c.free_up_to-free.ensures (omega (arith, c.if-free-ne0.true)) (search rules) in
    record { finds = found.1; by_index = λ o e. let z : c.loop-left.left - 1 - count_leading_zeros WORD c.free_up_to-free.result ≡ o = cc in omega arith }

pub loop-left-preserved : goal.loop-left-preserved
loop-left-preserved c =
    let a = c.args in (
      omega arith,
      passed_word a.self.now.bits a.last c.loop-left.left c.loop-left.invariant.1 (omega arith) (c.loop-left.left - 1) (omega arith)
          c.free_up_to-free.result c.free_up_to-free.ensures (omega (arith, c.if-free-ne0.false)),
    )

pub returns : goal.returns
returns c =
    let a = c.args in
    record { finds = passed_all a.self.now.bits a.last _ c.loop-left.invariant.1 (omega arith) (omega arith); by_index = λ o k. absurd (let z : ◌≡◌ {A = ℕ} 0 1 = cc in omega arith) }
