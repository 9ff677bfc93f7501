-- The owners are copied to the front of zeros. Assumes nothing.
use lib.ListN.{drop}
use mathlib.Core.List.{List, ◌++◌}
use mathlib.Core.Path.{ap, ◌∙◌}
use native.Mathlib.Omega.{arith}
use Prim.Native.Nat.{ℕ}
use Rattle.archive.proofs.ScheduleLaws.{owners_copied, owners_none}
use Rattle.archive.proofs.answer.put_owners.Goals as goal

pub returns-then-count-gt0 : goal.returns-then-count-gt0
returns-then-count-gt0 c =
    let s = c.args.s.now in
    let n = c.told_length-count.result in
    ap (λ (l : List ℕ). l ++ drop n c.args.owners.now) c.copy_from_slice.ensures.after ∙ rw c.requires.zeros
    (owners_copied s n c.told_length-count.ensures (omega (arith, c.told_length-count.ensures, c.requires.told.0)) (omega (arith, c.told_length-count.ensures, c.requires.told.1)))

pub returns-else-count-gt0 : goal.returns-else-count-gt0
returns-else-count-gt0 c =
    c.requires.zeros ∙ owners_none c.args.s.now (omega (arith, c.told_length-count.ensures, c.if-count-gt0.false))
