-- The invariant: the bytes that are left, put before those already put, are the whole number. Assumes nothing.
use lib.ListN.{length-set}
use mathlib.Core.Path.{◌≡◌, ◌∙◌}
use native.Mathlib.Omega.{arith}
use Rattle.records.proofs.NumberLaws.{number_put}
use Rattle.records.specs.Written.{number_bytes}
use Rattle.records.proofs.fields.put_number.Goals as goal

pub loop-n-preserved : goal.loop-n-preserved
loop-n-preserved c =
    let l = c.loop-n in
    (simp length-set l.invariant.0, number_put l.area c.args.at l.n l.rest (omega arith) ∙ l.invariant.1)

pub returns : goal.returns
unfolding number_bytes
returns c =
    let n : c.loop-n.n ≡ 0 = omega arith in
    rw n at c.loop-n.invariant.1
