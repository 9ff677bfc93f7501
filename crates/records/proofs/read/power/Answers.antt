-- A shift of 1 by k is 2^k, which fits for a k up to 8. Assumes nothing.
use native.Mathlib.Nat.{pow-le-pow_right}
use native.Mathlib.Omega.{arith}
use Rattle.records.proofs.read.power.Goals as goal

pub returns : goal.returns
returns c = omega (arith, pow-le-pow_right {n = 2} (omega arith) {i = c.args.k} {j = 8} (omega arith))
