-- The content of the first field is its fourth byte. Assumes nothing.
use lib.ListN.{get_or-eq_default}
use mathlib.Core.Path.{refl, sym}
use native.Mathlib.Omega.{arith}
use Rattle.records.specs.Request.{content_at}
use Rattle.archive.proofs.answer.told_length.Goals as goal

pub returns-then-s-le3 : goal.returns-then-s-le3
unfolding content_at
returns-then-s-le3 c = sym (get_or-eq_default c.args.s.now 0 (omega arith))

pub returns-else-s-le3 : goal.returns-else-s-le3
unfolding content_at
returns-else-s-le3 c = refl
