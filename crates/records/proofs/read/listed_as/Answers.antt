-- The id is tested against the floor as in the definition, and the period is the power of the content's second byte. Assumes nothing.
use borrow.Author.Tests.{le-leb, lt-leb}
use native.Mathlib.Omega.{arith}
use Rattle.records.specs.Request.{content_at, listed_as}
use Rattle.records.proofs.read.listed_as.Goals as goal

pub returns-then-id-floor : goal.returns-then-id-floor
unfolding listed_as
returns-then-id-floor c =
    let a = c.args in
    rw (lt-leb a.floor (content_at a.s.now a.at 0) (omega arith), c.of.ensures)

pub returns : goal.returns
unfolding listed_as
returns c =
    let a = c.args in
    rw (le-leb a.floor (content_at a.s.now a.at 0) (omega arith), c.content_at-id.ensures, c.power-period.ensures, c.content_at.ensures)
