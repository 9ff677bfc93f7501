-- The id and the k are the first two bytes of the content, and the two tests are those of the definition. Assumes nothing.
use borrow.Author.Tests.{le-ltb, lt-ltb}
use native.Mathlib.Omega.{arith}
use Rattle.records.specs.Request.{content_at, is_listing}
use Rattle.slots.specs.Limits.{IDS}
use Rattle.records.proofs.read.is_listing.Goals as goal

pub returns-then-id-ge-IDS : goal.returns-then-id-ge-IDS
unfolding is_listing
returns-then-id-ge-IDS c =
    let a = c.args in
    rw (le-ltb (content_at a.s.now a.at 0) IDS (omega arith))

pub returns : goal.returns
unfolding is_listing
returns c =
    let a = c.args in
    rw (lt-ltb (content_at a.s.now a.at 0) IDS (omega arith), c.content_at-k.ensures)
