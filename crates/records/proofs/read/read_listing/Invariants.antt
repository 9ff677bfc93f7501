-- The invariant: the listing from the place where it begins is the listing from `at` on, with ids from `floor` and what was read so far. Assumes nothing.
use Rattle.std.proofs.Common.{length, ◌-◌, ◌≡◌}
use Rattle.records.proofs.NextStep.{listing_at}
use Rattle.records.specs.Request.{no_asks}
use Rattle.records.proofs.read.read_listing.Given as goal

abbrev pub invariant-loop-at : goal.invariant-loop-at
invariant-loop-at l = listing_at l.s (length l.s) l.from 0 no_asks ≡ listing_at l.s (length l.s) l.at l.floor l.asks

abbrev pub decreases-loop-at : goal.decreases-loop-at
decreases-loop-at l = length l.s - l.at
