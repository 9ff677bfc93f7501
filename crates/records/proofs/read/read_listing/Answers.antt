-- The invariant: the listing from the place where it begins is the listing from `at` on, with ids from `floor` and what was read so far. Assumes nothing.
use mathlib.Core.Path.{sym, ◌∙◌}
use native.Mathlib.Omega.{arith}
use Rattle.records.proofs.NextStep.{Ahead, listed_ahead, listing_end, listing_floor, listing_step, listing_after, listing_at}
use Rattle.std.specs.Prelude.{Ok}
use Rattle.records.proofs.read.read_listing.Goals as goal

pub returns-in_default : goal.returns-in_default
unfolding listing_at listing_after
returns-in_default c =
    let l = c.loop-at in
    sym (l.invariant ∙ listing_step _ _ _ _ l.asks c.loop-at-test.true _ (sym c.listed_field-field.ensures ∙ c.unwrap_err.ensures))

pub bounds-asks-id : goal.bounds-asks-id
unfolding Ahead
bounds-asks-id c =
    let ahead : Ahead c.loop-at.at (Ok c.in-Ok.field-0) = listed_ahead _ _ _ _ (sym c.listed_field-field.ensures ∙ c.in-Ok.is) in
    ahead.0

pub overflow_add-floor : goal.overflow_add-floor
unfolding Ahead
overflow_add-floor c =
    let ahead : Ahead c.loop-at.at (Ok c.in-Ok.field-0) = listed_ahead _ _ _ _ (sym c.listed_field-field.ensures ∙ c.in-Ok.is) in
    omega (arith, ahead.0)

pub loop-at-smaller : goal.loop-at-smaller
unfolding Ahead
loop-at-smaller c =
    let ahead : Ahead c.loop-at.at (Ok c.in-Ok.field-0) = listed_ahead _ _ _ _ (sym c.listed_field-field.ensures ∙ c.in-Ok.is) in
    omega (arith, ahead.1)

pub loop-at-preserved : goal.loop-at-preserved
unfolding listing_after
loop-at-preserved c =
    let l = c.loop-at in
    l.invariant
    ∙ listing_step _ _ _ _ l.asks c.loop-at-test.true _
    (sym c.listed_field-field.ensures ∙ c.in-Ok.is)
    ∙ listing_floor _ _ _ _ _ _ (omega arith)

pub returns : goal.returns
unfolding listing_at
returns c =
    let l = c.loop-at in
    sym (l.invariant ∙ listing_end c.args.s.now l.at l.floor _ l.asks c.loop-at-test.false)
