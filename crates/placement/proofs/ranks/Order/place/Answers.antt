-- `place` meets its contract. The loop's invariant: the first i of the demands have their places, which the table and the offsets show, and
-- the placement goes on from there with the rest. Assumes nothing.
use mathlib.Core.Path.{sym, ap, ◌∙◌}
use native.Mathlib.Omega.{arith}
use Rattle.placement.proofs.Placing.{turn_next, turn_last, reached_none, reached_fair, reached_stuck, reached_offset, reached_more, reached_all}
use Rattle.timetable.specs.Sound.{is_period}
use Rattle.placement.proofs.ranks.Order.place.Goals as goal

pub loop-rank-init : goal.loop-rank-init
loop-rank-init c = reached_none _ _ c.requires c.none-taken.result.bits c.none-taken.ensures

pub take_last-requires : goal.take_last-requires
take_last-requires c =
    let l = c.loop-rank in
    let f = reached_fair _ _ _ _ _ (turn_next _ _ l.taken.bits l.offsets l.rank-index l.invariant c.loop-rank-test.true) in
    let p = c.period in
    (ap is_period p.ensures ∙ f.0, omega (arith, f.1, p.ensures, c.last.ensures))

pub returns-in_err-offset : goal.returns-in_err-offset
returns-in_err-offset c =
    let l = c.loop-rank in
    let n = turn_next _ _ l.taken.bits l.offsets l.rank-index l.invariant c.loop-rank-test.true in
    let last = c.last in
    c.from_residual.ensures ∙ sym (reached_stuck _ _ _ _ _ n last.result last.ensures c.take_last.result c.take_last.ensures.finds c.in_err-offset.was)

pub overflow_cast-offsets : goal.overflow_cast-offsets
overflow_cast-offsets c =
    let l = c.loop-rank in
    let n = turn_next _ _ l.taken.bits l.offsets l.rank-index l.invariant c.loop-rank-test.true in
    let last = c.last in
    record { fits = omega (arith, reached_offset _ _ _ _ _ n last.result last.ensures c.take_last.result c.take_last.ensures.finds c.in_ok-offset.offset c.in_ok-offset.was) }

pub loop-rank-preserved : goal.loop-rank-preserved
loop-rank-preserved c =
    let i = c.id in
    let l = c.loop-rank in
    let n = turn_next _ _ l.taken.bits l.offsets l.rank-index l.invariant c.loop-rank-test.true in
    let last = c.last in
    let p = c.period in
    reached_more _ _ _ _ _ n last.result last.ensures c.take_last.result c.take_last.ensures.finds c.in_ok-offset.offset c.in_ok-offset.was
    p.result i.result c.take_last.new.self.bits p.ensures i.ensures (c.take_last.ensures.by_index c.in_ok-offset.offset c.in_ok-offset.was)

pub returns : goal.returns
returns c =
    let l = c.loop-rank in
    sym (reached_all _ l.taken.bits l.offsets (turn_last _ _ l.taken.bits l.offsets l.rank-index l.invariant c.loop-rank-test.false))
