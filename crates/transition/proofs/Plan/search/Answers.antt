-- `search` meets its contract. The loop's invariant: n lengths were passed over and counted, the plan is the one that length n reaches, the order lists
-- the ids, and the definition's search goes on from there. Each way to leave gives the definition's answer. Assumes nothing.
use borrow.Author.Rules.{rules}
use lib.ListN.{length}
use mathlib.Core.Path.{◌≡◌}
use native.Mathlib.Omega.{arith}
use Rattle.slots.specs.Limits.{IDS}
use Rattle.transition.proofs.SearchLaws.{stands_first, stands_found, stands_ranged, stands_exhausted, stands_missed, stands_on}
use Rattle.transition.proofs.Plan.search.Goals as goal

pub loop-order-init : goal.loop-order-init
loop-order-init c =
    let size : length c.args.self.now.entries ≡ IDS = search rules in
    stands_first c.args.limit c.args.self.now _ _ size c.requires.ready c.of-order.ensures

pub overflow_add-tries : goal.overflow_add-tries
overflow_add-tries c =
    omega (arith, c.loop-order.invariant.within, c.loop-order.invariant.counted, c.requires.size)

pub returns-then-found : goal.returns-then-found
returns-then-found c = stands_found c.loop-order.invariant c.place-found.result c.place-found.new.self c.place-found.ensures.settled c.if-found.true

pub returns-then-n-limit : goal.returns-then-n-limit
returns-then-n-limit c =
    stands_exhausted c.loop-order.invariant c.place-found.result c.place-found.new.self c.place-found.ensures.settled c.if-found.false c.if-n-limit.true

pub longer-requires : goal.longer-requires
longer-requires c = (
  omega (arith, c.loop-order.invariant.within, c.if-n-limit.false, c.requires.size),
  stands_ranged c.loop-order.invariant c.place-found.result c.place-found.new.self c.place-found.ensures.settled c.if-found.false,
)

pub returns-then-not-longer : goal.returns-then-not-longer
returns-then-not-longer c =
    stands_missed c.loop-order.invariant c.place-found.result c.place-found.new.self c.place-found.ensures.settled c.if-found.false
    c.if-n-limit.false c.longer.result c.longer.new.self c.longer.ensures c.if-not-longer.true

pub overflow_add-n : goal.overflow_add-n
overflow_add-n c = omega (arith, c.loop-order.invariant.within, c.requires.size)

pub loop-order-smaller : goal.loop-order-smaller
loop-order-smaller c = omega (arith, c.loop-order.invariant.within, c.if-n-limit.false)

pub loop-order-preserved : goal.loop-order-preserved
loop-order-preserved c =
    stands_on c.loop-order.invariant c.place-found.result c.place-found.new.self c.place-found.ensures.settled c.if-found.false
    c.if-n-limit.false c.longer.result c.longer.new.self c.longer.ensures c.if-not-longer.false _ _ c.place-found.new.order.few c.place-found.ensures.ranked
