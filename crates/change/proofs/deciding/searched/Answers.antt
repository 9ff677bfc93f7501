-- `searched` tells the ending of the search, as the answer's definition does. Assumes nothing.
use mathlib.Core.Path.{ap, ◌∙◌}
use native.Mathlib.Omega.{arith}
use Rattle.change.proofs.Passing.{found_below, search_is}
use Rattle.change.proofs.ToldLaws.{told_exhausted, told_found, told_missed}
use Rattle.change.specs.Change.{answer_of, shortfalls_of, starts_of}
use Rattle.transition.specs.declared.Plan.{Plan}
use Rattle.change.proofs.deciding.searched.Goals as goal

pub search-found-requires : goal.search-found-requires
search-found-requires c = record { size = c.requires.in_range.1; ready = c.requires.ready }

pub enter_force-requires : goal.enter_force-requires
enter_force-requires c =
    (c.requires.in_range.0, omega (arith, found_below c.args.asked.now.limit c.args.plan.now _ c.search-found.ensures _ c.in-Found.is, c.requires.in_range.1))

pub returns-in-Found-clause-told : goal.returns-in-Found-clause-told
unfolding starts_of
returns-in-Found-clause-told c =
    let t = c.args.t.now in
    let p = c.requires.start in
    let q = c.args.asked.now in
    let s = c.shortfalls_of-starts.ensures ∙ ap (λ (y : Plan). shortfalls_of y.entries) p in
    told_found t q _ _ _ _ c.in-Found.is _ s _ c.enter_force.ensures ∙ ap (answer_of t q) (search_is t q _ p _ c.search-found.ensures)

pub returns-in-Missed-clause-told : goal.returns-in-Missed-clause-told
returns-in-Missed-clause-told c =
    let t = c.args.t.now in
    let p = c.requires.start in
    let q = c.args.asked.now in
    told_missed t q _ _ _ _ _ c.in-Missed.is c.wanting.ensures ∙ ap (answer_of t q) (search_is t q _ p _ c.search-found.ensures)

pub returns-in-Exhausted-clause-told : goal.returns-in-Exhausted-clause-told
returns-in-Exhausted-clause-told c =
    let t = c.args.t.now in
    let p = c.requires.start in
    let q = c.args.asked.now in
    told_exhausted t q _ _ _ _ _ c.in-Exhausted.is c.wanting-in-Exhausted.ensures ∙ ap (answer_of t q) (search_is t q _ p _ c.search-found.ensures)
