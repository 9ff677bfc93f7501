-- `behind` meets its contract: the search for the first entry that is behind names an id or nobody. Assumes nothing.
use borrow.Author.Tests.{tests}
use mathlib.Core.Bool.{true, false}
use mathlib.Core.Path.{◌≡◌, sym, ap, ◌∙◌}
use native.Mathlib.Omega.{arith}
use Rattle.change.proofs.StageSteps.{behind_here, behind_nobody}
use Rattle.change.specs.Stages.{is_behind}
use Rattle.numbers.specs.Chain.{Refused}
use Rattle.std.proofs.Common.{rules}
use Rattle.std.proofs.lemmas.Iterator.{IsFirst-from_position, YieldsList-from_slice}
use Rattle.std.proofs.lemmas.Option.{MatchOption-at_none, MatchOption-at_some}
use Rattle.change.proofs.before.behind.Goals as goal

pub returns-in-Some : goal.returns-in-Some
returns-in-Some c =
    let es = c.args.entries.now in
    let m =
    IsFirst-from_position _ _ c.position.result (λ e. is_behind e ≡ true) (λ e. is_behind e ≡ false) c.position.ensures.ran (YieldsList-from_slice es cc)
    (λ x q k. search (rules, tests)) (λ x q k. search (rules, tests)) in
    let k = MatchOption-at_some _ _ _ c.in-Some.is m in
    behind_here es (omega arith) c.in-Some.id k.0 k.1 k.2 ∙ sym (ap Refused c.of.ensures)

pub returns-in-None : goal.returns-in-None
returns-in-None c =
    let es = c.args.entries.now in
    let m =
    IsFirst-from_position _ _ c.position.result (λ e. is_behind e ≡ true) (λ e. is_behind e ≡ false) c.position.ensures.ran (YieldsList-from_slice es cc)
    (λ x q k. search (rules, tests)) (λ x q k. search (rules, tests)) in
    behind_nobody es (omega arith) (MatchOption-at_none _ _ c.in-None.is m)
