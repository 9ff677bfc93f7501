-- `longer` asks to whom the slot goes, as the definition does, and writes its owner and the entries over it. Assumes nothing.
use mathlib.Core.Bool.{true}
use mathlib.Core.Path.{sym, ap, ◌∙◌}
use native.Mathlib.Omega.{arith}
use Rattle.transition.proofs.StepLaws.{owner_id, next_nobody, next_given}
use Rattle.transition.specs.declared.Plan.{Plan}
use Rattle.transition.proofs.Plan.longer.Goals as goal

pub returns-in_default : goal.returns-in_default
returns-in_default c = next_nobody c.args.self.now c.args.n (sym c.most_urgent.ensures ∙ c.in_default.is)

pub overflow_cast-self : goal.overflow_cast-self
overflow_cast-self c =
    record { fits = omega (arith, (owner_id c.args.n c.args.self.now c.in-Some.u (sym c.most_urgent.ensures ∙ c.in-Some.is)).0) }

pub over_all-requires : goal.over_all-requires
over_all-requires c =
    (c.requires.1, (owner_id c.args.n c.args.self.now c.in-Some.u (sym c.most_urgent.ensures ∙ c.in-Some.is)).0)

pub returns : goal.returns
returns c =
    ap (λ (p : Plan). (true, p)) c.over_all.ensures
    ∙ next_given c.args.self.now c.args.n c.in-Some.u (sym c.most_urgent.ensures ∙ c.in-Some.is)
