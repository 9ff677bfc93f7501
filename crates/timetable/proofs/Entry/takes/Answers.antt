-- `takes` asks the definition's two questions, of the period and of the remainder. Assumes nothing.
use lib.Dec.{eqb}
use mathlib.Core.Path.{sym, ap, ◌∙◌}
use Prim.Native.Nat.{ℕ}
use Rattle.timetable.proofs.EntryLaws.{cyclic_none, cyclic_test, listed}
use Rattle.timetable.proofs.Ranges.{in_range_from, period_is}
use Rattle.timetable.proofs.Entry.takes.Goals as goal

pub returns-then-self-eq0 : goal.returns-then-self-eq0
returns-then-self-eq0 c = let a = c.args in sym (cyclic_none a.self a.n c.if-self-eq0.true)

pub phase-requires : goal.phase-requires
phase-requires c =
    let e = c.args.self in
    period_is e.period (in_range_from e (c.requires (listed e.period c.if-self-eq0.false))).period

pub returns : goal.returns
returns c =
    let a = c.args in
    ap (λ (x : ℕ). eqb x a.self.offset) c.phase.ensures ∙ sym (cyclic_test a.self a.n c.if-self-eq0.false)
