-- Owners that stand are read, and then the offsets. Assumes nothing.
use mathlib.Core.List.{List}
use mathlib.Core.Path.{sym, subst, ◌∙◌}
use Prim.Native.Nat.{ℕ, ◌+◌}
use Rattle.archive.proofs.AnswerSteps.{AnswerRead, owners_goes, owners_inside, owners_stops}
use Rattle.archive.specs.AnswerRead.{owners_below, read_into}
use Rattle.archive.specs.declared.Schedule.{Schedule}
use Rattle.slots.specs.Limits.{LONGEST}
use Rattle.archive.proofs.answer.from_owners.Goals as goal

-- What was read up to the offsets.
abbrev ahead : Schedule → List ℕ → Schedule
ahead x owners = record { length = x.length; owners = owners; offsets = x.offsets }

pub returns-then-not-owners_stand : goal.returns-then-not-owners_stand
returns-then-not-owners_stand c =
    let a = c.args in
    rw c.bad_field.ensures
    (owners_stops a.s.now a.x.now (sym c.owners_stand.ensures ∙ c.if-not-owners_stand.true))

pub put_owners-requires-clause-told : goal.put_owners-requires-clause-told
put_owners-requires-clause-told c = owners_inside _ (sym c.owners_stand.ensures ∙ c.if-not-owners_stand.false)

pub returns : goal.returns
returns c =
    let a = c.args in
    let r = read_into c.from_offsets.new.x c.from_offsets.result in
    owners_goes a.s.now a.x.now r (sym c.owners_stand.ensures ∙ c.if-not-owners_stand.false)
    (subst (λ (n : ℕ). AnswerRead a.s.now (7 + n) (ahead a.x.now (owners_below a.s.now LONGEST)) r) c.told_length.ensures
    (subst (λ (l : List ℕ). AnswerRead a.s.now (7 + c.told_length.result) (ahead a.x.now l) r) c.put_owners.ensures c.from_offsets.ensures))
