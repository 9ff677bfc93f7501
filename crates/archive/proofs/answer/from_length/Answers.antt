-- A length that stands is read, and then the owners. Assumes nothing.
use mathlib.Core.Path.{sym, subst, ◌∙◌}
use Prim.Native.Nat.{ℕ}
use Rattle.archive.proofs.AnswerSteps.{AnswerRead, length_goes, length_stops}
use Rattle.archive.specs.AnswerRead.{read_into}
use Rattle.archive.proofs.answer.from_length.Goals as goal

pub returns-then-not-length_stands : goal.returns-then-not-length_stands
returns-then-not-length_stands c =
    rw c.bad_field.ensures
    (length_stops c.args.s.now c.args.x.now (sym c.length_stands.ensures ∙ c.if-not-length_stands.true))

pub returns : goal.returns
returns c =
    let s = c.args.s.now in
    let x = c.args.x.now in
    let r = read_into c.from_owners.new.x c.from_owners.result in
    length_goes s x r (sym c.length_stands.ensures ∙ c.if-not-length_stands.false)
    (subst (λ (n : ℕ). AnswerRead s 4 (record { length = n; owners = x.owners; offsets = x.offsets }) r) c.told_length-x.ensures c.from_owners.ensures)
