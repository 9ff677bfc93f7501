-- `owner_of` makes the definition's tests in their order. Assumes nothing.
use mathlib.Core.Path.{sym, ap, ◌∙◌}
use Rattle.change.proofs.QueryLaws.{owner_number_is, owner_slot, owner_told, owner_unsound, slot_passed, slot_refused}
use Rattle.change.specs.Queried.{owner_answer}
use Rattle.change.specs.Queries.{owner_query}
use Rattle.numbers.specs.Numbers.{ACCEPTED}
use Rattle.std.proofs.lemmas.Result.{err_from_is_err_and}
use Rattle.timetable.specs.declared.Timetable.{Timetable}
use Rattle.change.proofs.queries.owner_of.Goals as goal

pub returns-in_err-sound-clause-refused : goal.returns-in_err-sound-clause-refused
returns-in_err-sound-clause-refused c =
    let p = err_from_is_err_and c.from_residual.result c.from_residual.ensures.1 in
    rw (p.1, p.2, c.in_err-sound.ensures.1) (owner_unsound c.args.t.now c.args.slot c.in_err-sound.ensures.0)

pub returns-in_err-slot_stages-clause-refused : goal.returns-in_err-slot_stages-clause-refused
returns-in_err-slot_stages-clause-refused c =
    let p = err_from_is_err_and c.from_residual-in_err-slot_stages.result c.from_residual-in_err-slot_stages.ensures.1 in
    let s = c.in_ok-sound.sound in
    let h = c.slot_stages.ensures in
    rw (p.1, p.2)
    (ap (λ (t : Timetable). owner_query t c.args.slot) (sym c.in_ok-sound.ensures) ∙ owner_slot s.timetable.now c.args.slot s.sound _
    (slot_refused s.timetable.now c.args.slot _ h.high h.early h.in_time _ c.in_err-slot_stages.was))

pub returns-clause-owned : goal.returns-clause-owned
returns-clause-owned c =
    let s = c.in_ok-sound.sound in
    let h = c.slot_stages.ensures in
    let k = slot_passed s.timetable.now c.args.slot _ h.high h.early h.in_time _ c.in_ok-slot_stages.was in
    let o = owner_number_is s.timetable.now c.args.slot _ c.owner_at.ensures ∙ sym c.unwrap_or.ensures in
    ap (λ (t : Timetable). owner_query t c.args.slot) (sym c.in_ok-sound.ensures)
    ∙ owner_told s.timetable.now c.args.slot s.sound k.0 k.1
    ∙ ap (owner_answer ACCEPTED) o
