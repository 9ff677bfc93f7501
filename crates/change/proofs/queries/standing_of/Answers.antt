-- `standing_of` makes the definition's tests in their order. Assumes nothing.
use mathlib.Core.Path.{sym, ap, ◌∙◌}
use Rattle.change.proofs.QueryLaws.{slot_passed, slot_refused, standing_no_id, standing_slot, standing_told, standing_unlisted, standing_unsound}
use Rattle.change.specs.Queries.{standing, standing_query}
use Rattle.std.proofs.lemmas.Result.{err_from_is_err_and}
use Rattle.timetable.specs.declared.Timetable.{Timetable}
use Rattle.timetable.specs.Timetable.{lists}
use Rattle.change.proofs.queries.standing_of.Goals as goal

pub returns-in_err-sound-clause-refused : goal.returns-in_err-sound-clause-refused
returns-in_err-sound-clause-refused c =
    let p = err_from_is_err_and c.from_residual.result c.from_residual.ensures.1 in
    rw (p.1, p.2, c.in_err-sound.ensures.1) (standing_unsound c.args.t.now c.args.slot c.args.id c.in_err-sound.ensures.0)

pub returns-then-id-ge-IDS-clause-refused : goal.returns-then-id-ge-IDS-clause-refused
returns-then-id-ge-IDS-clause-refused c =
    let s = c.in_ok-sound.sound in
    rw c.of.ensures
    (ap (λ (t : Timetable). standing_query t c.args.id c.args.slot) (sym c.in_ok-sound.ensures)
    ∙ standing_no_id s.timetable.now c.args.slot c.args.id s.sound c.if-id-ge-IDS.true)

pub returns-in_err-slot_stages-clause-refused : goal.returns-in_err-slot_stages-clause-refused
returns-in_err-slot_stages-clause-refused c =
    let p = err_from_is_err_and c.from_residual-in_err-slot_stages.result c.from_residual-in_err-slot_stages.ensures.1 in
    let s = c.in_ok-sound.sound in
    let h = c.slot_stages.ensures in
    rw (p.1, p.2)
    (ap (λ (t : Timetable). standing_query t c.args.id c.args.slot) (sym c.in_ok-sound.ensures)
    ∙ standing_slot s.timetable.now c.args.slot c.args.id s.sound c.if-id-ge-IDS.false _
    (slot_refused s.timetable.now c.args.slot _ h.high h.early h.in_time _ c.in_err-slot_stages.was))

pub returns-then-not-is_listed-clause-refused : goal.returns-then-not-is_listed-clause-refused
returns-then-not-is_listed-clause-refused c =
    let s = c.in_ok-sound.sound in
    let h = c.slot_stages.ensures in
    let k = slot_passed s.timetable.now c.args.slot _ h.high h.early h.in_time _ c.in_ok-slot_stages.was in
    let l = ap (λ (t : Timetable). lists t c.args.id) c.in_ok-sound.ensures ∙ sym c.is_listed.ensures ∙ c.if-not-is_listed.true in
    rw c.of-then-not-is_listed.ensures
    (ap (λ (t : Timetable). standing_query t c.args.id c.args.slot) (sym c.in_ok-sound.ensures)
    ∙ standing_unlisted s.timetable.now c.args.slot c.args.id s.sound c.if-id-ge-IDS.false k.0 k.1 l)

pub standing_at-requires : goal.standing_at-requires
standing_at-requires c =
    let s = c.in_ok-sound.sound in
    let h = c.slot_stages.ensures in
    let k = slot_passed s.timetable.now c.args.slot _ h.high h.early h.in_time _ c.in_ok-slot_stages.was in
    let l = ap (λ (t : Timetable). lists t c.args.id) c.in_ok-sound.ensures ∙ sym c.is_listed.ensures ∙ c.if-not-is_listed.false in
    (c.if-id-ge-IDS.false, l, k.1)

pub returns-clause-stands : goal.returns-clause-stands
unfolding standing
returns-clause-stands c =
    let s = c.in_ok-sound.sound in
    let h = c.slot_stages.ensures in
    let k = slot_passed s.timetable.now c.args.slot _ h.high h.early h.in_time _ c.in_ok-slot_stages.was in
    let l = ap (λ (t : Timetable). lists t c.args.id) c.in_ok-sound.ensures ∙ sym c.is_listed.ensures ∙ c.if-not-is_listed.false in
    let e = c.standing_at.ensures in
    ap (λ (t : Timetable). standing_query t c.args.id c.args.slot) (sym c.in_ok-sound.ensures)
    ∙ standing_told s.timetable.now c.args.slot c.args.id s.sound c.if-id-ge-IDS.false k.0 k.1 l
    ∙ (λ i. record { number = 0; place = 0; shortfall = sym e.0 i; slices = sym e.1 i })
