-- The reader tells the field that stands at its place, and goes behind it. Assumes nothing.
use mathlib.Core.Path.{◌≡◌, sym, refl, ap, ◌∙◌}
use Rattle.std.specs.Prelude.{Ok, Err, Some, None}
use Rattle.std.proofs.lemmas.Result.{err_from_is_err_and}
use Rattle.archive.specs.AnswerRead.{field_at, field_of, place_after}
use Rattle.archive.proofs.reader.AnswerReader.next.Goals as goal

pub returns-in_err-step : goal.returns-in_err-step
unfolding field_of place_after
returns-in_err-step c =
    let r = c.args.self.now in
    let p = err_from_is_err_and c.from_residual.result c.from_residual.ensures.1 in
    let h : field_at r.bytes.now r.at ≡ Err c.in_err-step.field-0.0 = sym c.field_at.ensures ∙ c.in_err-step.was in
    rw (p.1, p.2) (sym (ap field_of h), refl, sym (ap (place_after r.at) h))

pub returns-in_default : goal.returns-in_default
unfolding field_of place_after
returns-in_default c =
    let r = c.args.self.now in
    let h : field_at r.bytes.now r.at ≡ Ok None = sym c.field_at.ensures ∙ c.in_ok-step.was ∙ ap Ok c.in_default.is in
    (sym (ap field_of h), refl, sym (ap (place_after r.at) h))

pub returns : goal.returns
unfolding field_of place_after
returns c =
    let r = c.args.self.now in
    let h : field_at r.bytes.now r.at ≡ Ok (Some c.in-Some.step) = sym c.field_at.ensures ∙ c.in_ok-step.was ∙ ap Ok c.in-Some.is in
    (sym (ap field_of h), refl, sym (ap (place_after r.at) h))
