-- Each field is read as in the definition, where the one before ends, and the first that is refused gives its refusal. Assumes nothing.
use mathlib.Core.Path.{◌≡◌, sym, ap, ◌∙◌}
use native.Mathlib.Omega.{arith}
use Rattle.std.proofs.lemmas.Result.{err_from_is_err_and}
use Rattle.std.specs.Prelude.{Ok, Err}
use Rattle.records.proofs.NextStep.{limit_there, listing_there, number_most, one_refusal, request_listing, request_no_limit, request_no_slot}
use Rattle.records.specs.Request.{limit_field, with_listing}
use Rattle.slots.specs.Limits.{LONGEST}
use Rattle.records.proofs.read.read_request.Goals as goal

pub returns-in_default : goal.returns-in_default
returns-in_default c =
    sym (request_no_slot _ _ (c.in_default.ensures ∙ ap Err (one_refusal c.in_default.is c.unwrap_err.ensures)))

pub returns-in_default-second : goal.returns-in_default-second
returns-in_default-second c =
    sym
    (request_no_limit _ _ c.in-Ok.ensures.0 _
    (limit_there _ _ _ c.in-Ok.ensures.1 (c.in_default-second.ensures ∙ ap Err (one_refusal c.in_default-second.is c.unwrap_err-in_default-second.ensures))))

pub returns-in_err-asks : goal.returns-in_err-asks
unfolding with_listing
returns-in_err-asks c =
    let p = err_from_is_err_and c.from_residual.result c.from_residual.ensures.1 in
    let limit : limit_field c.args.s.now 11 ≡ Ok c.in-Ok-second.field-0.value = limit_there _ _ _ c.in-Ok.ensures.1 c.in-Ok-second.ensures.0 in
    let listing = listing_there _ c.in-Ok-second.field-0.next _ (omega (arith, c.in-Ok.ensures.1, c.in-Ok-second.ensures.1)) c.read_listing.ensures in
    rw (p.1, p.2)
    (sym (request_listing _ _ c.in-Ok.ensures.0 _ limit ∙ ap (with_listing _ _) (sym listing ∙ c.in_err-asks.was)))

pub overflow_cast-result : goal.overflow_cast-result
overflow_cast-result c =
    record { fits = omega (arith, number_most _ _ 2 1 LONGEST c.in-Ok-second.ensures.0) }

pub returns : goal.returns
unfolding with_listing
returns c =
    let limit : limit_field c.args.s.now 11 ≡ Ok c.in-Ok-second.field-0.value = limit_there _ _ _ c.in-Ok.ensures.1 c.in-Ok-second.ensures.0 in
    let listing = listing_there _ c.in-Ok-second.field-0.next _ (omega (arith, c.in-Ok.ensures.1, c.in-Ok-second.ensures.1)) c.read_listing.ensures in
    sym (request_listing _ _ c.in-Ok.ensures.0 _ limit ∙ ap (with_listing _ _) (sym listing ∙ c.in_ok-asks.was))
