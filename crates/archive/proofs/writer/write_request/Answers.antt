-- A refusal of what is handed over is returned; else there is an entry for each three bytes, and the area decides. Assumes nothing.
use lib.ListN.{length}
use mathlib.Core.Path.{◌≡◌, sym, ◌∙◌}
use native.Mathlib.Omega.{arith}
use Prim.Native.Nat.{◌/◌}
use Rattle.std.proofs.lemmas.Result.{err_from_is_err_and}
use Rattle.archive.proofs.HandedLaws.{HandedWhole, checked_err, checked_ok, whole_handed, write_refused, write_small, write_whole}
use Rattle.archive.proofs.WriterLaws.{rise_few}
use Rattle.archive.proofs.writer.write_request.Goals as goal

pub returns-in_err-check_request : goal.returns-in_err-check_request
returns-in_err-check_request c =
    let p = err_from_is_err_and c.from_residual.result c.from_residual.ensures.1 in
    rw (p.1, p.2) (write_refused _ _ _ _ _ (checked_err _ (sym c.check_request.ensures ∙ c.in_err-check_request.was)))

pub overflow_add-size : goal.overflow_add-size
overflow_add-size c =
    let w : HandedWhole c.args.slot c.args.limit c.args.listing.now =
    whole_handed _ _ _ (checked_ok _ (sym c.check_request.ensures ∙ c.in_ok-check_request.was)) in
    omega (arith, w.end, rise_few _ _ w.rise)

pub returns-then-area-size : goal.returns-then-area-size
returns-then-area-size c =
    let w : HandedWhole c.args.slot c.args.limit c.args.listing.now =
    whole_handed _ _ _ (checked_ok _ (sym c.check_request.ensures ∙ c.in_ok-check_request.was)) in
    rw c.of.ensures (write_small _ _ _ _ w.n w.in_range w.rise w.end (omega (arith, w.end)))

pub returns : goal.returns
returns c =
    let w : HandedWhole c.args.slot c.args.limit c.args.listing.now =
    whole_handed _ _ _ (checked_ok _ (sym c.check_request.ensures ∙ c.in_ok-check_request.was)) in
    let a = c.args in
    let n : length a.listing.now / 3 ≡ w.n = omega (arith, w.end) in
    let g = write_whole a.slot a.limit a.listing.now a.area.now w.n w.in_range w.rise w.end (omega (arith, w.end)) in
    (rw n g.0, c.put_request.ensures ∙ rw n g.1)
