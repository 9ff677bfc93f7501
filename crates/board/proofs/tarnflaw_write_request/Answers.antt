-- It is the writer of requests, with the slot as a number. Assumes nothing.
use mathlib.Core.Path.{sym, ◌∙◌}
use Rattle.board.proofs.ArchiveLaws.{request_refused, request_told}
use Rattle.board.proofs.tarnflaw_write_request.Goals as goal

pub returns-in-Ok : goal.returns-in-Ok
returns-in-Ok c =
    let w = c.write_request in
    let a = c.args in
    request_told a.slot a.limit a.listing.now a.area.now w.new.area w.ensures.1 c.in-Ok.size (sym c.in-Ok.is ∙ w.ensures.0)

pub returns-in-Err : goal.returns-in-Err
returns-in-Err c =
    let w = c.write_request in
    let a = c.args in
    request_refused a.slot a.limit a.listing.now a.area.now w.new.area w.ensures.1 c.in-Err.refusal (sym c.in-Err.is ∙ w.ensures.0)
