-- `first_stages` asks the stages that need no entries in their order: at each return it is what their statement says. Assumes nothing.
use mathlib.Core.Path.{◌≡◌, sym, ap, ◌∙◌}
use Rattle.change.proofs.Stages.{first_tells}
use Rattle.change.specs.Refused.{small_area, enough, bad_field, whole, too_early, in_time}
use Rattle.change.specs.Refused as stage
use Rattle.numbers.specs.Chain as chain
use Rattle.numbers.specs.Chain.{Refused}
use Rattle.records.specs.Request.{read_request, requested, ReadRequest}
use Rattle.std.proofs.lemmas.Result.{err_from_is_err_and}
use Rattle.std.specs.Prelude.{Ok, is_ok}
use Rattle.change.proofs.before.first_stages.Goals as goal

pub returns-then-area-lt-AREA-clause-refused : goal.returns-then-area-lt-AREA-clause-refused
returns-then-area-lt-AREA-clause-refused c =
    let a = c.args in
    (first_tells a.t.timetable.now (read_request a.request.now) a.area).only _ (chain.passed _ (stage.sound a.t.sound) (chain.refused _ (small_area c.if-area-lt-AREA.true)))
    ∙ sym (ap Refused c.of.ensures)

pub returns-in_err-asked-clause-refused : goal.returns-in_err-asked-clause-refused
returns-in_err-asked-clause-refused c =
    let a = c.args in
    let p = err_from_is_err_and c.from_residual.result c.from_residual.ensures.1 in
    rw (p.1, p.2)
    ((first_tells a.t.timetable.now (read_request a.request.now) a.area).only _
    (chain.passed _ (stage.sound a.t.sound) (chain.passed _ (enough c.if-area-lt-AREA.false) (chain.refused _ (bad_field _ (sym c.read_request.ensures ∙ c.in_err-asked.was))))))

pub returns-then-asked-t-clause-refused : goal.returns-then-asked-t-clause-refused
unfolding requested
returns-then-asked-t-clause-refused c =
    let a = c.args in
    let r : read_request a.request.now ≡ Ok c.in_ok-asked.asked = sym c.read_request.ensures ∙ c.in_ok-asked.was in
    let e = ap requested r in
    (first_tells a.t.timetable.now (read_request a.request.now) a.area).only _
    (chain.passed _ (stage.sound a.t.sound)
    (chain.passed _ (enough c.if-area-lt-AREA.false) (chain.passed _ (whole (ap (λ (x : ReadRequest). is_ok x) r)) (too_early (rw e c.if-asked-t.true)))))
    ∙ sym (ap Refused c.of-then-asked-t.ensures)

pub returns-clause-passed : goal.returns-clause-passed
unfolding requested
returns-clause-passed c =
    let a = c.args in
    let r : read_request a.request.now ≡ Ok c.in_ok-asked.asked = sym c.read_request.ensures ∙ c.in_ok-asked.was in
    let e = ap requested r in
    (first_tells a.t.timetable.now (read_request a.request.now) a.area).only _
    (chain.passed _ (stage.sound a.t.sound)
    (chain.passed _ (enough c.if-area-lt-AREA.false) (chain.passed _ (whole (ap (λ (x : ReadRequest). is_ok x) r)) (in_time (rw e c.if-asked-t.false)))))

pub returns-clause-asked : goal.returns-clause-asked
unfolding requested
returns-clause-asked c = sym (ap requested (sym c.read_request.ensures ∙ c.in_ok-asked.was))
