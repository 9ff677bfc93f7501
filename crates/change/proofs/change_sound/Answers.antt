-- `change_sound` returns what is granted or refused, with the record of a grant written. Assumes nothing.
use lib.ListN.{length}
use mathlib.Core.Path.{ap, ◌∙◌}
use Rattle.change.proofs.ToldLaws.{granted_fits}
use Rattle.change.specs.Change.{area_after, outcome, outcome_of, written}
use Rattle.change.specs.declared.Answer.{Answer}
use Rattle.change.proofs.change_sound.Goals as goal

pub write_told-requires-clause-fits : goal.write_told-requires-clause-fits
write_told-requires-clause-fits c =
    let a = c.args in
    granted_fits a.t.timetable.now a.request.now (length a.area.now) _ _ c.grant-granted.ensures.told

pub returns : goal.returns
unfolding outcome area_after
returns c =
    let k = c.write_told.ensures in
    let e = c.grant-granted.ensures.told in
    (k.0 ∙ ap outcome_of e, k.1 ∙ ap (λ (x : Answer). written x c.args.area.now) e)
