-- `listed_stages` asks stages 7 and 8 in their order. Assumes nothing.
use mathlib.Core.Path.{◌∙◌}
use Rattle.change.specs.Stages.{stage_behind, stages_listed}
use Rattle.numbers.proofs.ChainLaws.{first_one, first_passed, first_refused}
use Rattle.std.proofs.lemmas.Result.{MatchResult-weaker, err_from_is_err_and}
use Rattle.change.proofs.before.listed_stages.Goals as goal

pub returns-in_err-overfull : goal.returns-in_err-overfull
unfolding stages_listed
returns-in_err-overfull c =
    let p = err_from_is_err_and c.from_residual.result c.from_residual.ensures.1 in
    rw (p.1, p.2) (first_refused _ _ _ c.in_err-overfull.ensures)

pub returns : goal.returns
unfolding stages_listed
returns c =
    let k = first_passed _ _ c.in_ok-overfull.ensures ∙ first_one (stage_behind c.args.entries.now) in
    MatchResult-weaker c.behind.result c.behind.ensures (λ _ e. k ∙ e) (λ _ e. k ∙ e)
