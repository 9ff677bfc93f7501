-- `transition_slices` counts the slots that are an id's own. Assumes nothing.
use Rattle.std.proofs.Common.{ℕ, eqb, rules, ◌≡◌, ◌∙◌}
use Rattle.std.proofs.iter.runs.Made.{chains}
use Rattle.std.specs.List.{count_by}
use Rattle.timetable.proofs.WalkLaws.{slices_all}
use Rattle.timetable.proofs.serving.transition_slices.Goals as goal

pub returns : goal.returns
returns c =
    let k : c.count.result ≡ count_by (λ (o : ℕ). eqb o c.args.id) c.args.owners.now = search (rules, chains) in
    k ∙ slices_all c.args.owners.now c.args.id
