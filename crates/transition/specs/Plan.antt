-- docs/RULES.md 4.2: what the search of lengths gives.
use Rattle.std.specs.Prelude.{ℕ}
use Rattle.transition.specs.declared.Ending.{Ending}
use Rattle.transition.specs.declared.Plan.{Plan}

-- Helper of search_from: how the search ended, the number of lengths searched, and the plan: with the offsets placed where it ended well.
pub record Searched : Type 0 where
  pub ending : Ending
  pub tries : ℕ
  pub plan : Plan
