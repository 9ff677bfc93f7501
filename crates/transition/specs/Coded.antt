-- Helpers of the contracts in src/: the code's answers of the transition, in the definitions' words.
use Rattle.std.specs.Prelude.{Option as Answer, Some, None, Bool, true, false, cond, List, ◌≡◌, ℕ, ◌+◌, ◌<◌}
use Rattle.std.proofs.Math.Option.{Option, none, some}
use Rattle.placement.specs.Placement.{Place}
use Rattle.slots.specs.Limits.{IDS}
use Rattle.timetable.specs.declared.Entry.{Entry}
use Rattle.timetable.specs.Sound.{entries_in_range}
use Rattle.timetable.specs.Timetable.{entry_of}
use Rattle.transition.specs.declared.Plan.{Plan}
use Rattle.transition.specs.Plan.{Searched}
use Rattle.transition.specs.Transition.{most_urgent, is_missed, placed}

-- Whom one more slot goes to: the most urgent, or nobody where none is listed or the slot is missed.
unfoldable pub owner_of : List Entry → Answer ℕ
owner_of es = elim (most_urgent es IDS) [ none ↦ None | some u ↦ cond (is_missed es u) None (Some u) ]

-- Whether the slot is given, and the plan one slot longer, or the same plan where it is not.
unfoldable pub next_of : Plan → Option Plan → Bool × Plan
next_of plan none = (false, plan)
next_of plan (some next) = (true, next)

-- Whether the plan is placed, and the plan with its offsets, or the same plan where it is not.
unfoldable pub settled_of : Plan → Option (List Place) → Bool × Plan
settled_of plan none = (false, plan)
settled_of plan (some ps) = (true, placed plan ps)

-- A search after as many lengths that were passed over.
unfoldable pub after : ℕ → Searched → Searched
after k s = record { ending = s.ending; tries = k + s.tries; plan = s.plan }

-- A plan from which lengths can be searched: its entries are in range, and none is placed yet.
pub record Ready (plan : Plan) : Type 0 where
  pub ranged : entries_in_range plan.entries ≡ true
  pub unplaced : (i : ℕ) → i < IDS → (entry_of plan.entries i).offset ≡ 0
