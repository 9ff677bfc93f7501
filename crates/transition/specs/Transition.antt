-- docs/RULES.md 4.2, 4.3, 4.6 and 4.7, rules 2 and 3: the search of lengths, one transition slot after the other.
use Rattle.std.specs.Prelude.{eqb, ltb, set, Bool, true, false, cond, not, ◌||◌, List, ℕ, zero, suc}
use Rattle.std.proofs.Math.Option.{Option, none, some}
use Rattle.placement.specs.Placement.{Place, placement, settle}
use Rattle.slots.specs.Below.{every}
use Rattle.slots.specs.Limits.{IDS}
use Rattle.slots.specs.Shortfall.{over_slot}
use Rattle.timetable.specs.declared.Entry.{Entry}
use Rattle.timetable.specs.Timetable.{entry_of, is_listed, weight, room, each, with_shortfall}
use Rattle.transition.specs.declared.Ending.{Ending}
use Rattle.transition.specs.declared.Ending.TheVariants.{Found, Missed, Exhausted}
use Rattle.transition.specs.declared.Plan.{Plan}
use Rattle.transition.specs.Plan.{Searched}

-- A listed id n beside the most urgent one below it: it is more urgent if it has less room, ties to the lower id.
unfoldable pub more_urgent : List Entry → ℕ → Option ℕ → Option ℕ
more_urgent es n none = some n
more_urgent es n (some u) = cond (ltb (room (entry_of es n)) (room (entry_of es u))) (some n) (some u)

-- The listed id below n with the least room, ties to the lower id.
unfoldable pub most_urgent : List Entry → ℕ → Option ℕ
most_urgent es zero = none
most_urgent es (suc n) = elim (is_listed (entry_of es n)) [ true ↦ more_urgent es n (most_urgent es n) | false ↦ most_urgent es n ]

-- A slot that goes to u is missed if another listed partition has room 0.
unfoldable pub is_missed : List Entry → ℕ → Bool
is_missed es u = not (every IDS (λ i. eqb i u || not (is_listed (entry_of es i)) || ltb 0 (room (entry_of es i))))

-- Helper of over_all: an entry over one slot, its own or not.
abbrev pub over_entry : Bool → Entry → Entry
over_entry own e = with_shortfall (over_slot own (weight e) e.shortfall) e

-- The entries over one slot that goes to u.
unfoldable pub over_all : List Entry → ℕ → List Entry
over_all es u = each (λ i e. over_entry (eqb i u) e) IDS es

-- One more transition slot, number n, to the most urgent; none where it is missed. (With nothing listed there is nobody to serve.)
unfoldable pub longer : ℕ → Plan → Option Plan
longer n plan =
    elim (most_urgent plan.entries IDS) [
      | none ↦ none
      | some u ↦
          cond (is_missed plan.entries u) none
          (some (record { owners = set plan.owners n u; entries = over_all plan.entries u }))
    ]

-- Helper of search_from: a length whose search ended the search of lengths.
unfoldable pub ended : Ending → Plan → Searched
ended ending plan = record { ending = ending; tries = 1; plan = plan }

-- Helper of search_from: a length that was passed over, before the others.
unfoldable pub passed : Searched → Searched
passed s = record { ending = s.ending; tries = suc s.tries; plan = s.plan }

-- Helper of search_from: the plan with its offsets placed.
unfoldable pub placed : Plan → List Place → Plan
placed plan ps = record { owners = plan.owners; entries = settle plan.entries ps }

-- The search from length n on, with `left` longer lengths up to T: the first length with a placement, or the miss or exhaustion.
unfoldable pub search_from : ℕ → ℕ → Plan → Searched
search_from zero n plan =
    elim (placement plan.entries) [ none ↦ ended (Exhausted n) plan | some ps ↦ ended (Found n) (placed plan ps) ]
search_from (suc left) n plan =
    elim (placement plan.entries) [
      | none ↦ elim (longer n plan) [ none ↦ ended (Missed n) plan | some next ↦ passed (search_from left (suc n) next) ]
      | some ps ↦ ended (Found n) (placed plan ps)
    ]
