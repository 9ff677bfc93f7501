-- docs/RULES.md 5.2 and 5.3, demand 3's words about lengths: which are reached, which are passed over, which can't be reached, and which were searched;
-- and about slots: which breaks a bound.
use Rattle.std.specs.Prelude.{Bool, true, false, ◌&&◌, List, ◌≡◌, ℕ, zero, suc, ◌*◌, ◌≤◌, ◌<◌}
use Rattle.std.proofs.Math.Option.{Option, none, some}
use Rattle.placement.specs.Any.{CyclicPlacement, Lists, NoPlacement}
use Rattle.placement.specs.Placement.{Place, placement}
use Rattle.slots.specs.Below.{every}
use Rattle.slots.specs.Limits.{WHOLE}
use Rattle.slots.specs.Shortfall.{over_slot}
use Rattle.slots.specs.Slots.{is_owner}
use Rattle.timetable.specs.declared.Entry.{Entry}
use Rattle.timetable.specs.Timetable.{entry_of, weight}
use Rattle.transition.specs.declared.Plan.{Plan}
use Rattle.transition.specs.Transition.{longer}

-- Helper of reach: the plan after k more transition slots by the urgent rule, the first of them number n; none where one was missed.
unfoldable pub reach_from : ℕ → ℕ → Plan → Option Plan
reach_from zero n plan = some plan
reach_from (suc k) n plan = elim (longer n plan) [ none ↦ none | some next ↦ reach_from k (suc n) next ]

-- The plan that length n reaches from the plan of length 0.
abbrev pub reach : Plan → ℕ → Option Plan
reach plan n = reach_from n 0 plan

-- Some listed partition's bound is broken by a slot, whoever gets it: an id, or none.
abbrev pub AnyoneBreaks : List Entry → Type 0
AnyoneBreaks es =
    (owner : Option ℕ)
    → (i : ℕ) × Lists es i × (WHOLE * (entry_of es i).bound ≤ over_slot (is_owner i owner) (weight (entry_of es i)) (entry_of es i).shortfall)

-- Length n is passed over: it is reached, and no cyclic placement at all keeps the bounds from there.
abbrev pub PassedOver : Plan → ℕ → Type 0
PassedOver plan n =
    (p : Plan) × (reach plan n ≡ some p) × NoPlacement p.entries

-- Length n has a cyclic placement: it is reached, and some choice of offsets keeps the bounds from there.
abbrev pub HasPlacement : Plan → ℕ → Type 0
HasPlacement plan n = (p : Plan) × (reach plan n ≡ some p) × ((offsets : ℕ → ℕ) × CyclicPlacement p.entries offsets)

-- Transition slot k breaks a bound: it is reached, and whoever gets it, some bound is broken.
abbrev pub SlotBreaks : Plan → ℕ → Type 0
SlotBreaks plan k = (p : Plan) × (reach plan k ≡ some p) × AnyoneBreaks p.entries

-- Length n can't be reached: some slot before it breaks a bound.
abbrev pub CannotReach : Plan → ℕ → Type 0
CannotReach plan n = (k : ℕ) × (k < n) × SlotBreaks plan k

-- Helper of is_searched: rule 4 gave no placement.
unfoldable pub is_none : Option (List Place) → Bool
is_none none = true
is_none (some ps) = false

-- Helper of is_searched: a plan is reached and rule 4 gives it no placement.
unfoldable pub has_none : Option Plan → Bool
has_none none = false
has_none (some p) = is_none (placement p.entries)

-- Helper of is_searched: a length is reached.
unfoldable pub is_reached : Option Plan → Bool
is_reached none = false
is_reached (some p) = true

-- The placement of length n is searched: it is reached, and every shorter length has none.
unfoldable pub is_searched : Plan → ℕ → Bool
is_searched plan n = every n (λ m. has_none (reach plan m)) && is_reached (reach plan n)
