-- Helpers of the contracts in src/soundness.rt: what the soundness test of the entries leaves for the pass over the transition's owners, and what that pass leaves.
use Rattle.std.specs.Prelude.{ltb, get_or, length, Bool, true, ◌&&◌, List, ◌≡◌, ℕ, ◌+◌, ◌-◌, ◌*◌, ◌≤◌, ◌<◌}
use Rattle.slots.specs.Below.{every}
use Rattle.slots.specs.Limits.{IDS, LONGEST}
use Rattle.timetable.specs.declared.Entry.{Entry}
use Rattle.timetable.specs.Sound.{entries_in_range, none_shared, start_in_range}
use Rattle.timetable.specs.Timetable.{entry_of, weight, transition_shortfall}

-- A list holds a number for every id.
pub record Holds (f : ℕ → ℕ) (l : List ℕ) : Type 0 where
  pub count : length l ≡ IDS
  pub each : (i : ℕ) → i < IDS → get_or l i 0 ≡ f i

-- What id i would be owed at the base if no transition slot were its own: its start, and its weight for each slot.
abbrev pub unserved : List Entry → List ℕ → ℕ → ℕ → ℕ
unserved es starts size i = get_or starts i 0 + weight (entry_of es i) * size

-- The entries and their starts are tested: the answer is whether all are in range and no two share a slot, and if so the lists hold each id's weight and what it would be owed.
pub record Fit (es : List Entry) (starts : List ℕ) (size : ℕ) (answer : Bool) (weights owed : List ℕ) : Type 0 where
  pub tells : answer ≡ (entries_in_range es && none_shared es && every IDS (λ i. start_in_range (entry_of es i) (get_or starts i 0)))
  pub weighed : answer ≡ true → Holds (λ i. weight (entry_of es i)) weights
  pub added : answer ≡ true → Holds (unserved es starts size) owed

-- The owner of transition slot n is an id with a weight.
abbrev pub weighs : List ℕ → List ℕ → ℕ → Bool
weighs owners weights n = ltb (get_or owners n 0) IDS && ltb 0 (get_or weights (get_or owners n 0) 0)

-- What id i would be owed at the base after n transition slots, if none of the slots left were its own: at its weight, and from its start.
unfoldable pub owed_at : List ℕ → ℕ → ℕ → ℕ → ℕ → ℕ → ℕ
owed_at owners size i weight start n = transition_shortfall owners i weight start n + weight * (size - n)

-- What the pass over the owners may take as checked: each is an id, and each id would be owed its weight for each slot at least, and what fits 16 bits.
pub record Walkable (owners weights owed : List ℕ) : Type 0 where
  pub short : length owners ≤ LONGEST
  pub ids : (n : ℕ) → n < length owners → get_or owners n 0 < IDS
  pub enough : (i : ℕ) → i < IDS → get_or weights i 0 * length owners ≤ get_or owed i 0
  pub small : (i : ℕ) → i < IDS → get_or owed i 0 < 65536

-- After it the list holds each id's shortfall at the base, walked from its start: what it would be owed before, without the weight for each slot.
abbrev pub Walked : List ℕ → List ℕ → List ℕ → List ℕ → Type 0
Walked owners weights before after =
    (i : ℕ) → i < IDS
    → get_or after i 0 ≡ transition_shortfall owners i (get_or weights i 0) (get_or before i 0 - get_or weights i 0 * length owners) (length owners)
