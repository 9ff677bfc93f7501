-- docs/RULES.md 4.4, rule 4, said of the offsets themselves: no search and no list of places.
use Rattle.std.specs.Prelude.{true, List, ◌⊎◌, ◌≡◌, ℕ, ◌≤◌, ◌<◌}
use Rattle.placement.specs.Any.{Lists, chosen}
use Rattle.timetable.specs.declared.Entry.{Entry}
use Rattle.timetable.specs.Timetable.{entry_of, last_offset, with_offset, cyclic}

-- In order of period, then last offset, then id, smallest first: id i is placed before id j.
abbrev pub PlacedBefore : List Entry → ℕ → ℕ → Type 0
PlacedBefore es i j =
    ((entry_of es i).period < (entry_of es j).period)
    ⊎ (((entry_of es i).period ≡ (entry_of es j).period) × (last_offset (entry_of es i) < last_offset (entry_of es j)))
    ⊎ (((entry_of es i).period ≡ (entry_of es j).period) × (last_offset (entry_of es i) ≡ last_offset (entry_of es j)) × (i < j))

-- At offset o, id i shares no slot with any that is placed before it.
abbrev pub MeetsNone : List Entry → (ℕ → ℕ) → ℕ → ℕ → Type 0
MeetsNone es offsets i o =
    (j : ℕ) → Lists es j → PlacedBefore es j i → (n : ℕ) → cyclic (with_offset o (entry_of es i)) n ≡ true → cyclic (chosen es offsets j) n ≡ true → ⊥

-- The offset of id i is the largest up to its last offset that meets none placed before it.
pub record LargestFree (es : List Entry) (offsets : ℕ → ℕ) (i : ℕ) : Type 0 where
  pub within : offsets i ≤ last_offset (entry_of es i)
  pub clear : MeetsNone es offsets i (offsets i)
  pub largest : (o : ℕ) → o ≤ last_offset (entry_of es i) → MeetsNone es offsets i o → o ≤ offsets i

-- Rule 4: so for every listed id.
abbrev pub ByRuleFour : List Entry → (ℕ → ℕ) → Type 0
ByRuleFour es offsets = (i : ℕ) → Lists es i → LargestFree es offsets i
