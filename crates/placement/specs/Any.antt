-- docs/RULES.md 5: any cyclic placement at all, defined from the slots alone and without rule 4.
use Rattle.std.specs.Prelude.{true, List, ◌≢◌, ◌≡◌, ℕ, ◌*◌, ◌<◌}
use Rattle.slots.specs.Limits.{IDS, WHOLE}
use Rattle.timetable.specs.declared.Entry.{Entry}
use Rattle.timetable.specs.Timetable.{entry_of, is_listed, with_offset, cyclic, shortfall_after}

-- Helper of CyclicPlacement: i is an id that the entries list.
abbrev pub Lists : List Entry → ℕ → Type 0
Lists es i = (i < IDS) × (is_listed (entry_of es i) ≡ true)

-- Helper of CyclicPlacement: the entry of id i at a chosen offset.
abbrev pub chosen : List Entry → (ℕ → ℕ) → ℕ → Entry
chosen es offsets i = with_offset (offsets i) (entry_of es i)

-- A choice of one offset below its period for each listed partition such that no two share a slot
-- and every shortfall stays below 256 R in every slot from there on.
pub record CyclicPlacement (es : List Entry) (offsets : ℕ → ℕ) : Type 0 where
  pub below : (i : ℕ) → Lists es i → offsets i < (entry_of es i).period
  pub apart : (i j : ℕ) → Lists es i → Lists es j → i ≢ j → (n : ℕ) → cyclic (chosen es offsets i) n ≡ true → cyclic (chosen es offsets j) n ≡ true → ⊥
  pub kept : (i : ℕ) → Lists es i → (n : ℕ) → shortfall_after (chosen es offsets i) n < WHOLE * (entry_of es i).bound

-- No cyclic placement at all keeps the bounds from these entries on.
abbrev pub NoPlacement : List Entry → Type 0
NoPlacement es = (offsets : ℕ → ℕ) → CyclicPlacement es offsets → ⊥
