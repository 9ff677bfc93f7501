-- docs/RULES.md 2.8, the two clocks: slots of the core, and slices that one partition has had. Neither is read as the other.
use Rattle.std.specs.Prelude.{ℕ}
use Rattle.slots.specs.declared.CoreSlot.{CoreSlot}
use Rattle.slots.specs.declared.SliceCount.{SliceCount}

-- The slot of the core with this number.
abbrev pub core_slot : ℕ → CoreSlot
core_slot n = record { 0 = n }

-- This many slices of one partition.
abbrev pub slice_count : ℕ → SliceCount
slice_count n = record { 0 = n }
