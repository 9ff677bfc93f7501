-- What a listed entry in range asks for, as numbers: its rank tells its demand again. Assumes nothing.
use borrow.Author.Tests.{lt-ltb}
use mathlib.Core.Bool.{true}
use mathlib.Core.List.{List}
use mathlib.Core.Path.{◌≡◌}
use native.Mathlib.Omega.{arith}
use Prim.Native.Nat.{ℕ, ◌+◌, ◌*◌, ◌/◌, ◌%◌, ◌<◌}
use Rattle.placement.proofs.Last.{last_range}
use Rattle.placement.specs.Placed.{demand_at}
use Rattle.slots.specs.Limits.{IDS, WHOLE}
use Rattle.timetable.proofs.Ranges.{InRange}
use Rattle.timetable.proofs.Sound.{ranged_from}
use Rattle.timetable.specs.declared.Entry.{Entry}
use Rattle.timetable.specs.Sound.{entries_in_range}
use Rattle.timetable.specs.Timetable.{entry_of, last_offset}

module _ (e : Entry) (r : InRange e) where
  -- The last offset is below the period.
  pub last_inside : last_offset e < e.period
  last_inside = (last_range e r (last_offset e) (omega arith)).inside

-- A listed id's entry is in range.
pub listed_range : (es : List Entry) → entries_in_range es ≡ true → (i : ℕ) → i < IDS → 0 < (entry_of es i).period → InRange (entry_of es i)
listed_range es h i k l = (ranged_from es h).listed i k (lt-ltb 0 (entry_of es i).period l)

-- The rank of a period, a last offset and an id.
pub rank_demand : (p l i r : ℕ) → l < WHOLE → i < IDS → r ≡ (p * WHOLE + l) * IDS + i → demand_at r ≡ record { id = i; period = p; last = l }
rank_demand p l i r h k e =
    let a : r % IDS ≡ i = omega arith in
    let b : r / (IDS * WHOLE) ≡ p = omega arith in
    let q : r / IDS ≡ p * WHOLE + l = omega arith in
    let c : r / IDS % WHOLE ≡ l = rw q (omega arith) in
    λ j. record { id = a j; period = b j; last = c j }
