-- A listed entry of a sound timetable is in range. Assumes nothing.
use mathlib.Core.Bool.{true}
use mathlib.Core.Path.{◌≡◌}
use Prim.Native.Nat.{ℕ, ◌<◌}
use Rattle.slots.specs.Limits.{IDS}
use Rattle.timetable.proofs.Ranges.{in_range_is}
use Rattle.timetable.specs.declared.Timetable.{Timetable}
use Rattle.timetable.specs.Sound.{entry_in_range, is_sound}
use Rattle.timetable.specs.Timetable.{entry_of, is_listed}
use Rattle.timetable.proofs.Sound.{sound_from}

-- A listed entry of a sound timetable is in range.
pub listed_in_range : (t : Timetable) → is_sound t ≡ true → (i : ℕ) → i < IDS → is_listed (entry_of t.entries i) ≡ true
    → entry_in_range (entry_of t.entries i) ≡ true
listed_in_range t s i k l = in_range_is (entry_of t.entries i) ((sound_from t s).ranged.listed i k l)
