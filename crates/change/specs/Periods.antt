-- Helpers of the contracts in src/before.rt: what was asked for is a period.
use Rattle.std.specs.Prelude.{true, List, ◌≡◌, ℕ, ◌<◌}
use Rattle.slots.specs.Limits.{IDS}
use Rattle.timetable.specs.declared.Entry.{Entry}
use Rattle.timetable.specs.Sound.{is_period}
use Rattle.timetable.specs.Timetable.{entry_of}

-- Each of the entries has a period, or 0.
abbrev pub ArePeriods : List Entry → Type 0
ArePeriods es = (i : ℕ) → i < IDS → 0 < (entry_of es i).period → is_period (entry_of es i).period ≡ true
