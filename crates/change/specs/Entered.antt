-- Helpers of the contract of enter_all in src/before.rt: an entry as it enters a change.
use Rattle.std.specs.Prelude.{List, ℕ}
use Rattle.change.specs.Stages.{entering}
use Rattle.records.specs.declared.Ask.{Ask}
use Rattle.records.specs.Request.{ask_of}
use Rattle.timetable.specs.declared.Entry.{Entry}
use Rattle.timetable.specs.Timetable.{shortfall_after}

-- An id's entry as it enters, so many slots after the base, by what is asked of each id.
abbrev pub entered : ℕ → List Ask → ℕ → Entry → Entry
entered elapsed asks i old = entering old (shortfall_after old elapsed) (ask_of asks i)
