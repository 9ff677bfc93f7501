-- docs/RULES.md 7.1: the numbers by name, and a refusal.
use Rattle.std.specs.Prelude.{ℕ}
use Rattle.numbers.specs.declared.Refusal.{Refusal}

-- accepted
abbrev pub ACCEPTED : ℕ
ACCEPTED = 0

-- timetable not sound
abbrev pub NOT_SOUND : ℕ
NOT_SOUND = 1

-- answer area under 231 bytes
abbrev pub SMALL_AREA : ℕ
SMALL_AREA = 2

-- field cut off, missing, unknown, out of order or of wrong length
abbrev pub BAD_FIELD : ℕ
BAD_FIELD = 3

-- value out of range
abbrev pub OUT_OF_RANGE : ℕ
OUT_OF_RANGE = 4

-- id not above the one before
abbrev pub NOT_RISING : ℕ
NOT_RISING = 5

-- slot too early
abbrev pub TOO_EARLY : ℕ
TOO_EARLY = 6

-- weights sum above 256
abbrev pub OVERFULL : ℕ
OVERFULL = 7

-- shortfall at the request slot not below 256 x new R
abbrev pub BEHIND : ℕ
BEHIND = 8

-- a transition slot below T is missed, no length up to it gives a schedule
abbrev pub SLOT_MISSED : ℕ
SLOT_MISSED = 9

-- id not listed
abbrev pub NOT_LISTED : ℕ
NOT_LISTED = 10

-- no length up to T gives a schedule, all were searched
abbrev pub LENGTHS_EXHAUSTED : ℕ
LENGTHS_EXHAUSTED = 11

-- A refusal: its number and its place.
abbrev pub refusal : ℕ → ℕ → Refusal
refusal number place = record { number = number; place = place }
