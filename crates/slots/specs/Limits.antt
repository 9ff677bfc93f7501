-- docs/RULES.md 3.3: the numeric limits, named once.
use Rattle.std.specs.Prelude.{ℕ, ◌-◌, ◌^◌}

-- A slot is counted in 256ths, and every period divides this many slots.
abbrev pub WHOLE : ℕ
WHOLE = 256

-- Partitions have ids below this number.
abbrev pub IDS : ℕ
IDS = 32

-- A transition has at most this many slots, and a request's T is at most this.
abbrev pub LONGEST : ℕ
LONGEST = 64

-- No answer record is longer, and no answer area may be shorter.
abbrev pub AREA : ℕ
AREA = 231

-- A bound R is at most this.
abbrev pub LARGEST_BOUND : ℕ
LARGEST_BOUND = 8

-- A period is 2^k with k at most this.
abbrev pub LARGEST_K : ℕ
LARGEST_K = 8

-- The highest slot in a request or query.
abbrev pub LAST_SLOT : ℕ
LAST_SLOT = 2 ^ 48 - 1

-- The number told for an idle slot.
abbrev pub IDLE : ℕ
IDLE = 255
