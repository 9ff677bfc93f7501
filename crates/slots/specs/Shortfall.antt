-- docs/RULES.md 2.2 to 2.7: the figures of one partition, in 256ths of a slot.
use Rattle.std.specs.Prelude.{Bool, cond, ℕ, ◌+◌, ◌-◌, ◌*◌, ◌/◌, min, ltb}
use Rattle.slots.specs.Limits.{WHOLE}

-- The weight of a period is 256 / period. (Period 0 stands for "not listed", and 256 / 0 is 0.)
unfoldable pub weight_of : ℕ → ℕ
weight_of period = WHOLE / period

-- Over one slot the shortfall becomes the larger of 0 and (shortfall + weight - 256 if the slot is its own, otherwise shortfall + weight).
-- (Numbers are natural: a difference below 0 is 0.)
unfoldable pub over_slot : Bool → ℕ → ℕ → ℕ
over_slot own weight shortfall = cond own (shortfall + weight - WHOLE) (shortfall + weight)

-- The bound R is kept when the shortfall is below 256 R.
unfoldable pub keeps : ℕ → ℕ → Bool
keeps bound shortfall = ltb shortfall (WHOLE * bound)

-- Room = (256 R - 1 - shortfall) / weight, rounded down: the further idle slots it can bear.
unfoldable pub room_of : ℕ → ℕ → ℕ → ℕ
room_of period bound shortfall = (WHOLE * bound - 1 - shortfall) / weight_of period

-- Last offset = the smaller of room and period - 1.
unfoldable pub last_offset_of : ℕ → ℕ → ℕ → ℕ
last_offset_of period bound shortfall = min (room_of period bound shortfall) (period - 1)
