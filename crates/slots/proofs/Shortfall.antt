-- The figures of one partition are what docs/RULES.md 2.5 and 2.7 say of them: the test of the bound is "below 256 R", the room is the number of idle slots that
-- the bound bears and not one more, and the last offset is below the period. Each is a fact of division or of the smaller of two numbers. Assumes nothing.
use borrow.Author.Tests.{lt-ltb, ltb-true}
use mathlib.Core.Bool.{true}
use mathlib.Core.Logic.{◌↔◌}
use mathlib.Core.Path.{◌≡◌}
use native.Mathlib.Nat.{le-div_iff_mul-le}
use native.Mathlib.Omega.{arith}
use Prim.Native.Nat.{ℕ, ◌+◌, ◌*◌, ◌≤◌, ◌<◌}
use Rattle.slots.specs.Limits.{WHOLE}
use Rattle.slots.specs.Shortfall.{keeps, last_offset_of, room_of, weight_of}

-- The bound R is kept exactly where the shortfall is below 256 R.
pub keeps_iff : (bound s : ℕ) → (keeps bound s ≡ true) ↔ (s < WHOLE * bound)
unfolding keeps
keeps_iff bound s = ((λ e. omega (arith, ltb-true s _ e)), (λ l. lt-ltb s _ (omega arith)))

module _ (period bound s : ℕ) where
  -- A partition whose bound is kept bears k further idle slots exactly if k is at most its room.
  pub room_borne : 0 < weight_of period → s < WHOLE * bound → (k : ℕ) → (k ≤ room_of period bound s) ↔ (s + k * weight_of period < WHOLE * bound)
  unfolding room_of
  room_borne w l k = ((λ h. omega (arith, (le-div_iff_mul-le w).0 h)), (λ h. (le-div_iff_mul-le w).1 (omega arith)))

  -- The last offset is below the period.
  pub last_inside : 0 < period → last_offset_of period bound s < period
  unfolding last_offset_of
  last_inside p = omega arith
