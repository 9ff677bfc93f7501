-- The shortfall over one slot, as its definition has it. Assumes nothing.
use mathlib.Core.Path.{◌≡◌, refl}
use Prim.Native.Nat.{ℕ, suc}
use Rattle.slots.specs.Shortfall.{over_slot}
use Rattle.slots.specs.Slots.{Run, own, shortfall}

module _ (run : Run) (i : ℕ) where
  -- The shortfall one slot further.
  pub shortfall_suc : (t : ℕ) → shortfall run i (suc t) ≡ over_slot (own run i t) ((run t).weight i) (shortfall run i t)
  unfolding shortfall
  shortfall_suc t = refl
