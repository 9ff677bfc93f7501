-- An offset up to the last offset is one below the period that keeps the bound for ever: the first own slot decides. Assumes nothing.
use mathlib.Core.Path.{◌≡◌}
use native.Mathlib.Omega.{arith}
use Prim.Native.Nat.{ℕ, ◌*◌, ◌≤◌, ◌<◌}
use Rattle.slots.specs.Limits.{WHOLE}
use Rattle.slots.specs.Shortfall.{last_offset_of}
use Rattle.timetable.proofs.Cycle.{kept_for_ever, room_iff}
use Rattle.timetable.proofs.Ranges.{InRange, period_whole}
use Rattle.timetable.specs.declared.Entry.{Entry}
use Rattle.timetable.specs.Timetable.{last_offset, shortfall_after, weight, with_offset}

-- An entry in range keeps its bound for ever.
pub range_kept : (e : Entry) → InRange e → (n : ℕ) → shortfall_after e n < WHOLE * e.bound
range_kept e r = (kept_for_ever e (period_whole e.period r.period) r.inside e.bound r.bound_low).1 r.kept

module _ (e : Entry) (r : InRange e) (o : ℕ) where
  -- Period x weight = 256.
  whole : e.period * weight e ≡ WHOLE
  whole = period_whole e.period r.period

  -- The bound is kept at the base.
  start : e.shortfall < WHOLE * e.bound
  start = omega (arith, r.kept)

  -- An offset below the period that keeps the bound for ever is at most the last offset.
  pub kept_last : o < e.period → ((n : ℕ) → shortfall_after (with_offset o e) n < WHOLE * e.bound) → o ≤ last_offset e
  unfolding last_offset_of
  kept_last l k =
      omega (arith, (room_iff (with_offset o e) whole l start).0 ((kept_for_ever (with_offset o e) whole l e.bound r.bound_low).0 k))

  -- And at an offset up to the last one the entry is in range.
  pub last_range : o ≤ last_offset e → InRange (with_offset o e)
  unfolding last_offset_of
  last_range h =
      let l : o < e.period = omega (arith, r.inside) in
      record {
        period = r.period;
        bound_low = r.bound_low;
        bound_high = r.bound_high;
        inside = l;
        kept = (room_iff (with_offset o e) whole l start).1 (omega arith);
      }
