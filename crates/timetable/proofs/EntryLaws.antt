-- The figures of one entry, as they are worked out: what a period of 0 makes of them, and the closed forms with their ranges. Assumes nothing.
use borrow.Author.Tests.{lt-ltb, le-ltb}
use lib.Bits.{and_mask, bit_and}
use lib.Count.{count_trailing_zeros}
use lib.Dec.{eqb, ltb}
use mathlib.Core.Bool.{Bool, true, false, ◌&&◌}
use mathlib.Core.Path.{◌≡◌, refl, sym, ap, ◌∙◌}
use native.Mathlib.Decide.{ℕ_discrete, dec_lt}
use native.Mathlib.Nat.{add-mul, mul_assoc, div-zero, div-le_self, div-lt_iff_lt-mul, mod-lt, mul_comm, mul-div-mul_right, mul-le-mul, mul-le-mul_right, mul-lt-mul_of_pos_right}
use native.Mathlib.Omega.{arith}
use Prim.Native.Nat.{ℕ, zero, suc, ◌+◌, ◌-◌, ◌*◌, ◌/◌, ◌%◌, ◌^◌, ◌≤◌, ◌<◌}
use Rattle.slots.proofs.Windows.{over_still}
use Rattle.slots.specs.Limits.{WHOLE, LARGEST_BOUND}
use Rattle.slots.specs.Shortfall.{keeps, over_slot, weight_of, room_of}
use Rattle.timetable.proofs.Cycle.{shortfall_before, shortfall_after_lem, weight_pos}
use Rattle.timetable.proofs.Ranges.{InRange, Period, in_range_from, period_from, period_le, period_pos, period_whole, period_zeros}
use Rattle.timetable.specs.declared.Entry.{Entry}
use Rattle.timetable.specs.Sound.{entry_in_range, is_period}
use Rattle.timetable.specs.Timetable.{weight, room, cyclic, shortfall_after}

-- Listed means a period other than 0.
pub unlisted : (p : ℕ) → p ≡ 0 → ltb 0 p ≡ false
unlisted p h = rw h

pub listed : (p : ℕ) → (p ≡ 0 → ⊥) → ltb 0 p ≡ true
listed p h = lt-ltb 0 p (omega arith)

-- The weight.
pub weight_none : (p : ℕ) → p ≡ 0 → weight_of p ≡ 0
unfolding weight_of
weight_none p h = rw h (div-zero WHOLE)

-- A shift by the zeros of a period divides 256 by it, and the 16 zeros of 0 shift all away.
pub weight_shift : (p : ℕ) → (0 < p → is_period p ≡ true) → (count_trailing_zeros 16 p ≤ 16) × (WHOLE / 2 ^ count_trailing_zeros 16 p ≡ weight_of p)
unfolding count_trailing_zeros weight_of
weight_shift p h = at (ℕ_discrete p 0)
  where
    at : Dec (p ≡ 0) → (count_trailing_zeros 16 p ≤ 16) × (WHOLE / 2 ^ count_trailing_zeros 16 p ≡ weight_of p)
    at (yes z) = rw z (omega arith, sym (weight_none 0 refl))
    at (no z) = let r = period_zeros p (period_from p (h (omega arith))) in (omega (arith, r.0), ap (λ (x : ℕ). WHOLE / x) r.1)

pub weight_le : (p : ℕ) → weight_of p ≤ WHOLE
unfolding weight_of
weight_le p = div-le_self WHOLE p

-- The shortfall over a slot.
pub over_own : (own : Bool) (w s r : ℕ) → own ≡ true → r ≡ s + w - WHOLE + 0 → over_slot own w s ≡ r
unfolding over_slot
over_own own w s r h e = rw h (omega (arith, e))

pub over_other : (own : Bool) (w s : ℕ) → own ≡ false → s + w ≡ over_slot own w s
unfolding over_slot
over_other own w s h = rw h

-- Room and last offset.
module _ (p b s : ℕ) where
  -- The weight is 256 / period, so the period over 256 does for it.
  pub room_is : Period p → (WHOLE * b - 1 - s) * p / WHOLE ≡ room_of p b s
  unfolding room_of
  room_is r =
      let w : weight_of p * p ≡ WHOLE = mul_comm (weight_of p) p ∙ period_whole p r in
      ap (λ (x : ℕ). (WHOLE * b - 1 - s) * p / x) (sym w) ∙ mul-div-mul_right (WHOLE * b - 1 - s) (weight_of p) (period_pos p r)

-- The numbers from which the room of an entry in range is worked out are small.
module _ (e : Entry) (h : entry_in_range e ≡ true) where
  pub room_left : e.shortfall < WHOLE * e.bound
  room_left = omega (arith, (in_range_from e h).kept)

  pub room_product : (WHOLE * e.bound - 1 - e.shortfall) * e.period < WHOLE * WHOLE * LARGEST_BOUND
  room_product =
      let r = in_range_from e h in
      let l : WHOLE * e.bound - 1 - e.shortfall ≤ WHOLE * LARGEST_BOUND - 1 = omega (arith, r.bound_high) in
      omega (arith, mul-le-mul l (period_le e.period r.period))

  pub room_small : (WHOLE * e.bound - 1 - e.shortfall) * e.period / WHOLE < WHOLE * LARGEST_BOUND
  room_small = (div-lt_iff_lt-mul {k = WHOLE} (omega arith)).1 (omega (arith, room_product))

  -- No room is as large as 2,048.
  pub room_below : room e < WHOLE * LARGEST_BOUND
  room_below = omega (arith, room_small, room_is e.period e.bound e.shortfall (in_range_from e h).period)

-- The bound is kept up to the first own slot: both sides times the period.
pub kept_is : (p b s o : ℕ) → Period p → ltb (s * p + o * WHOLE) (WHOLE * b * p) ≡ keeps b (s + o * weight_of p)
unfolding keeps
kept_is p b s o r =
    let w : weight_of p * p ≡ WHOLE = mul_comm (weight_of p) p ∙ period_whole p r in
    let l : s * p + o * WHOLE ≡ (s + o * weight_of p) * p =
    ap (λ (x : ℕ). s * p + o * x) (sym w) ∙ ap (λ (x : ℕ). s * p + x) (sym (mul_assoc o (weight_of p) p)) ∙ sym (add-mul s (o * weight_of p) p) in
    ap (λ (x : ℕ). ltb x (WHOLE * b * p)) l ∙ scaled (s + o * weight_of p) (WHOLE * b) (dec_lt (s + o * weight_of p) (WHOLE * b))
  where
    scaled : (x y : ℕ) → Dec (x < y) → ltb (x * p) (y * p) ≡ ltb x y
    scaled x y (yes h) = lt-ltb (x * p) (y * p) (mul-lt-mul_of_pos_right h (period_pos p r)) ∙ sym (lt-ltb x y h)
    scaled x y (no h) = le-ltb (x * p) (y * p) (mul-le-mul_right p (omega arith)) ∙ sym (le-ltb x y (omega arith))

-- The lowest bits of a number are its remainder by a period.
pub phase_is : (n p : ℕ) → Period p → bit_and n (p - 1) ≡ n % p
phase_is n p r = rw r.power (and_mask n r.k)

-- A cyclic slot.
module _ (e : Entry) (n : ℕ) where
  pub cyclic_none : e.period ≡ 0 → cyclic e n ≡ false
  unfolding cyclic
  cyclic_none h = ap (λ (b : Bool). b && eqb (n % e.period) e.offset) (unlisted e.period h)

  pub cyclic_test : (e.period ≡ 0 → ⊥) → cyclic e n ≡ eqb (n % e.period) e.offset
  unfolding cyclic
  cyclic_test h = ap (λ (b : Bool). b && eqb (n % e.period) e.offset) (listed e.period h)

-- The shortfall of an entry that is not listed stays.
pub after_absent : (e : Entry) (n : ℕ) → e.period ≡ 0 → shortfall_after e n ≡ e.shortfall
unfolding shortfall_after
after_absent e zero h = refl
after_absent e (suc n) h = rw (cyclic_none e n h, weight_none e.period h) (over_still (shortfall_after e n)) ∙ after_absent e n h

-- The shortfall of an entry in range, at its weight w.
module _ (e : Entry) (h : entry_in_range e ≡ true) (w : ℕ) (q : w ≡ weight e) where
  known : InRange e
  known = in_range_from e h

  whole : e.period * w ≡ WHOLE
  whole = ap (λ (x : ℕ). e.period * x) q ∙ period_whole e.period known.period

  pub before_small : (n : ℕ) → n ≤ e.offset → e.shortfall + n * w < WHOLE * LARGEST_BOUND
  before_small n l =
      omega (arith, known.kept, known.bound_high, mul-le-mul_right w l, ap (λ (x : ℕ). e.offset * x) q)

  -- What is owed where the first own slot ends, before it pays.
  pub owed_small : e.shortfall + e.offset * w + w < WHOLE * (LARGEST_BOUND + 1)
  owed_small = omega (arith, before_small e.offset (omega arith), weight_le e.period)

  pub before_is : (n : ℕ) → n ≤ e.offset → e.shortfall + n * w ≡ shortfall_after e n
  before_is n l =
      ap (λ (x : ℕ). e.shortfall + n * x) q ∙ sym (shortfall_before e (period_whole e.period known.period) known.inside n l)

  pub since_small : (m : ℕ) → m % e.period * w < WHOLE
  since_small m =
      let p : 0 < w = omega (arith, weight_pos e (period_whole e.period known.period) known.inside) in
      omega (arith, whole, mul-lt-mul_of_pos_right (mod-lt m {m = e.period} (omega (arith, known.inside))) p)

  pub after_is : (n : ℕ) → e.offset < n
      → e.shortfall + e.offset * w + w - WHOLE + (n - e.offset - 1) % e.period * w ≡ shortfall_after e n
  after_is n k = rw q (sym (shortfall_after_lem e (period_whole e.period known.period) known.inside n k))
