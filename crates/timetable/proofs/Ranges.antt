-- What the range of an entry tells: its period is a power of two that divides 256, its bound is kept. Assumes nothing.
use borrow.Author.Tests.{lt-ltb, le-leb, eq-eqb, ltb-true, leb-true, eqb-true, not-true, not-false}
use lib.Count.{count_trailing_zeros}
use lib.Dec.{eqb}
use lib.Pow.{pow-add, pow-lt, pow_mono, pow_pos}
use mathlib.Core.Bool.{Bool, true, false, not, ◌&&◌}
use mathlib.Core.Path.{◌≡◌, refl, sym, ap, ap₂, ◌∙◌}
use native.Mathlib.Decide.{dec_le}
use native.Mathlib.Nat.{add-sub_of_le, dvd-mul_right, lt_of_not-le, mul-div_cancel, mul-div_cancel', mul-mod_left, pow-suc}
use native.Mathlib.Omega.{arith}
use Prim.Native.Nat.{ℕ, zero, suc, ◌+◌, ◌-◌, ◌*◌, ◌/◌, ◌%◌, ◌^◌, ◌≤◌, ◌<◌, ◌∣◌}
use Rattle.slots.proofs.Below.{and_both, every_at, every_fails, true_false}
use Rattle.slots.specs.Below.{every}
use Rattle.slots.specs.Limits.{WHOLE, LARGEST_BOUND, LARGEST_K}
use Rattle.slots.specs.Shortfall.{keeps, weight_of}
use Rattle.timetable.specs.declared.Entry.{Entry}
use Rattle.timetable.specs.Sound.{is_period, is_bound, entry_in_range}
pub use Rattle.timetable.specs.Sound.{Period}
use Rattle.timetable.specs.Timetable.{weight}

pub period_from : (p : ℕ) → is_period p ≡ true → Period p
unfolding is_period
period_from p e =
    let w = every_fails (λ k. not (eqb p (2 ^ k))) (suc LARGEST_K) (not-true _ e) in
    record { k = w.0; small = omega (arith, w.1); power = eqb-true p (2 ^ w.0) (not-false _ w.2) }

pub period_is : (p : ℕ) → Period p → is_period p ≡ true
unfolding is_period
period_is p r = at (every (suc LARGEST_K) (λ k. not (eqb p (2 ^ k)))) refl
  where
    at : (b : Bool) → every (suc LARGEST_K) (λ k. not (eqb p (2 ^ k))) ≡ b → not b ≡ true
    at false e = refl
    at true e =
        let k = not-true _ (every_at (λ k. not (eqb p (2 ^ k))) (suc LARGEST_K) e r.k (omega (arith, r.small))) in
        absurd (true_false (eq-eqb p (2 ^ r.k) r.power) k)

-- Of two periods the smaller divides the larger.
pub period_dvd : (p q : ℕ) → Period p → Period q → p ≤ q → p ∣ q
period_dvd p q r s h = at (dec_le r.k s.k)
  where
    at : Dec (r.k ≤ s.k) → p ∣ q
    at (yes l) = rw (r.power, s.power, ← add-sub_of_le l, pow-add 2 r.k (s.k - r.k)) (dvd-mul_right (2 ^ r.k) (2 ^ (s.k - r.k)))
    at (no n) = absurd (omega (arith, pow-lt (lt_of_not-le n), r.power, s.power))

pub period_pos : (p : ℕ) → Period p → 0 < p
period_pos p r = rw r.power (pow_pos r.k)

pub period_le : (p : ℕ) → Period p → p ≤ WHOLE
period_le p r = rw r.power (pow_mono r.small)

-- A period divides 256, and period x weight = 256.
pub period_divides : (p : ℕ) → Period p → p ∣ WHOLE
period_divides p r = period_dvd p WHOLE r (record { k = 8; small = omega arith; power = refl }) (period_le p r)

pub period_whole : (p : ℕ) → Period p → p * weight_of p ≡ WHOLE
unfolding weight_of
period_whole p r = mul-div_cancel' p (period_divides p r)

-- The zeros below the one of 2^k are k,
zeros_power : (d k : ℕ) → k < d → count_trailing_zeros d (2 ^ k) ≡ k
unfolding count_trailing_zeros
zeros_power zero k h = absurd (omega arith)
zeros_power (suc d) zero h = refl
zeros_power (suc d) (suc k) h =
    let e : 2 ^ suc k ≡ 2 ^ k * 2 = pow-suc 2 k in
    let z : 2 ^ suc k % 2 ≡ 0 = ap (λ (x : ℕ). x % 2) e ∙ mul-mod_left (2 ^ k) 2 in
    let q : 2 ^ suc k / 2 ≡ 2 ^ k = ap (λ (x : ℕ). x / 2) e ∙ mul-div_cancel (2 ^ k) (omega arith) in
    rw (z, q) (ap suc (zeros_power d k (omega arith)))

-- so those of a period tell it.
pub period_zeros : (p : ℕ) → Period p → (count_trailing_zeros 16 p ≤ LARGEST_K) × (2 ^ count_trailing_zeros 16 p ≡ p)
period_zeros p r =
    let z : count_trailing_zeros 16 p ≡ r.k = ap (λ (x : ℕ). count_trailing_zeros 16 x) r.power ∙ zeros_power 16 r.k (omega (arith, r.small)) in
    (omega (arith, z, r.small), ap (λ (x : ℕ). 2 ^ x) z ∙ sym r.power)

-- What a listed entry in range says.
pub record InRange (e : Entry) : Type 0 where
  pub period : Period e.period
  pub bound_low : 0 < e.bound
  pub bound_high : e.bound ≤ LARGEST_BOUND
  pub inside : e.offset < e.period
  pub kept : e.shortfall + e.offset * weight e < WHOLE * e.bound

pub in_range_from : (e : Entry) → entry_in_range e ≡ true → InRange e
unfolding entry_in_range is_bound keeps
in_range_from e h =
    let a = and_both _ _ h in
    let b = and_both _ _ a.0 in
    let c = and_both _ _ b.0 in
    let d = and_both _ _ c.1 in
    record {
      period = period_from e.period c.0;
      bound_low = ltb-true _ _ d.0;
      bound_high = leb-true _ _ d.1;
      inside = ltb-true _ _ b.1;
      kept = ltb-true _ _ a.1;
    }

pub in_range_is : (e : Entry) → InRange e → entry_in_range e ≡ true
unfolding entry_in_range is_bound keeps
in_range_is e r =
    ap₂ ◌&&◌
    (ap₂ ◌&&◌
    (ap₂ ◌&&◌ (period_is e.period r.period) (ap₂ ◌&&◌ (lt-ltb _ _ r.bound_low) (le-leb _ _ r.bound_high)))
    (lt-ltb _ _ r.inside))
    (lt-ltb _ _ r.kept)
