-- Going on from a later slot: an entry whose offset is counted from there to its next own slot has the slots that it had, and its shortfall goes on.
-- Assumes nothing.
use borrow.Author.Tests.{le-leb, lt-leb}
use lib.Dec.{leb}
use mathlib.Core.Bool.{Bool, cond}
use mathlib.Core.Path.{◌≡◌, sym, ap, ap₂, ◌∙◌}
use native.Mathlib.Decide.{ℕ_discrete, dec_le, dec_lt}
use native.Mathlib.Nat.{add-mod, add-mod_left, add-suc, add-zero, mod-eq_of_lt, mod-lt}
use native.Mathlib.Omega.{arith}
use Prim.Native.Nat.{ℕ, zero, suc, ◌+◌, ◌-◌, ◌*◌, ◌%◌, ◌≤◌, ◌<◌}
use Rattle.slots.specs.Limits.{WHOLE}
use Rattle.slots.specs.Shortfall.{over_slot}
use Rattle.timetable.proofs.Cycle.{cyclic_other, cyclic_own, kept_for_ever}
use Rattle.timetable.proofs.Ranges.{InRange, period_whole}
use Rattle.timetable.specs.declared.Entry.{Entry}
use Rattle.timetable.specs.Timetable.{cyclic, shortfall_after, weight}

-- A remainder of a sum, by whether the remainders' sum reaches p.
sum_low : (a b p : ℕ) → a % p + b % p < p → (a + b) % p ≡ a % p + b % p
sum_low a b p h = add-mod a b p ∙ mod-eq_of_lt h

sum_high : (a b p : ℕ) → 0 < p → p ≤ a % p + b % p → (a + b) % p ≡ a % p + b % p - p
sum_high a b p pos h =
    let v : ℕ = a % p + b % p - p in
    let e : a % p + b % p ≡ p + v = omega arith in
    let l : v < p = omega (arith, mod-lt a {m = p} pos, mod-lt b {m = p} pos) in
    add-mod a b p ∙ ap (λ (x : ℕ). x % p) e ∙ add-mod_left p v ∙ mod-eq_of_lt l

-- How far the entry's next own slot is from the slot n slots after the base.
unfoldable pub ahead : Entry → ℕ → ℕ
ahead e n = cond (leb (n % e.period) e.offset) (e.offset - n % e.period) (e.offset + e.period - n % e.period)

-- The entry as it goes on from there.
abbrev pub onward : Entry → ℕ → Entry
onward e n = record { period = e.period; offset = ahead e n; bound = e.bound; shortfall = shortfall_after e n }

module _ (e : Entry) (inside : e.offset < e.period) (n : ℕ) where
  abbrev p : ℕ
  p = e.period

  phase : n % p < p
  phase = mod-lt n {m = p} (omega arith)

  ahead_now : n % p ≤ e.offset → ahead e n ≡ e.offset - n % p
  unfolding ahead
  ahead_now h = rw (le-leb (n % p) e.offset h)

  ahead_next : e.offset < n % p → ahead e n ≡ e.offset + p - n % p
  unfolding ahead
  ahead_next h = rw (lt-leb (n % p) e.offset h)

  -- It is less than a period.
  pub ahead_inside : ahead e n < p
  ahead_inside = at (dec_le (n % p) e.offset)
    where
      at : Dec (n % p ≤ e.offset) → ahead e n < p
      at (yes h) = omega (arith, ahead_now h)
      at (no h) = let k : e.offset < n % p = omega arith in omega (arith, ahead_next k, phase)

  -- Its own slots from there on are its own slots from the base on.
  pub cyclic_onward : (m : ℕ) → cyclic (onward e n) m ≡ cyclic e (n + m)
  cyclic_onward m = at (dec_le (n % p) e.offset) (dec_lt (n % p + m % p) p) (ℕ_discrete (m % p) (ahead e n))
    where
      u : m % p < p
      u = mod-lt m {m = p} (omega arith)

      same : (m % p ≡ ahead e n → (n + m) % p ≡ e.offset) → ((n + m) % p ≡ e.offset → m % p ≡ ahead e n) → Dec (m % p ≡ ahead e n)
          → cyclic (onward e n) m ≡ cyclic e (n + m)
      same f g (yes z) = cyclic_own (onward e n) ahead_inside m z ∙ sym (cyclic_own e inside (n + m) (f z))
      same f g (no z) = cyclic_other (onward e n) ahead_inside m z ∙ sym (cyclic_other e inside (n + m) (λ y. z (g y)))

      at : Dec (n % p ≤ e.offset) → Dec (n % p + m % p < p) → Dec (m % p ≡ ahead e n) → cyclic (onward e n) m ≡ cyclic e (n + m)
      at (yes h) (yes l) d = same (λ z. omega (arith, sum_low n m p l, ahead_now h)) (λ z. omega (arith, sum_low n m p l, ahead_now h)) d
      at (yes h) (no l) d =
          let s = sum_high n m p (omega arith) (omega arith) in
          same (λ z. omega (arith, s, ahead_now h, u)) (λ z. omega (arith, s, ahead_now h, u)) d
      at (no h) (yes l) d =
          let k : e.offset < n % p = omega arith in
          same (λ z. omega (arith, sum_low n m p l, ahead_next k)) (λ z. omega (arith, sum_low n m p l, ahead_next k)) d
      at (no h) (no l) d =
          let k : e.offset < n % p = omega arith in
          let s = sum_high n m p (omega arith) (omega arith) in
          same (λ z. omega (arith, s, ahead_next k, phase, u)) (λ z. omega (arith, s, ahead_next k, phase, u)) d

  -- So its shortfall goes on.
  pub shortfall_onward : (m : ℕ) → shortfall_after (onward e n) m ≡ shortfall_after e (n + m)
  unfolding shortfall_after
  shortfall_onward zero = rw (add-zero n)
  shortfall_onward (suc m) =
      rw (add-suc n m) (ap₂ (λ (b : Bool) (s : ℕ). over_slot b (weight e) s) (cyclic_onward m) (shortfall_onward m))

module _ (e : Entry) (r : InRange e) where
  -- An entry in range keeps its bound for ever,
  pub kept_after : (n : ℕ) → shortfall_after e n < WHOLE * e.bound
  kept_after = (kept_for_ever e (period_whole e.period r.period) r.inside e.bound r.bound_low).1 r.kept

  -- from wherever it goes on.
  pub kept_onward : (n m : ℕ) → shortfall_after (onward e n) m < WHOLE * e.bound
  kept_onward n m = omega (arith, shortfall_onward e r.inside n m, kept_after (n + m))
