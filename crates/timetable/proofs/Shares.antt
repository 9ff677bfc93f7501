-- The shares of partitions that share no slot: in n slots from the base they have at most n slices, so their weights sum to at most 256.
-- Assumes nothing.
use mathlib.Core.Bool.{Bool, true, false}
use mathlib.Core.List.{List}
use mathlib.Core.Path.{◌≡◌, refl, ap, ◌∙◌}
use native.Mathlib.Nat.{div-eq_of_lt-le, mul_comm, suc-mul}
use native.Mathlib.Omega.{arith}
use Prim.Native.Nat.{ℕ, zero, suc, ◌+◌, ◌-◌, ◌*◌, ◌/◌, ◌≤◌, ◌<◌}
use Rattle.slots.specs.Limits.{IDS, WHOLE}
use Rattle.slots.specs.Slots.{one}
use Rattle.timetable.proofs.Cycle.{slices_after_lem, weight_pos}
use Rattle.timetable.proofs.Ranges.{InRange, period_le, period_whole}
use Rattle.timetable.proofs.Sound.{Apart}
use Rattle.timetable.specs.declared.Entry.{Entry}
use Rattle.timetable.specs.Timetable.{absent_entry, cyclic, entry_of, slices_after, weight}

-- In one cycle an entry in range has as many slices as its weight says,
pub slices_weight : (e : Entry) → InRange e → slices_after e WHOLE ≡ weight e
slices_weight e r =
    let whole = period_whole e.period r.period in
    let p : ℕ = e.period in
    let v : ℕ = weight e - 1 in
    let w : suc v ≡ weight e = omega (arith, weight_pos e whole r.inside) in
    let k : suc v * p ≡ WHOLE = ap (λ (x : ℕ). x * p) w ∙ mul_comm (weight e) p ∙ whole in
    let q : (WHOLE - e.offset - 1) / p ≡ v = div-eq_of_lt-le p (omega (arith, r.inside, k, suc-mul v p)) (omega (arith, r.inside, k)) in
    omega (arith, slices_after_lem e r.inside WHOLE (omega (arith, r.inside, period_le p r.period)), q, w)

-- and one that is not listed has none.
pub slices_absent : (s n : ℕ) → slices_after (absent_entry s) n ≡ 0
unfolding slices_after cyclic one
slices_absent s zero = refl
slices_absent s (suc n) = omega (arith, slices_absent s n)

module _ (es : List Entry) where
  -- The slices that the ids below m have had in the n slots from the base.
  unfoldable pub slices_sum : ℕ → ℕ → ℕ
  slices_sum zero n = 0
  slices_sum (suc m) n = slices_sum m n + slices_after (entry_of es m) n

  slices_start : (m : ℕ) → slices_sum m 0 ≡ 0
  unfolding slices_sum slices_after
  slices_start zero = refl
  slices_start (suc m) = omega (arith, slices_start m)

  -- Those of slot n alone.
  unfoldable served_at : ℕ → ℕ → ℕ
  served_at zero n = 0
  served_at (suc m) n = served_at m n + one (cyclic (entry_of es m) n)

  served_next : (m n : ℕ) → slices_sum m (suc n) ≡ slices_sum m n + served_at m n
  unfolding slices_sum served_at slices_after
  served_next zero n = refl
  served_next (suc m) n = omega (arith, served_next m n)

  served_none : (m n : ℕ) → ((i : ℕ) → i < m → cyclic (entry_of es i) n ≡ false) → served_at m n ≡ 0
  unfolding served_at one
  served_none zero n h = refl
  served_none (suc m) n h = rw (h m (omega arith)) (omega (arith, served_none m n (λ i k. h i (omega arith))))

  module _ (apart : Apart es) where
    -- No slot serves two.
    served_one : (m n : ℕ) → m ≤ IDS → served_at m n ≤ 1
    unfolding served_at one
    served_one zero n h = omega arith
    served_one (suc m) n h = at (cyclic (entry_of es m) n) refl (served_one m n (omega arith))
      where
        other : cyclic (entry_of es m) n ≡ true → (i : ℕ) → i < m → (b : Bool) → cyclic (entry_of es i) n ≡ b → cyclic (entry_of es i) n ≡ false
        other e i k true f = absurd (apart i m (omega arith) (omega arith) (λ z. omega arith) n f e)
        other e i k false f = f

        at : (b : Bool) → cyclic (entry_of es m) n ≡ b → served_at m n ≤ 1 → served_at m n + one b ≤ 1
        at true e ih = omega (arith, served_none m n (λ i k. other e i k (cyclic (entry_of es i) n) refl))
        at false e ih = omega (arith, ih)

    -- So n slots are n slices at most.
    pub slices_fit : (m n : ℕ) → m ≤ IDS → slices_sum m n ≤ n
    slices_fit m zero h = omega (arith, slices_start m)
    slices_fit m (suc n) h = omega (arith, served_next m n, served_one m n h, slices_fit m n h)
