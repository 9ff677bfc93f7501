-- The cyclic slots of one entry: shortfall and slices in closed form, and the bound kept for ever. The walk over slots is the definition;
-- these laws let the elapsed time be skipped. Assumes nothing.
use borrow.Author.Tests.{lt-ltb, eq-eqb, ne_eqb, eqb-true}
use mathlib.Core.Bool.{Bool, true, false, ◌&&◌, and-eq-true_iff}
use mathlib.Core.Logic.{◌↔◌, ◌≢◌}
use mathlib.Core.Path.{◌≡◌, refl, sym, ap, ap₂, ◌∙◌}
use native.Mathlib.Decide.{ℕ_discrete, dec_le}
use native.Mathlib.Nat.{add-suc, add-zero, div-add-mod', mul-add-mod_self_right, mod-eq_of_lt, mod-lt, mod_self, add-mul-mod_self_right, zero-mod, mul-mod_left, add-mod_left, mul-le-mul_right, le-div_iff_mul-le, zero-div, div-eq_of_lt-le}
use native.Mathlib.Omega.{arith}
use Prim.Native.Nat.{ℕ, zero, suc, ◌+◌, ◌-◌, ◌*◌, ◌/◌, ◌%◌, ◌≤◌, ◌<◌}
use Rattle.slots.specs.Limits.{WHOLE}
use Rattle.slots.specs.Shortfall.{over_slot, room_of}
use Rattle.slots.specs.Slots.{one}
use Rattle.timetable.specs.declared.Entry.{Entry}
use Rattle.timetable.specs.Timetable.{is_listed, weight, room, cyclic, shortfall_after, slices_after}

-- A cyclic slot leaves the offset as its remainder.
pub cyclic_residue : (e : Entry) (n : ℕ) → cyclic e n ≡ true → n % e.period ≡ e.offset
unfolding cyclic
cyclic_residue e n h = eqb-true _ _ ((and-eq-true_iff (is_listed e) _).0 h).1

-- One more than f, within a period and at its end: remainder and quotient.
suc_mod_in : (f p : ℕ) → suc (f % p) < p → suc f % p ≡ suc (f % p)
suc_mod_in f p h =
    let e : suc f ≡ f / p * p + suc (f % p) = omega (arith, div-add-mod' f p) in
    rw e (mul-add-mod_self_right (f / p) p (suc (f % p)) ∙ mod-eq_of_lt h)

suc_mod_end : (f p : ℕ) → suc (f % p) ≡ p → suc f % p ≡ 0
suc_mod_end f p h =
    let e : suc f ≡ f / p * p + p = omega (arith, div-add-mod' f p) in
    rw e (mul-add-mod_self_right (f / p) p p ∙ mod_self p)

suc_div_in : (f p : ℕ) → suc (f % p) < p → suc f / p ≡ f / p
suc_div_in f p h = div-eq_of_lt-le p (omega (arith, div-add-mod' f p)) (omega (arith, div-add-mod' f p))

suc_div_end : (f p : ℕ) → suc (f % p) ≡ p → suc f / p ≡ suc (f / p)
suc_div_end f p h = div-eq_of_lt-le p (omega (arith, div-add-mod' f p)) (omega (arith, div-add-mod' f p))

-- Which slots are the entry's own, and how many it has had.
module _ (e : Entry) (inside : e.offset < e.period) where
  pub cyclic_own : (n : ℕ) → n % e.period ≡ e.offset → cyclic e n ≡ true
  unfolding cyclic
  cyclic_own n h = ap₂ ◌&&◌ (lt-ltb 0 e.period (omega arith)) (eq-eqb _ _ h)

  pub cyclic_other : (n : ℕ) → n % e.period ≢ e.offset → cyclic e n ≡ false
  unfolding cyclic
  cyclic_other n h = ap₂ ◌&&◌ (lt-ltb 0 e.period (omega arith)) (ne_eqb _ _ h)

  -- The cyclic slots are offset + a multiple of the period, after the base.
  pub cyclic_iff : (n : ℕ) → (cyclic e n ≡ true) ↔ ((j : ℕ) × (n ≡ e.offset + j * e.period))
  cyclic_iff n = at (ℕ_discrete (n % e.period) e.offset)
    where
      p : ℕ
      p = e.period

      at : Dec (n % p ≡ e.offset) → (cyclic e n ≡ true) ↔ ((j : ℕ) × (n ≡ e.offset + j * p))
      at (yes h) = ((λ z. (n / p, omega (arith, div-add-mod' n p))), (λ w. cyclic_own n h))
      at (no h) = (
        (λ z. let k : ◌≡◌ {A = Bool} false true = sym (cyclic_other n h) ∙ z in absurd (let y : ◌≡◌ {A = ℕ} 0 1 = cc in omega arith)),
        (λ w. absurd (h (ap (λ (x : ℕ). x % p) w.1 ∙ add-mul-mod_self_right e.offset w.0 p ∙ mod-eq_of_lt inside))),
      )

  -- The slot one period on from an own slot is own again, and none between is.
  own_end : (f : ℕ) → suc (f % e.period) ≡ e.period → suc (e.offset + f) % e.period ≡ e.offset
  own_end f h =
      let p : ℕ = e.period in
      let k : suc (e.offset + f) ≡ f / p * p + (p + e.offset) = omega (arith, div-add-mod' f p) in
      rw k (mul-add-mod_self_right (f / p) p (p + e.offset) ∙ add-mod_left p e.offset ∙ mod-eq_of_lt inside)

  own_in : (f : ℕ) → suc (f % e.period) < e.period → suc (e.offset + f) % e.period ≢ e.offset
  own_in f h z =
      let p : ℕ = e.period in
      let q : ℕ = suc (e.offset + f) / p in
      let k : suc f ≡ q * p = omega (arith, div-add-mod' (suc (e.offset + f)) p) in
      omega (arith, suc_mod_in f p h, ap (λ (x : ℕ). x % p) k, mul-mod_left q p)

  -- Before the first own slot no slice is had.
  pub slices_before : (n : ℕ) → n ≤ e.offset → slices_after e n ≡ 0
  unfolding slices_after one
  slices_before zero h = refl
  slices_before (suc n) h =
      let lt : n < e.period = omega arith in
      let ne : n % e.period ≢ e.offset = omega (arith, mod-eq_of_lt lt) in
      rw (cyclic_other n ne) (omega (arith, slices_before n (omega arith)))

  slices_past : (f : ℕ) → slices_after e (suc (e.offset + f)) ≡ f / e.period + 1
  unfolding slices_after one
  slices_past zero =
      rw (add-zero, zero-div, cyclic_own e.offset (mod-eq_of_lt inside)) (omega (arith, slices_before e.offset (omega arith)))
  slices_past (suc f) = rw (add-suc e.offset f) (at (ℕ_discrete (suc (f % e.period)) e.period) (slices_past f))
    where
      at : Dec (suc (f % e.period) ≡ e.period) → slices_after e (suc (e.offset + f)) ≡ f / e.period + 1
          → slices_after e (suc (suc (e.offset + f))) ≡ suc f / e.period + 1
      at (yes h) ih = rw (cyclic_own (suc (e.offset + f)) (own_end f h)) (omega (arith, ih, suc_div_end f e.period h))
      at (no n) ih =
          let lt : suc (f % e.period) < e.period = omega (arith, mod-lt f {m = e.period} (omega arith)) in
          rw (cyclic_other (suc (e.offset + f)) (own_in f lt)) (omega (arith, ih, suc_div_in f e.period lt))

  -- The closed form of the slices had, past the first own slot.
  pub slices_after_lem : (n : ℕ) → e.offset < n → slices_after e n ≡ (n - e.offset - 1) / e.period + 1
  slices_after_lem n h =
      let k : suc (e.offset + (n - e.offset - 1)) ≡ n = omega arith in
      rw k at (slices_past (n - e.offset - 1))

-- What it is owed.
module _ (e : Entry) (whole : e.period * weight e ≡ WHOLE) (inside : e.offset < e.period) where
  -- A listed entry's weight is above 0.
  pub weight_pos : 0 < weight e
  weight_pos = at (ℕ_discrete (weight e) 0)
    where
      at : Dec (weight e ≡ 0) → 0 < weight e
      at (yes z) = absurd (omega (arith, ap (λ (x : ℕ). e.period * x) z))
      at (no n) = omega arith

  -- Before the first own slot nothing is paid.
  pub shortfall_before : (n : ℕ) → n ≤ e.offset → shortfall_after e n ≡ e.shortfall + n * weight e
  unfolding shortfall_after over_slot
  shortfall_before zero h = omega arith
  shortfall_before (suc n) h =
      let lt : n < e.period = omega arith in
      let ne : n % e.period ≢ e.offset = omega (arith, mod-eq_of_lt lt) in
      rw (cyclic_other e inside n ne) (omega (arith, shortfall_before n (omega arith)))

  -- What is owed just after the first own slot.
  abbrev pub left_over : ℕ
  left_over = e.shortfall + e.offset * weight e + weight e - WHOLE

  shortfall_past : (f : ℕ) → shortfall_after e (suc (e.offset + f)) ≡ left_over + f % e.period * weight e
  unfolding shortfall_after over_slot
  shortfall_past zero =
      rw (add-zero, zero-mod, cyclic_own e inside e.offset (mod-eq_of_lt inside)) (omega (arith, shortfall_before e.offset (omega arith)))
  shortfall_past (suc f) = rw (add-suc e.offset f) (at (ℕ_discrete (suc (f % e.period)) e.period) (shortfall_past f))
    where
      at : Dec (suc (f % e.period) ≡ e.period) → shortfall_after e (suc (e.offset + f)) ≡ left_over + f % e.period * weight e
          → shortfall_after e (suc (suc (e.offset + f))) ≡ left_over + suc f % e.period * weight e
      at (yes h) ih =
          rw (cyclic_own e inside (suc (e.offset + f)) (own_end e inside f h))
          (omega (arith, ih, ap (λ (x : ℕ). x * weight e) h, ap (λ (x : ℕ). x * weight e) (suc_mod_end f e.period h)))
      at (no n) ih =
          let lt : suc (f % e.period) < e.period = omega (arith, mod-lt f {m = e.period} (omega arith)) in
          rw (cyclic_other e inside (suc (e.offset + f)) (own_in e inside f lt))
          (omega (arith, ih, ap (λ (x : ℕ). x * weight e) (suc_mod_in f e.period lt)))

  -- The closed form of the shortfall, past the first own slot.
  pub shortfall_after_lem : (n : ℕ) → e.offset < n → shortfall_after e n ≡ left_over + (n - e.offset - 1) % e.period * weight e
  shortfall_after_lem n h =
      let k : suc (e.offset + (n - e.offset - 1)) ≡ n = omega arith in
      rw k at (shortfall_past (n - e.offset - 1))

  -- The bound is kept for ever exactly if it is kept where the first own slot pays.
  pub kept_for_ever : (bound : ℕ) → 1 ≤ bound
      → ((n : ℕ) → shortfall_after e n < WHOLE * bound) ↔ (e.shortfall + e.offset * weight e < WHOLE * bound)
  kept_for_ever bound pos =
      ((λ h. omega (arith, h e.offset, shortfall_before e.offset (omega arith))), (λ h n. at h n (dec_le n e.offset)))
    where
      at : e.shortfall + e.offset * weight e < WHOLE * bound → (n : ℕ) → Dec (n ≤ e.offset) → shortfall_after e n < WHOLE * bound
      at h n (yes l) = omega (arith, shortfall_before n l, mul-le-mul_right (weight e) l)
      at h n (no m) =
          let l : e.offset < n = omega arith in
          omega (arith, shortfall_after_lem n l, weight_pos, mul-le-mul_right (weight e) (mod-lt (n - e.offset - 1) {m = e.period} (omega arith)))

  -- Where the bound is kept at the base, that is: the offset is at most the room.
  pub room_iff : e.shortfall < WHOLE * e.bound
      → (e.shortfall + e.offset * weight e < WHOLE * e.bound) ↔ (e.offset ≤ room e)
  unfolding room_of
  room_iff h =
      let k = le-div_iff_mul-le {k = weight e} {x = e.offset} {y = WHOLE * e.bound - 1 - e.shortfall} weight_pos in
      ((λ l. k.1 (omega arith)), (λ l. omega (arith, k.0 l)))
