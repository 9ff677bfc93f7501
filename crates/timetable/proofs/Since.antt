-- The shortfall and the slices since the request slot: over the transition by its owners, and from the base on by the cyclic slots, from the shortfall
-- kept for the base. Assumes nothing.
use lib.Dec.{eqb}
use lib.ListN.{get_or}
use mathlib.Core.Bool.{Bool, true, false, cond}
use mathlib.Core.Path.{◌≡◌, refl, sym, ap, ap₂, ◌∙◌}
use native.Mathlib.Nat.{add-suc, add-zero}
use native.Mathlib.Omega.{arith}
use Prim.Native.Nat.{ℕ, zero, suc, ◌+◌, ◌-◌, ◌*◌, ◌≤◌, ◌<◌}
use Rattle.slots.proofs.Below.{count_most}
use Rattle.slots.specs.Below.{count}
use Rattle.slots.specs.Clocks.{core_slot, slice_count}
use Rattle.slots.specs.declared.CoreSlot.{CoreSlot}
use Rattle.slots.specs.Limits.{IDS, LONGEST, WHOLE, LARGEST_BOUND}
use Rattle.slots.specs.Shortfall.{over_slot}
use Rattle.slots.specs.Slots.{one}
use Rattle.timetable.proofs.EntryLaws.{after_absent}
use Rattle.timetable.proofs.Onward.{kept_after}
use Rattle.timetable.proofs.Owner.{serves_before, serves_from}
use Rattle.timetable.proofs.Sound.{Sound}
use Rattle.timetable.proofs.WalkLaws.{walk_small}
use Rattle.timetable.specs.declared.Entry.{Entry}
use Rattle.timetable.specs.declared.Timetable.{Timetable}
use Rattle.timetable.specs.Timetable.{entry_of, is_listed, weight, start_of, cyclic, serves, shortfall_after, slices_after, shortfall_since, shortfall_at, slices_at, transition_shortfall}

-- A number that passes counts one.
pub one_cond : (b : Bool) → cond b 1 0 ≡ one b
unfolding one
one_cond true = refl
one_cond false = refl

-- At the request slot the shortfall is the start.
pub shortfall_request : (t : Timetable) (i : ℕ) → shortfall_at t i (core_slot t.request.0) ≡ start_of t i
unfolding shortfall_at shortfall_since
shortfall_request t i = let z : t.request.0 - t.request.0 ≡ 0 = omega arith in ap (shortfall_since t i) z

module _ (t : Timetable) (s : Sound t) (i : ℕ) where
  abbrev e : Entry
  e = entry_of t.entries i

  -- Whether the slot n slots after the request slot is i's: in the transition by its owner,
  abbrev pub own_since : ℕ → Bool
  own_since n = serves t (core_slot (t.request.0 + n)) i

  abbrev pub owner_is : ℕ → Bool
  owner_is n = eqb i (get_or t.owners n 0)

  own_before : (n : ℕ) → n < t.length → own_since n ≡ owner_is n
  own_before n l =
      let b : t.request.0 + n < t.base.0 = omega (arith, s.base) in
      serves_before t (t.request.0 + n) i b ∙ ap owner_is (omega arith)

  -- and from the base on by its offset.
  own_from : (n : ℕ) → own_since (t.length + n) ≡ cyclic e n
  own_from n = serves_from t (t.request.0 + (t.length + n)) i (omega (arith, s.base)) ∙ ap (cyclic e) (omega (arith, s.base))

  -- Along the transition.
  pub shortfall_before : (n : ℕ) → n ≤ t.length → shortfall_since t i n ≡ transition_shortfall t.owners i (weight e) (start_of t i) n
  unfolding shortfall_since transition_shortfall
  shortfall_before zero m = refl
  shortfall_before (suc n) m =
      ap₂ (λ (b : Bool) (x : ℕ). over_slot b (weight e) x) (own_before n (omega arith)) (shortfall_before n (omega arith))

  pub slices_before : (n : ℕ) → n ≤ t.length → count n own_since ≡ count n owner_is
  unfolding count
  slices_before zero m = refl
  slices_before (suc n) m = ap₂ (λ (x : ℕ) (b : Bool). x + cond b 1 0) (slices_before n (omega arith)) (own_before n (omega arith))

  -- From the base on.
  pub shortfall_from : i < IDS → (n : ℕ) → shortfall_since t i (t.length + n) ≡ shortfall_after e n
  unfolding shortfall_since shortfall_after
  shortfall_from k zero = rw (add-zero t.length) (shortfall_before t.length (omega arith) ∙ s.arrives i k)
  shortfall_from k (suc n) =
      rw (add-suc t.length n) (ap₂ (λ (b : Bool) (x : ℕ). over_slot b (weight e) x) (own_from n) (shortfall_from k n))

  pub slices_from : (n : ℕ) → count (t.length + n) own_since ≡ count t.length owner_is + slices_after e n
  unfolding count slices_after
  slices_from zero = rw (add-zero t.length) (slices_before t.length (omega arith) ∙ omega arith)
  slices_from (suc n) =
      rw (add-suc t.length n) (omega (arith, slices_from n, ap {B = ℕ} (λ (b : Bool). cond b 1 0) (own_from n), one_cond (cyclic e n)))

  -- At a transition slot.
  pub shortfall_transition : (x : CoreSlot) → x.0 < t.base.0
      → transition_shortfall t.owners i (weight e) (start_of t i) (x.0 - t.request.0) ≡ shortfall_at t i x
  unfolding shortfall_at
  shortfall_transition x l = sym (shortfall_before (x.0 - t.request.0) (omega (arith, s.base)))

  pub slices_transition : (x : CoreSlot) → x.0 < t.base.0 → slice_count (count (x.0 - t.request.0) owner_is) ≡ slices_at t i x
  unfolding slices_at
  slices_transition x l = ap slice_count (sym (slices_before (x.0 - t.request.0) (omega (arith, s.base))))

  -- At a slot from the base on.
  slices_since : (x : ℕ) → t.base.0 ≤ x → count (x - t.request.0) own_since ≡ count t.length owner_is + slices_after e (x - t.base.0)
  slices_since x b =
      let z : x - t.request.0 ≡ t.length + (x - t.base.0) = omega (arith, s.base) in
      ap (λ (n : ℕ). count n own_since) z ∙ slices_from (x - t.base.0)

  pub slices_cycle : (x : CoreSlot) → t.base.0 ≤ x.0 → slice_count (count t.length owner_is + slices_after e (x.0 - t.base.0)) ≡ slices_at t i x
  unfolding slices_at
  slices_cycle x b = ap slice_count (sym (slices_since x.0 b))

  -- They are no more than the slots since the request slot.
  pub slices_most : (x : ℕ) → t.base.0 ≤ x → count t.length owner_is + slices_after e (x - t.base.0) ≤ x
  slices_most x b = omega (arith, slices_since x b, count_most own_since (x - t.request.0))

  pub shortfall_cycle : i < IDS → (x : CoreSlot) → t.base.0 ≤ x.0 → shortfall_after e (x.0 - t.base.0) ≡ shortfall_at t i x
  unfolding shortfall_at
  shortfall_cycle k x b =
      let z : x.0 - t.request.0 ≡ t.length + (x.0 - t.base.0) = omega (arith, s.base) in
      sym (ap (shortfall_since t i) z ∙ shortfall_from k (x.0 - t.base.0))

  -- At the base it is the one that is kept.
  pub shortfall_base : i < IDS → shortfall_at t i (core_slot t.base.0) ≡ e.shortfall
  unfolding shortfall_after
  shortfall_base k =
      let z : t.base.0 - t.base.0 ≡ 0 = omega arith in
      sym (shortfall_cycle k (core_slot t.base.0) (omega arith)) ∙ ap (shortfall_after e) z

  -- From the base on every id's shortfall, listed or not, is below 256 x 8.
  pub shortfall_below : i < IDS → (x : CoreSlot) → t.base.0 ≤ x.0 → shortfall_at t i x < WHOLE * LARGEST_BOUND
  shortfall_below k x b = at (is_listed e) refl
    where
      n : ℕ
      n = x.0 - t.base.0

      at : (l : Bool) → is_listed e ≡ l → shortfall_at t i x < WHOLE * LARGEST_BOUND
      at true l =
          let r = s.ranged.listed i k l in
          omega (arith, shortfall_cycle k x b, kept_after e r n, r.bound_high)
      at false l =
          let a = s.ranged.absent i k l in
          omega (arith, shortfall_cycle k x b, after_absent e n (ap (λ (f : Entry). f.period) a.zero), a.below)

  -- A walk from the start of a listed id is small.
  pub start_small : i < IDS → is_listed e ≡ true → (v : ℕ) → v ≡ weight e → (n : ℕ) → n ≤ LONGEST → start_of t i + v * n < 65536
  start_small k l v p n h =
      let r = s.ranged.listed i k l in
      let small = walk_small e.period (start_of t i) n n (omega (arith, s.start_kept i k l, r.bound_high)) h (omega arith) in
      omega (arith, ap (λ (x : ℕ). x * n) p, small)
