-- One transition slot: whom the urgent rule serves, why that keeps every bound, and why a missed slot breaks one whoever gets it. Assumes nothing.
use borrow.Author.Tests.{ne_eqb, ltb-true, ltb-false, eqb-false, not-true, not-false}
use lib.Dec.{eqb, ltb}
use mathlib.Core.Bool.{Bool, true, false, cond, not, ◌||◌}
use mathlib.Core.List.{List}
use mathlib.Core.Logic.{◌≢◌, ◌⊎◌, inl, inr, ⊎_elim}
use mathlib.Core.Option.{Option, none, some}
use mathlib.Core.Path.{◌≡◌, refl, sym, ◌∙◌}
use native.Mathlib.Decide.{ℕ_discrete}
use native.Mathlib.Nat.{le-div_iff_mul-le, div-lt_iff_lt-mul}
use native.Mathlib.Omega.{arith}
use Prim.Native.Nat.{ℕ, suc, ◌+◌, ◌-◌, ◌*◌, ◌/◌, ◌≤◌, ◌<◌}
use Rattle.placement.specs.Any.{Lists}
use Rattle.slots.proofs.Below.{every_at, every_fails, true_false}
use Rattle.slots.specs.Limits.{IDS, WHOLE}
use Rattle.slots.specs.Shortfall.{over_slot, room_of, weight_of}
use Rattle.slots.specs.Slots.{is_owner}
use Rattle.timetable.proofs.Cycle.{weight_pos}
use Rattle.timetable.proofs.EntryLaws.{weight_le}
use Rattle.timetable.proofs.Ranges.{InRange, period_whole}
use Rattle.timetable.proofs.Sound.{Ranged}
use Rattle.timetable.specs.declared.Entry.{Entry}
use Rattle.timetable.specs.Timetable.{entry_of, is_listed, weight, room}
use Rattle.transition.specs.Reach.{AnyoneBreaks}
use Rattle.transition.specs.RuleThree.{MostUrgent}
use Rattle.transition.specs.Transition.{more_urgent, is_missed}

-- ---- the most urgent

-- What the search for the most urgent id tells.
abbrev pub Told : List Entry → ℕ → Option ℕ → Type 0
Told es n none = (i : ℕ) → i < n → is_listed (entry_of es i) ≡ false
Told es n (some u) = MostUrgent es n u

module _ (es : List Entry) where
  pub told_none : (n : ℕ) → is_listed (entry_of es n) ≡ true → Told es n none → Told es (suc n) (some n)
  told_none n l h = record {
    below = omega arith;
    listed = l;
    least = λ i k m. at i m (ℕ_discrete i n) (λ q. h i (omega arith));
    ties = λ i k m. absurd (true_false m (h i k));
  }
    where
      at : (i : ℕ) → is_listed (entry_of es i) ≡ true → Dec (i ≡ n) → (i ≢ n → is_listed (entry_of es i) ≡ false)
          → room (entry_of es n) ≤ room (entry_of es i)
      at i m (yes e) f = rw e (omega arith)
      at i m (no e) f = absurd (true_false m (f e))

  -- The most urgent id stays the most urgent beside one with no less room.
  pub told_kept : (n u : ℕ) → (is_listed (entry_of es n) ≡ true → room (entry_of es u) ≤ room (entry_of es n)) → Told es n (some u) → Told es (suc n) (some u)
  told_kept n u l h = record {
    below = omega (arith, h.below);
    listed = h.listed;
    least = λ i k m. at i m (ℕ_discrete i n) (λ q. h.least i (omega arith) m);
    ties = h.ties;
  }
    where
      at : (i : ℕ) → is_listed (entry_of es i) ≡ true → Dec (i ≡ n) → (i ≢ n → room (entry_of es u) ≤ room (entry_of es i))
          → room (entry_of es u) ≤ room (entry_of es i)
      at i m (yes z) f = rw z (l (rw z at m))
      at i m (no z) f = f z

  pub told_some : (n u : ℕ) → is_listed (entry_of es n) ≡ true → Told es n (some u) → Told es (suc n) (more_urgent es n (some u))
  unfolding more_urgent
  told_some n u l h = at (ltb (room (entry_of es n)) (room (entry_of es u))) refl
    where
      at : (b : Bool) → ltb (room (entry_of es n)) (room (entry_of es u)) ≡ b → Told es (suc n) (cond b (some n) (some u))
      at true e = record {
        below = omega arith;
        listed = l;
        least = λ i k m. less i m (ℕ_discrete i n) (λ q. h.least i (omega arith) m);
        ties = λ i k m. omega (arith, ltb-true (room (entry_of es n)) (room (entry_of es u)) e, h.least i k m);
      }
        where
          less : (i : ℕ) → is_listed (entry_of es i) ≡ true → Dec (i ≡ n) → (i ≢ n → room (entry_of es u) ≤ room (entry_of es i))
              → room (entry_of es n) ≤ room (entry_of es i)
          less i m (yes z) f = rw z (omega arith)
          less i m (no z) f = omega (arith, ltb-true (room (entry_of es n)) (room (entry_of es u)) e, f z)
      at false e = told_kept n u (λ _. ltb-false (room (entry_of es n)) (room (entry_of es u)) e) h

-- ---- room, in terms of the bound

module _ (e : Entry) (r : InRange e) where
  pos : 0 < weight e
  pos = weight_pos e (period_whole e.period r.period) r.inside

  -- With room for one idle slot the bound is kept over it.
  pub room_bears : 0 < room e → e.shortfall + weight e < WHOLE * e.bound
  unfolding room_of
  room_bears h =
      let k = (le-div_iff_mul-le {k = weight e} {x = 1} {y = WHOLE * e.bound - 1 - e.shortfall} pos).0 h in
      omega (arith, pos)

  -- With no room it is broken over one.
  pub room_breaks : room e ≡ 0 → WHOLE * e.bound ≤ e.shortfall + weight e
  unfolding room_of
  room_breaks h =
      let l : (WHOLE * e.bound - 1 - e.shortfall) / weight e < 1 = omega arith in
      let k = (div-lt_iff_lt-mul {k = weight e} {x = WHOLE * e.bound - 1 - e.shortfall} {y = 1} pos).0 l in
      omega (arith, r.kept)

  -- Its own slot keeps the bound.
  pub own_bears : e.shortfall + weight e - WHOLE < WHOLE * e.bound
  unfolding weight_of
  own_bears = omega (arith, r.kept, r.bound_low, weight_le e.period)

-- ---- the missed slot

-- A slot that is not missed leaves room to every other listed id.
pub unmissed : (es : List Entry) (u : ℕ) → is_missed es u ≡ false → (i : ℕ) → Lists es i → i ≢ u → 0 < room (entry_of es i)
unfolding is_missed
unmissed es u h i l n =
    let k = every_at _ IDS (not-false _ h) i l.0 in
    let b = rw (ne_eqb i u n, l.1) at k in
    omega (arith, ltb-true)

-- A missed slot has another listed id without room.
pub missed : (es : List Entry) (u : ℕ) → is_missed es u ≡ true → (i : ℕ) × Lists es i × (i ≢ u) × (room (entry_of es i) ≡ 0)
unfolding is_missed
missed es u h =
    let w = every_fails (λ i. eqb i u || not (is_listed (entry_of es i)) || ltb 0 (room (entry_of es i))) IDS (not-true _ h) in
    at w.0 w.1 (eqb w.0 u) (is_listed (entry_of es w.0)) (ltb 0 (room (entry_of es w.0))) refl refl refl w.2
  where
    at : (i : ℕ) → i < IDS → (a b c : Bool) → eqb i u ≡ a → is_listed (entry_of es i) ≡ b → ltb 0 (room (entry_of es i)) ≡ c
        → a || not b || c ≡ false → (i : ℕ) × Lists es i × (i ≢ u) × (room (entry_of es i) ≡ 0)
    at i k false true false p q r z = (i, (k, q), eqb-false i u p, omega (arith, ltb-false 0 (room (entry_of es i)) r))
    at i k false true true p q r z = absurd (true_false refl z)
    at i k false false c p q r z = absurd (true_false refl z)
    at i k true true c p q r z = absurd (true_false refl z)
    at i k true false c p q r z = absurd (true_false refl z)

-- An id that does not get the slot, and has no room, breaks its bound.
without : (es : List Entry) → Ranged es → (i : ℕ) → Lists es i → room (entry_of es i) ≡ 0 → (owner : Option ℕ) → is_owner i owner ≡ false
    → (i : ℕ) × Lists es i × (WHOLE * (entry_of es i).bound ≤ over_slot (is_owner i owner) (weight (entry_of es i)) (entry_of es i).shortfall)
unfolding over_slot
without es r i l z owner o = (i, l, rw o (room_breaks (entry_of es i) (r.listed i l.0 l.1) z))

-- Of two ids, an owner is not both.
one_owner : (i j : ℕ) → i ≢ j → (owner : Option ℕ) → (is_owner i owner ≡ false) ⊎ (is_owner j owner ≡ false)
unfolding is_owner
one_owner i j n none = inl refl
one_owner i j n (some k) = at (ℕ_discrete i k)
  where
    at : Dec (i ≡ k) → (eqb i k ≡ false) ⊎ (eqb j k ≡ false)
    at (yes e) = inr (ne_eqb j k (λ z. n (e ∙ sym z)))
    at (no e) = inl (ne_eqb i k e)

-- Where the most urgent id's slot is missed, some bound is broken whoever gets it.
pub missed_breaks : (es : List Entry) → Ranged es → (u : ℕ) → MostUrgent es IDS u → is_missed es u ≡ true → AnyoneBreaks es
missed_breaks es r u m h owner =
    let w = missed es u h in
    let z : room (entry_of es u) ≡ 0 = omega (arith, m.least w.0 w.1.0 w.1.1, w.3) in
    ⊎_elim
    (λ o. without es r w.0 w.1 w.3 owner o)
    (λ o. without es r u (m.below, m.listed) z owner o)
    (one_owner w.0 u w.2 owner)
