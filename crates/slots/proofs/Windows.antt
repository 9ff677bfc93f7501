-- The window law, both ways: the shortfall is the largest excess of entitlement over supply among the windows that end there, back to slot 0,
-- so it stays below 256 R exactly if every such window keeps its bound. And a shortfall falls by own slots only. Assumes nothing.
use mathlib.Core.Bool.{Bool, true, false}
use mathlib.Core.Logic.{◌≢◌}
use mathlib.Core.Path.{◌≡◌, refl, ap, ◌∙◌}
use native.Mathlib.Decide.{ℕ_discrete}
use native.Mathlib.Nat.{add-suc, add-zero}
use native.Mathlib.Omega.{arith}
use Prim.Native.Nat.{ℕ, zero, suc, ◌+◌, ◌*◌, ◌≤◌, ◌<◌}
use Rattle.slots.proofs.OneSlot.{shortfall_suc}
use Rattle.slots.specs.Limits.{WHOLE}
use Rattle.slots.specs.Shortfall.{over_slot}
use Rattle.slots.specs.Slots.{Run, own, one, entitlement, supply, shortfall, KeepsBound}

-- One slot loses nothing: what was owed is paid by the slot or still owed.
pub over_le : (b : Bool) (w s : ℕ) → s + w ≤ WHOLE * one b + over_slot b w s
unfolding one over_slot
over_le true w s = omega arith
over_le false w s = omega arith

-- Where one slot pays more than was owed, nothing is owed after it.
pub over_zero : (b : Bool) (w s : ℕ) → s + w ≢ WHOLE * one b + over_slot b w s → over_slot b w s ≡ 0
unfolding one over_slot
over_zero true w s n = omega arith
over_zero false w s n = omega arith

-- A slot of somebody else's, in which nothing is due, leaves what is owed.
pub over_still : (s : ℕ) → over_slot false 0 s ≡ s
unfolding over_slot
over_still s = omega arith

module _ (run : Run) (i : ℕ) where
  -- One slot more adds to a window what it adds to the shortfall, or more.
  pub window_over : (a n s : ℕ) → entitlement run i a n ≤ WHOLE * supply run i a n + s
      → entitlement run i a (suc n) ≤ WHOLE * supply run i a (suc n) + over_slot (own run i (a + n)) ((run (a + n)).weight i) s
  unfolding entitlement supply
  window_over a n s h = omega (arith, over_le (own run i (a + n)) ((run (a + n)).weight i) s)

  -- No window is underserved by more than the shortfall at its end.
  pub window_le : (a n : ℕ) → entitlement run i a n ≤ WHOLE * supply run i a n + shortfall run i (a + n)
  unfolding entitlement supply
  window_le a zero = omega arith
  window_le a (suc n) = rw (add-suc a n, shortfall_suc run i (a + n)) (window_over a n (shortfall run i (a + n)) (window_le a n))

  -- A window that ends at the start of slot t and is underserved by exactly s.
  pub record Attains (t s : ℕ) : Type 0 where
    pub from : ℕ
    pub size : ℕ
    pub ends : from + size ≡ t
    pub equal : entitlement run i from size ≡ WHOLE * supply run i from size + s

  -- The empty window at t is underserved by nothing.
  empty_attains : (t s : ℕ) → s ≡ 0 → Attains t s
  unfolding entitlement supply
  empty_attains t s z = record { from = t; size = 0; ends = add-zero t; equal = omega arith }

  -- A window that attains the shortfall at slot t attains the one at the next slot too, or the empty one does.
  attains_suc : (t : ℕ) → Attains t (shortfall run i t) → Attains (suc t) (shortfall run i (suc t))
  unfolding entitlement supply shortfall
  attains_suc t k = at (ℕ_discrete (s + w) (WHOLE * one b + over_slot b w s))
    where
      b : Bool
      b = own run i t

      w : ℕ
      w = (run t).weight i

      s : ℕ
      s = shortfall run i t

      at : Dec (s + w ≡ WHOLE * one b + over_slot b w s) → Attains (suc t) (over_slot b w s)
      at (yes q) = record {
        from = k.from;
        size = suc k.size;
        ends = omega (arith, k.ends);
        equal = rw k.ends (omega (arith, k.equal, q));
      }
      at (no q) = empty_attains (suc t) (over_slot b w s) (over_zero b w s q)

  -- Some window attains the shortfall, at every slot of every run.
  pub attains : (t : ℕ) → Attains t (shortfall run i t)
  unfolding shortfall
  attains zero = empty_attains 0 0 refl
  attains (suc t) = attains_suc t (attains t)

  -- Where the shortfall at the end of slot a + n is below 256 R, every window with that last slot keeps its bound.
  pub kept_windows : (a n : ℕ) → shortfall run i (suc (a + n)) < WHOLE * (run (a + n)).bound i → KeepsBound run i a n
  kept_windows a n k = omega (arith, window_le a (suc n), ap (shortfall run i) (add-suc a n))

  -- And where every such window does, it is.
  pub windows_kept : (t : ℕ) → 0 < (run t).bound i → ((a n : ℕ) → a + n ≡ t → KeepsBound run i a n)
      → shortfall run i (suc t) < WHOLE * (run t).bound i
  unfolding entitlement supply
  windows_kept t pos f = at k.size refl
    where
      k : Attains (suc t) (shortfall run i (suc t))
      k = attains (suc t)

      at : (n : ℕ) → k.size ≡ n → shortfall run i (suc t) < WHOLE * (run t).bound i
      at zero e =
          let z : entitlement run i k.from 0 ≡ WHOLE * supply run i k.from 0 + shortfall run i (suc t) = rw e at k.equal in
          omega (arith, z)
      at (suc n) e =
          let last : k.from + n ≡ t = omega (arith, k.ends, e) in
          let z : entitlement run i k.from (suc n) ≡ WHOLE * supply run i k.from (suc n) + shortfall run i (suc t) = rw e at k.equal in
          let b : (run (k.from + n)).bound i ≡ (run t).bound i = ap (λ (x : ℕ). (run x).bound i) last in
          let w : KeepsBound run i k.from n = f k.from n last in
          omega (arith, z, w, b)

  -- A debt is worked off, not dropped: over a window the shortfall falls by at most 256 for each own slot.
  pub worked_off : (a n : ℕ) → shortfall run i a ≤ shortfall run i (a + n) + WHOLE * supply run i a n
  unfolding supply
  worked_off a zero = omega (arith, ap (shortfall run i) (add-zero a))
  worked_off a (suc n) =
      omega (
        arith,
        worked_off a n,
        over_le (own run i (a + n)) ((run (a + n)).weight i) (shortfall run i (a + n)),
        ap (shortfall run i) (add-suc a n) ∙ shortfall_suc run i (a + n),
      )

  -- Over slots in which nothing is due and none is its own the shortfall stays as it is.
  pub absence_keeps : (a n : ℕ) → ((m : ℕ) → m < n → ((run (a + m)).weight i ≡ 0) × (own run i (a + m) ≡ false))
      → shortfall run i (a + n) ≡ shortfall run i a
  absence_keeps a zero h = ap (shortfall run i) (add-zero a)
  absence_keeps a (suc n) h =
      let x = h n (omega arith) in
      ap (shortfall run i) (add-suc a n)
      ∙ shortfall_suc run i (a + n)
      ∙ rw (x.0, x.1) (over_still (shortfall run i (a + n)))
      ∙ absence_keeps a n (λ m l. h m (omega arith))

-- Two runs that agree before a slot have the same shortfalls there.
pub shortfall_agree : (i : ℕ) (a b : Run) (t : ℕ) → ((x : ℕ) → x < t → a x ≡ b x) → shortfall a i t ≡ shortfall b i t
unfolding shortfall own
shortfall_agree i a b zero h = refl
shortfall_agree i a b (suc t) h = cc (shortfall_agree i a b t (λ x l. h x (omega arith)), h t (omega arith))
