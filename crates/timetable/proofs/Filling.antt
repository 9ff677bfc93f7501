-- A list with a number for each id, put in id by id. Assumes nothing.
use lib.ListN.{get_or, length, length-set, set}
use lib.Seq.{get_or-set_same, get_or-set_other}
use mathlib.Core.List.{List}
use mathlib.Core.Path.{◌≡◌, ◌∙◌}
use native.Mathlib.Decide.{ℕ_discrete}
use native.Mathlib.Omega.{arith}
use Prim.Native.Nat.{ℕ, ◌+◌, ◌<◌}
use Rattle.slots.specs.Limits.{IDS}

-- The ids below n have their numbers.
pub record Filled (f : ℕ → ℕ) (n : ℕ) (l : List ℕ) : Type 0 where
  pub count : length l ≡ IDS
  pub below : (i : ℕ) → i < n → get_or l i 0 ≡ f i

module _ (f : ℕ → ℕ) where
  -- No id has its number yet.
  pub filled_nothing : (l : List ℕ) → length l ≡ IDS → Filled f 0 l
  filled_nothing l h = record { count = h; below = λ i k. absurd (omega arith) }

  -- One id more.
  pub filled_next : (n : ℕ) (l : List ℕ) (x : ℕ) → n < IDS → Filled f n l → x ≡ f n → Filled f (n + 1) (set l n x)
  filled_next n l x k h e = record { count = length-set l n x ∙ h.count; below = λ i m. at i m (ℕ_discrete i n) }
    where
      at : (i : ℕ) → i < n + 1 → Dec (i ≡ n) → get_or (set l n x) i 0 ≡ f i
      at i m (yes z) = rw z (get_or-set_same l n x 0 (omega (arith, h.count)) ∙ e)
      at i m (no z) = get_or-set_other l n i x 0 z ∙ h.below i (omega arith)
