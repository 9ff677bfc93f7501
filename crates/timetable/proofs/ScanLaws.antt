-- The questions about the numbers below a number, asked one number at a time. Assumes nothing.
use lib.ListN.{length, length-map}
use mathlib.Core.Bool.{Bool, true, false, ◌&&◌}
use mathlib.Core.List.{List, map}
use mathlib.Core.Option.{none, some}
use mathlib.Core.Path.{◌≡◌, refl, sym, ap, ap₂, ◌∙◌}
use native.Mathlib.Numerals.{add-one}
use native.Mathlib.Omega.{arith}
use Prim.Native.Nat.{ℕ, zero, suc, ◌+◌, ◌≤◌, ◌<◌}
use Rattle.slots.proofs.Below.{every_not, first_none, some_first}
use Rattle.slots.specs.Below.{every, first}

-- An array of structs is known by the list of what its elements are made of, which is as long.
pub unmapped : (X Y : Type 0) (f : X → Y) (l : List X) (n : ℕ) → length (map f l) ≡ n → length l ≡ n
unmapped X Y f l n h = sym (length-map l f) ∙ h

-- A result that stands for a test, and is refused or passes.
pub refused : (r s : Bool) → r ≡ s → r ≡ false → s ≡ false
refused r s e h = sym e ∙ h

pub passed : (r s : Bool) → r ≡ s → r ≡ true → s ≡ true
passed r s e h = sym e ∙ h

-- Two tests that agree below n.
pub every_same : (f g : ℕ → Bool) (n : ℕ) → ((m : ℕ) → m < n → f m ≡ g m) → every n f ≡ every n g
unfolding every
every_same f g zero h = refl
every_same f g (suc n) h = ap₂ ◌&&◌ (every_same f g n (λ m l. h m (omega arith))) (h n (omega arith))

module _ (test : ℕ → Bool) where
  -- A scan of all numbers below n that has come to m with the answer r: it stops where the test fails,
  pub scan_stops : (n m : ℕ) (r : Bool) → m < n → r ≡ test m → r ≡ false → false ≡ every n test
  scan_stops n m r l e h = sym (every_not test n m l (refused r (test m) e h))

  -- goes on where it passes,
  pub scan_goes : (m : ℕ) (r : Bool) → every m test ≡ true → r ≡ test m → r ≡ true → every (m + 1) test ≡ true
  unfolding every
  scan_goes m r k e h = rw add-one (rw (k, passed r (test m) e h))

  -- and passes where all have been asked.
  pub scan_ends : (n m : ℕ) → n ≤ m → m ≤ n → every m test ≡ true → true ≡ every n test
  scan_ends n m a b k = let e : n ≡ m = omega arith in sym (ap (λ (x : ℕ). every x test) e ∙ k)

  -- A scan that looks at all of them carries the answer so far: one number more,
  pub every_next : (m : ℕ) (r s q : Bool) → r ≡ s && q → s ≡ every m test → q ≡ test m → r ≡ every (m + 1) test
  unfolding every
  every_next m r s q e h k = rw add-one (e ∙ ap₂ ◌&&◌ h k)

  first_suc : (n : ℕ) → first n test ≡ none → test n ≡ false → first (suc n) test ≡ none
  unfolding first
  first_suc n e h = rw (e, h)

  -- One number more fails.
  pub first_more : (n : ℕ) → first n test ≡ none → test n ≡ false → first (n + 1) test ≡ none
  first_more n e h = rw add-one (first_suc n e h)

  -- None passes, and all have been asked.
  pub first_end : (n m : ℕ) → m ≤ n → n ≤ m → first n test ≡ none → first m test ≡ none
  first_end n m a b e = let k : m ≡ n = omega arith in ap (λ (x : ℕ). first x test) k ∙ e

  -- None below n passes, and n does.
  pub first_here : (n m : ℕ) → n < m → first n test ≡ none → test n ≡ true → first m test ≡ some n
  first_here n m l e h = some_first test m n l h (first_none test n e)
