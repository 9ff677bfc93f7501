-- An array made by a closure that gives the element of each index. Assumes nothing.
use denote.Param.Members.{Mut}
use lib.ListN.{get_or}
use mathlib.Core.List.{List}
use mathlib.Core.Path.{◌≡◌, refl, subst, ◌∙◌}
use native.Mathlib.Decide.{ℕ_discrete}
use native.Mathlib.Omega.{arith}
use Prim.Native.Nat.{ℕ, zero, suc, ◌+◌, ◌≤◌, ◌<◌}
use Rattle.std.specs.Array.{IsFromFnResult, IsFromFnResultFrom}
use Rattle.std.specs.Fn.{Called}

module _ {F B : Type 0} (g : Mut F (ℕ × Unit {0}) B) (f : F) (h : ℕ → B)
    (gives : (i : ℕ) (y : B) (q : F) → Called g f (i, tt) y q → (q ≡ f) × (y ≡ h i)) where
  -- From a number on,
  made_from : (ys : List B) (p : F) → p ≡ f → (i m : ℕ) → IsFromFnResultFrom g p ys i m → (j : ℕ) (d : B) → i ≤ j → j < i + m → get_or ys j d ≡ h j
  made_from ys p e i zero r j d a b = absurd (omega arith)
  made_from ys p e i (suc m) r j d a b =
      let k : (r.0 ≡ f) × (r.1 ≡ h i) = gives i r.1 r.0 (subst (λ (z : F). Called g z (i, tt) r.1 r.0) e r.3) in
      at (ℕ_discrete j i) (r.2.1 d ∙ k.1) (λ l. made_from ys r.0 k.0 (i + 1) m r.4 j d (omega arith) (omega arith))
    where
      at : Dec (j ≡ i) → get_or ys i d ≡ h i → (i < j → get_or ys j d ≡ h j) → get_or ys j d ≡ h j
      at (yes z) here later = rw z here
      at (no z) here later = later (omega arith)

  -- each element is what the closure gives.
  pub made_at : (n : ℕ) (ys : List B) → IsFromFnResult g f ys n → (j : ℕ) (d : B) → j < n → get_or ys j d ≡ h j
  made_at n ys r j d l = made_from ys f refl 0 n r.each j d (omega arith) (omega arith)
