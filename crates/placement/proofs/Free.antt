-- Where every place's period divides a period, an offset of it is free exactly if it lies in no place's class: every slot of the offset leaves
-- the same remainder by a place's period. So rule 4 finds the largest such offset. Assumes nothing.
use borrow.Author.Tests.{eq-eqb, ne_eqb, not-true}
use lib.Dec.{eqb}
use mathlib.Core.Bool.{Bool, true, false, not, ◌||◌}
use mathlib.Core.List.{List, [], ◌∷◌}
use mathlib.Core.Logic.{◌≢◌, ◌⊎◌, inl, inr}
use mathlib.Core.Option.{Option, none, some}
use mathlib.Core.Path.{◌≡◌, refl, sym, ap, ap₂, ◌∙◌, subst}
use native.Mathlib.Nat.{add-mul-mod_self_right, le-div_iff_mul-le, mod-mod_of_dvd}
use native.Mathlib.Omega.{arith}
use Prim.Native.Nat.{ℕ, zero, suc, ◌+◌, ◌*◌, ◌/◌, ◌%◌, ◌≤◌, ◌<◌, ◌∣◌}
use Rattle.placement.specs.Placement.{Place, is_taken, all_free, last_free}
use Rattle.slots.proofs.Below.{every_at, every_all, true_false}
use Rattle.slots.specs.Limits.{WHOLE}
use Rattle.timetable.proofs.Ranges.{Period, period_pos, period_le}

-- x is one of the list.
module _ {A : Type 0} where
  abbrev pub In : A → List A → Type 0
  In x [] = ⊥
  In x (y ∷ l) = (x ≡ y) ⊎ In x l

-- Offset o lies in no place's class.
abbrev pub Free : List Place → ℕ → Type 0
Free ps o = (q : Place) → In q ps → o % q.period ≢ q.offset

-- Every place's period divides p.
abbrev pub Divide : List Place → ℕ → Type 0
Divide ps p = (q : Place) → In q ps → q.period ∣ p

-- Two offsets of one class of p are free alike, beside places whose periods divide p.
pub free_class : (ps : List Place) (p x y : ℕ) → Divide ps p → x % p ≡ y % p → Free ps x → Free ps y
free_class ps p x y d e f q m z =
    f q m (sym (mod-mod_of_dvd q.period x (d q m)) ∙ ap (λ (n : ℕ). n % q.period) e ∙ mod-mod_of_dvd q.period y (d q m) ∙ z)

-- A slot in a place's class is taken.
taken_in : (ps : List Place) (n : ℕ) (q : Place) → In q ps → n % q.period ≡ q.offset → is_taken ps n ≡ true
unfolding is_taken
taken_in [] n q m z = absurd m
taken_in (p ∷ ps) n q (inl e) z =
    ap (λ (b : Bool). b || is_taken ps n) (eq-eqb _ _ (subst (λ (x : Place). n % x.period ≡ x.offset) e z))
taken_in (p ∷ ps) n q (inr m) z = at (eqb (n % p.period) p.offset) (taken_in ps n q m z)
  where
    at : (b : Bool) → is_taken ps n ≡ true → b || is_taken ps n ≡ true
    at true e = refl
    at false e = e

-- A slot in no place's class is not taken.
taken_none : (ps : List Place) (n : ℕ) → Free ps n → is_taken ps n ≡ false
unfolding is_taken
taken_none [] n f = refl
taken_none (p ∷ ps) n f = ap₂ ◌||◌ (ne_eqb _ _ (f p (inl refl))) (taken_none ps n (λ q m. f q (inr m)))

-- What a search up to offset n gives: the largest free offset, or none is free.
abbrev pub Picked : List Place → ℕ → Option ℕ → Type 0
Picked ps n none = (o : ℕ) → o ≤ n → Free ps o → ⊥
Picked ps n (some g) = (g ≤ n) × Free ps g × ((o : ℕ) → o ≤ n → Free ps o → o ≤ g)

module _ (ps : List Place) (p : ℕ) (period : Period p) (divide : Divide ps p) where
  -- An offset whose slots of one cycle are all free lies in no place's class.
  all_free_from : (o : ℕ) → all_free ps p o ≡ true → Free ps o
  unfolding all_free
  all_free_from o h q m z =
      let pos : 0 < WHOLE / p =
      (le-div_iff_mul-le {k = p} {x = 1} {y = WHOLE} (period_pos p period)).1 (omega (arith, period_le p period)) in
      let k : is_taken ps (o + 0 * p) ≡ false = not-true _ (every_at _ _ h 0 (omega arith)) in
      let e : o + 0 * p ≡ o = omega arith in
      true_false (taken_in ps o q m z) (rw e at k)

  -- And the slots of an offset in no place's class are all free.
  all_free_is : (o : ℕ) → Free ps o → all_free ps p o ≡ true
  unfolding all_free
  all_free_is o f =
      every_all
      _
      _
      (λ m k. ap not (taken_none ps (o + m * p) (free_class ps p o (o + m * p) divide (sym (add-mul-mod_self_right o m p)) f)))

  -- Rule 4 takes the largest free offset.
  pub picked : (n : ℕ) → Picked ps n (last_free ps p n)
  unfolding last_free
  picked zero = at (all_free ps p zero) refl
    where
      at : (b : Bool) → all_free ps p zero ≡ b → Picked ps zero (last_free ps p zero)
      at true e = rw (last_free, e) (omega arith, all_free_from zero e, λ o h k. h)
      at false e = rw (last_free, e) (λ o h k. true_false (all_free_is zero (subst (Free ps) (omega arith) k)) e)
  picked (suc n) = at (all_free ps p (suc n)) refl (last_free ps p n) refl (picked n)
    where
      ne : all_free ps p (suc n) ≡ false → (o : ℕ) → Free ps o → o ≢ suc n
      ne e o k z = true_false (all_free_is (suc n) (subst (Free ps) z k)) e

      at : (b : Bool) → all_free ps p (suc n) ≡ b → (r : Option ℕ) → last_free ps p n ≡ r → Picked ps n r → Picked ps (suc n) (last_free ps p (suc n))
      at true e r q k = let t : Picked ps (suc n) (some (suc n)) = (omega arith, all_free_from (suc n) e, λ o h f. h) in rw (last_free, e) t
      at false e none q k = rw (last_free, e, q) (λ o h f. k o (omega (arith, ne e o f)) f)
      at false e (some g) q k = rw (last_free, e, q) (omega arith, k.1, λ o h f. k.2 o (omega (arith, ne e o f)) f)
