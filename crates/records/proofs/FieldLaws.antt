-- What each field gives: its form, its range and its rise are tested in this order, and each test has its own number. Assumes nothing.
use borrow.Author.Tests.{le-leb, lt-leb, leb-true, leb-false}
use lib.Dec.{leb}
use mathlib.Core.Bool.{Bool, true, false, cond}
use mathlib.Core.List.{List}
use mathlib.Core.Path.{◌≡◌, refl}
use Prim.Native.Nat.{ℕ, ◌+◌, ◌^◌}
use Rattle.records.specs.declared.Listed.{Listed}
use Rattle.std.specs.Prelude.{Ok, Err}
use Rattle.numbers.specs.Numbers.{NOT_RISING, refusal}
pub use Rattle.records.specs.Reads.{NumberRead, ListedForm, ListedRead}
use Rattle.records.specs.Request.{content_at, is_field, listed_as, listed_field, number_field, Reading}

-- A form, then a range, tested in this order.
tested : {A : Type 0} (Gives : A → Type 0) (form range : Bool) (a b c : A) → (form ≡ false → Gives c)
    → (form ≡ true → range ≡ false → Gives b) → (form ≡ true → range ≡ true → Gives a) → Gives (cond form (cond range a b) c)
tested Gives false range a b c x y z = x refl
tested Gives true false a b c x y z = y refl refl
tested Gives true true a b c x y z = z refl refl

module _ (s : List ℕ) (at tag size most : ℕ) where
  -- A field that holds a number gives what its cases say.
  pub number_read : NumberRead s at tag size most (number_field s at tag size most)
  unfolding number_field
  number_read =
      tested (NumberRead s at tag size most) _ _ _ _ _ (λ p. NumberRead.wrong p) (λ p q. NumberRead.high p (leb-false _ _ q))
      (λ p q. NumberRead.value p (leb-true _ _ q))

  -- Whatever its cases say is what a field that holds a number gives.
  pub number_is : (f : Reading ℕ) → NumberRead s at tag size most f → number_field s at tag size most ≡ f
  unfolding number_field
  number_is f (NumberRead.wrong p) = rw p
  number_is f (NumberRead.high p q) = rw (p, lt-leb _ _ q)
  number_is f (NumberRead.value p q) = rw (p, le-leb _ _ q)

module _ (s : List ℕ) (place : ℕ) where
  -- A form in range gives 5, or what it lists.
  rise : (floor next bound : ℕ) (range : Bool) → ListedForm s place next bound range → range ≡ true
      → ListedRead s place floor (listed_as s place floor bound next)
  unfolding listed_as
  rise floor next bound range f e = at (leb floor (content_at s place 0)) refl
    where
      at : (b : Bool) → leb floor (content_at s place 0) ≡ b
          → ListedRead s place floor
          (cond b
          (Ok (record { id = content_at s place 0; ask = record { period = 2 ^ content_at s place 1; bound = bound }; next = next }))
          (Err (refusal NOT_RISING place)))
      at true p = ListedRead.value f e (leb-true _ _ p)
      at false p = ListedRead.low f e (leb-false _ _ p)

  -- A tag 3 field gives what its cases say.
  pub listed_read : (floor : ℕ) → ListedRead s place floor (listed_field s place floor)
  unfolding listed_field
  listed_read floor =
      tested (ListedRead s place floor) (is_field s place 3 3) _ _ _ _
      (λ p. tested (ListedRead s place floor) (is_field s place 3 2) _ _ _ _
      (λ q. ListedRead.wrong p q)
      (λ q h. ListedRead.high (ListedForm.short p q) h)
      (λ q h. rise floor (place + 5) 0 _ (ListedForm.short p q) h))
      (λ p h. ListedRead.high (ListedForm.long p) h)
      (λ p h. rise floor (place + 6) (content_at s place 2) _ (ListedForm.long p) h)

  -- Whatever its cases say is what a tag 3 field gives.
  pub listed_is : (floor : ℕ) (f : Reading Listed) → ListedRead s place floor f → listed_field s place floor ≡ f
  unfolding listed_field listed_as
  listed_is floor f (ListedRead.wrong p q) = rw (p, q)
  listed_is floor f (ListedRead.high (ListedForm.long p) e) = rw (p, e)
  listed_is floor f (ListedRead.high (ListedForm.short p q) e) = rw (p, q, e)
  listed_is floor f (ListedRead.low (ListedForm.long p) e h) = rw (p, e, lt-leb _ _ h)
  listed_is floor f (ListedRead.low (ListedForm.short p q) e h) = rw (p, q, e, lt-leb _ _ h)
  listed_is floor f (ListedRead.value (ListedForm.long p) e h) = rw (p, e, le-leb _ _ h)
  listed_is floor f (ListedRead.value (ListedForm.short p q) e h) = rw (p, q, e, le-leb _ _ h)
