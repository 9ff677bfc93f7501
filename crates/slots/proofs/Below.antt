-- What the questions about the numbers below a number tell. Assumes nothing.
use mathlib.Core.Bool.{Bool, true, false, cond, ◌&&◌, true≢false, and-eq-true_iff}
use mathlib.Core.Logic.{◌⊎◌, inl, inr}
use mathlib.Core.Option.{Option, none, some}
use mathlib.Core.Path.{◌≡◌, refl, sym, ap, ap₂, ◌∙◌}
use native.Mathlib.Decide.{ℕ_discrete, dec_lt}
use native.Mathlib.Omega.{arith}
use Prim.Native.Nat.{ℕ, zero, suc, ◌+◌, ◌≤◌, ◌<◌}
use Rattle.slots.specs.Below.{every, first, count}

-- Both parts of a test that passes.
pub and_both : (a b : Bool) → a && b ≡ true → (a ≡ true) × (b ≡ true)
and_both a b = (and-eq-true_iff a b).0

-- A test passes or fails.
pub decided : (b : Bool) → (b ≡ true) ⊎ (b ≡ false)
decided true = inl refl
decided false = inr refl

-- No test does both.
pub true_false : {b : Bool} → b ≡ true → b ≡ false → ⊥
true_false p q = true≢false (sym p ∙ q)

module _ (test : ℕ → Bool) where
  pub every_at : (n : ℕ) → every n test ≡ true → (m : ℕ) → m < n → test m ≡ true
  unfolding every
  every_at zero e m h = elim h [ ]
  every_at (suc n) e m h = at (ℕ_discrete m n) (and_both (every n test) (test n) e) (λ k. every_at n (and_both (every n test) (test n) e).0 m k)
    where
      at : Dec (m ≡ n) → (every n test ≡ true) × (test n ≡ true) → (m < n → test m ≡ true) → test m ≡ true
      at (yes q) k ih = ap test q ∙ k.1
      at (no q) k ih = ih (omega arith)

  pub every_all : (n : ℕ) → ((m : ℕ) → m < n → test m ≡ true) → every n test ≡ true
  unfolding every
  every_all zero h = refl
  every_all (suc n) h = ap₂ ◌&&◌ (every_all n (λ m k. h m (omega arith))) (h n (omega arith))

  -- Where some number fails, not every number passes.
  pub every_not : (n m : ℕ) → m < n → test m ≡ false → every n test ≡ false
  every_not n m l h = at (decided (every n test))
    where
      at : (every n test ≡ true) ⊎ (every n test ≡ false) → every n test ≡ false
      at (inl k) = absurd (true_false (every_at n k m l) h)
      at (inr k) = k

  -- Where not every number passes, some number fails.
  pub every_fails : (n : ℕ) → every n test ≡ false → (m : ℕ) × (m < n) × (test m ≡ false)
  unfolding every
  every_fails zero e = absurd (true≢false e)
  every_fails (suc n) e = at (every n test) (test n) refl refl e (every_fails n)
    where
      at : (a b : Bool) → every n test ≡ a → test n ≡ b → a && b ≡ false → (every n test ≡ false → (m : ℕ) × (m < n) × (test m ≡ false))
          → (m : ℕ) × (m < suc n) × (test m ≡ false)
      at true b p q r ih = (n, omega arith, q ∙ r)
      at false b p q r ih = let k = ih p in (k.0, omega (arith, k.1), k.2)

  pub first_none : (n : ℕ) → first n test ≡ none → (m : ℕ) → m < n → test m ≡ false
  unfolding first
  first_none zero e m h = elim h [ ]
  first_none (suc n) e m h = at (first n test) (test n) refl refl e (first_none n) (ℕ_discrete m n)
    where
      at : (f : Option ℕ) (b : Bool) → first n test ≡ f → test n ≡ b → ◌≡◌ {A = Option ℕ} (elim f [ none ↦ cond b (some n) none | some i ↦ some i ]) none
          → (first n test ≡ none → (m : ℕ) → m < n → test m ≡ false) → Dec (m ≡ n) → test m ≡ false
      at none false p q r ih (yes z) = ap test z ∙ q
      at none false p q r ih (no z) = ih p m (omega arith)
      at none true p q r ih z = absurd (let k : ◌≡◌ {A = ℕ} 0 1 = cc in omega arith)
      at (some i) false p q r ih z = absurd (let k : ◌≡◌ {A = ℕ} 0 1 = cc in omega arith)
      at (some i) true p q r ih z = absurd (let k : ◌≡◌ {A = ℕ} 0 1 = cc in omega arith)

  pub none_first : (n : ℕ) → ((m : ℕ) → m < n → test m ≡ false) → first n test ≡ none
  unfolding first
  none_first zero h = refl
  none_first (suc n) h = rw (none_first n (λ m k. h m (omega arith)), h n (omega arith))

  -- The lowest number that passes, among those below n.
  pub first_some : (n i : ℕ) → first n test ≡ some i → (i < n) × (test i ≡ true) × ((m : ℕ) → m < i → test m ≡ false)
  unfolding first
  first_some zero i e = absurd (let k : ◌≡◌ {A = ℕ} 0 1 = cc in omega arith)
  first_some (suc n) i e = at (first n test) (test n) refl refl e (first_some n i)
    where
      at : (f : Option ℕ) (b : Bool) → first n test ≡ f → test n ≡ b → ◌≡◌ {A = Option ℕ} (elim f [ none ↦ cond b (some n) none | some i ↦ some i ]) (some i)
          → (first n test ≡ some i → (i < n) × (test i ≡ true) × ((m : ℕ) → m < i → test m ≡ false))
          → (i < suc n) × (test i ≡ true) × ((m : ℕ) → m < i → test m ≡ false)
      at none false p q r ih = absurd (let k : ◌≡◌ {A = ℕ} 0 1 = cc in omega arith)
      at none true p q r ih =
          let k : n ≡ i = cc in
          (omega arith, ap test (sym k) ∙ q, λ m h. first_none n p m (omega arith))
      at (some j) false p q r ih = let k = ih (p ∙ r) in (omega (arith, k.0), k.1, k.2)
      at (some j) true p q r ih = let k = ih (p ∙ r) in (omega (arith, k.0), k.1, k.2)

  -- A number that passes, with none below it that does, is the lowest.
  pub some_first : (n i : ℕ) → i < n → test i ≡ true → ((m : ℕ) → m < i → test m ≡ false) → first n test ≡ some i
  some_first n i h t l = at (first n test) refl
    where
      at : (f : Option ℕ) → first n test ≡ f → first n test ≡ some i
      at none e = absurd (true_false t (first_none n e i h))
      at (some j) e =
          let k = first_some n j e in
          let a : ¬ (i < j) = λ q. true_false t (k.2 i q) in
          let b : ¬ (j < i) = λ q. true_false k.1 (l j q) in
          let z : j ≡ i = omega arith in
          e ∙ ap (λ (x : ℕ). some x) z

  -- Where the first k numbers pass and no later one does, k numbers pass.
  pub count_first : (k n : ℕ) → k ≤ n → ((m : ℕ) → m < k → test m ≡ true) → ((m : ℕ) → k ≤ m → m < n → test m ≡ false) → count n test ≡ k
  unfolding count
  count_first k zero h p q = omega arith
  count_first k (suc n) h p q = at (ℕ_discrete k (suc n)) (λ l. count_first k n l p (λ m a b. q m a (omega arith))) (count_all n)
    where
      count_all : (n : ℕ) → ((m : ℕ) → m < n → test m ≡ true) → count n test ≡ n
      count_all zero f = refl
      count_all (suc n) f = rw (count_all n (λ m l. f m (omega arith)), f n (omega arith)) (omega arith)

      at : Dec (k ≡ suc n) → (k ≤ n → count n test ≡ k) → (((m : ℕ) → m < n → test m ≡ true) → count n test ≡ n)
          → count n test + cond (test n) 1 0 ≡ k
      at (yes e) f g = rw (g (λ m l. p m (omega arith)), p n (omega arith)) (omega arith)
      at (no e) f g = rw (f (omega arith), q n (omega arith) (omega arith)) (omega arith)

  -- No more numbers pass than there are.
  pub count_most : (n : ℕ) → count n test ≤ n
  unfolding count
  count_most zero = omega arith
  count_most (suc n) = at (test n) (count_most n)
    where
      at : (b : Bool) → count n test ≤ n → count n test + cond b 1 0 ≤ suc n
      at true h = omega arith
      at false h = omega arith

  -- A number that passes adds to the count of those below it.
  pub count_rises : (i n : ℕ) → i < n → test i ≡ true → count i test < count n test
  unfolding count
  count_rises i zero h t = elim h [ ]
  count_rises i (suc n) h t = at (ℕ_discrete i n) (λ k. count_rises i n k t)
    where
      at : Dec (i ≡ n) → (i < n → count i test < count n test) → count i test < count n test + cond (test n) 1 0
      at (yes e) ih = rw (e, ap test (sym e) ∙ t) (omega arith)
      at (no e) ih = omega (arith, ih (omega arith))

  -- For every number below the count, a number passes that has so many below it that do.
  pub count_reaches : (n c : ℕ) → c < count n test → (i : ℕ) × (i < n) × (count i test ≡ c) × (test i ≡ true)
  unfolding count
  count_reaches zero c h = absurd (omega arith)
  count_reaches (suc n) c h = at (dec_lt c (count n test)) (test n) refl h (count_reaches n c)
    where
      at : Dec (c < count n test) → (b : Bool) → test n ≡ b → c < count n test + cond b 1 0
          → (c < count n test → (i : ℕ) × (i < n) × (count i test ≡ c) × (test i ≡ true))
          → (i : ℕ) × (i < suc n) × (count i test ≡ c) × (test i ≡ true)
      at (yes l) b e h ih = let k = ih l in (k.0, omega (arith, k.1), k.2, k.3)
      at (no l) true e h ih = (n, omega arith, omega arith, e)
      at (no l) false e h ih = absurd (omega arith)
