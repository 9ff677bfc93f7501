-- Lengths along the urgent rule: what is reached is fit, nothing is reached past a slot that cannot be given, and the lengths searched are as many
-- as the tries. Assumes nothing.
use mathlib.Core.Bool.{Bool, true, false, ◌&&◌}
use mathlib.Core.List.{List}
use mathlib.Core.Option.{Option, none, some}
use mathlib.Core.Path.{◌≡◌, refl, sym, ap, ap₂, ◌∙◌, subst}
use native.Mathlib.Nat.{add-zero, zero-add}
use native.Mathlib.Decide.{ℕ_discrete}
use native.Mathlib.Omega.{arith}
use Prim.Native.Nat.{ℕ, zero, suc, ◌+◌, ◌≤◌, ◌<◌}
use Rattle.placement.specs.Placement.{Place, placement}
use Rattle.slots.proofs.Below.{every_all, every_at, true_false, count_first}
use Rattle.slots.specs.Below.{every, count}
use Rattle.slots.specs.Limits.{LONGEST}
use Rattle.transition.proofs.Plans.{Fit, Longer, longer_told, step_fit}
use Rattle.transition.proofs.Search.{PassedFirst, Ended, found, missed, exhausted, search_ends}
use Rattle.transition.specs.declared.Plan.{Plan}
use Rattle.transition.specs.Plan.{Searched}
use Rattle.transition.specs.Reach.{reach_from, reach, is_none, has_none, is_reached, is_searched}
use Rattle.transition.specs.Transition.{longer, search_from}

-- The plan after one slot more, numbered n, than a plan that is reached, if it is.
unfoldable pub onward : ℕ → Option Plan → Option Plan
onward n none = none
onward n (some p) = longer n p

-- The last of the slots: what k slots reach, and one slot more.
pub reach_last : (k n : ℕ) (plan : Plan) → reach_from (suc k) n plan ≡ onward (n + k) (reach_from k n plan)
unfolding reach_from onward
reach_last zero n plan = at (longer n plan) refl
  where
    at : (o : Option Plan) → longer n plan ≡ o → ◌≡◌ {A = Option Plan} (elim o [ none ↦ none | some q ↦ some q ]) (longer (n + 0) plan)
    at none e = sym e ∙ ap (λ (x : ℕ). longer x plan) (sym (add-zero n))
    at (some q) e = sym e ∙ ap (λ (x : ℕ). longer x plan) (sym (add-zero n))
reach_last (suc k) n plan = at (longer n plan) (λ q. reach_last k (suc n) q)
  where
    at : (o : Option Plan) → ((q : Plan) → reach_from (suc k) (suc n) q ≡ onward (suc n + k) (reach_from k (suc n) q))
        → ◌≡◌ {A = Option Plan} (elim o [ none ↦ none | some q ↦ reach_from (suc k) (suc n) q ])
        (onward (n + suc k) (elim o [ none ↦ none | some q ↦ reach_from k (suc n) q ]))
    at none ih = refl
    at (some q) ih = ih q ∙ ap (λ (x : ℕ). onward x (reach_from k (suc n) q)) (omega arith)

-- Past a slot that cannot be given nothing is reached.
reach_past : (k n : ℕ) (plan p : Plan) → reach_from k n plan ≡ some p → longer (n + k) p ≡ none → (m : ℕ) → k < m → reach_from m n plan ≡ none
unfolding onward
reach_past k n plan p e h zero l = elim l [ ]
reach_past k n plan p e h (suc m) l = at (ℕ_discrete m k) (λ q. reach_past k n plan p e h m q)
  where
    at : Dec (m ≡ k) → (k < m → reach_from m n plan ≡ none) → reach_from (suc m) n plan ≡ none
    at (yes z) ih = ap (λ (x : ℕ). reach_from (suc x) n plan) z ∙ reach_last k n plan ∙ ap (onward (n + k)) e ∙ h
    at (no z) ih = reach_last m n plan ∙ ap (onward (n + m)) (ih (omega arith))

-- What is reached from a fit plan is fit.
pub reach_fit : (k n : ℕ) (plan p : Plan) → Fit n plan → n + k ≤ LONGEST → reach_from k n plan ≡ some p → Fit (n + k) p
unfolding reach_from
reach_fit zero n plan p f l e =
    let z : plan ≡ p = cc in
    subst (λ (x : ℕ). Fit x p) (sym (add-zero n)) (subst (Fit n) z f)
reach_fit (suc k) n plan p f l e = at (longer n plan) (longer_told n plan) e (λ q g. reach_fit k (suc n) q p g (omega arith))
  where
    at : (o : Option Plan) → Longer n plan o → ◌≡◌ {A = Option Plan} (elim o [ none ↦ none | some q ↦ reach_from k (suc n) q ]) (some p)
        → ((q : Plan) → Fit (suc n) q → reach_from k (suc n) q ≡ some p → Fit (suc n + k) p) → Fit (n + suc k) p
    at none t i ih = absurd (let z : ◌≡◌ {A = ℕ} 0 1 = cc in omega arith)
    at (some q) t i ih = subst (λ (x : ℕ). Fit x p) (omega arith) (ih q (step_fit n plan q (omega arith) f t) i)

-- So is what a length reaches from the plan of length 0.
pub fit_reached : (plan : Plan) → Fit 0 plan → (n : ℕ) → n ≤ LONGEST → (p : Plan) → reach plan n ≡ some p → Fit n p
fit_reached plan f n l p e = subst (λ (m : ℕ). Fit m p) (zero-add n) (reach_fit n 0 plan p f (omega arith) e)

-- ---- the lengths searched

-- A reached length without a placement, and one with one.
none_here : (o : Option Plan) (p : Plan) → o ≡ some p → placement p.entries ≡ none → has_none o ≡ true
unfolding has_none is_none
none_here o p e z = ap has_none e ∙ ap is_none z

some_here : (o : Option Plan) (p : Plan) (ps : List Place) → o ≡ some p → placement p.entries ≡ some ps → has_none o ≡ false
unfolding has_none is_none
some_here o p ps e z = ap has_none e ∙ ap is_none z

is_reached_lem : (o : Option Plan) (p : Plan) → o ≡ some p → is_reached o ≡ true
unfolding is_reached
is_reached_lem o p e = rw e

not_reached : (o : Option Plan) → o ≡ none → is_reached o ≡ false
unfolding is_reached
not_reached o e = rw e

module _ (plan : Plan) where
  -- The lengths before the first with a placement are searched, and it too.
  searched_first : (k : ℕ) → PassedFirst k 0 plan → (p : Plan) → reach plan k ≡ some p → is_searched plan k ≡ true
  unfolding is_searched
  searched_first k h p e =
      ap₂ ◌&&◌
      (every_all (λ m. has_none (reach plan m)) k (λ m l. let w = h m l in none_here (reach plan m) w.0 w.1 w.2))
      (is_reached_lem (reach plan k) p e)

  searched_all : (k : ℕ) → PassedFirst (suc k) 0 plan → (m : ℕ) → m < suc k → is_searched plan m ≡ true
  searched_all k h m l = let w = h m l in searched_first m (λ j q. h j (omega arith)) w.0 w.1

  -- Past a length with a placement none is searched.
  past_found : (k : ℕ) (p : Plan) (ps : List Place) → reach plan k ≡ some p → placement p.entries ≡ some ps → (m : ℕ) → suc k ≤ m
      → is_searched plan m ≡ false
  unfolding is_searched
  past_found k p ps e q m l = at (every m (λ j. has_none (reach plan j))) refl
    where
      at : (b : Bool) → every m (λ j. has_none (reach plan j)) ≡ b → b && is_reached (reach plan m) ≡ false
      at false z = refl
      at true z = absurd (true_false (every_at (λ j. has_none (reach plan j)) m z k l) (some_here (reach plan k) p ps e q))

  -- Past a missed slot none is searched.
  past_missed : (m : ℕ) → reach plan m ≡ none → is_searched plan m ≡ false
  unfolding is_searched
  past_missed m e = at (every m (λ j. has_none (reach plan j)))
    where
      at : (b : Bool) → b && is_reached (reach plan m) ≡ false
      at false = refl
      at true = not_reached (reach plan m) e

  -- Tries is the number of lengths up to T whose placement was searched.
  pub tries_count : (limit : ℕ) → (search_from limit 0 plan).tries ≡ count (suc limit) (is_searched plan)
  tries_count limit = at (search_from limit 0 plan) (search_ends limit 0 plan)
    where
      -- lengths 0 to k were searched, and no others
      counted : (s : Searched) (k : ℕ) → k ≤ limit → s.tries ≡ suc k → ((m : ℕ) → m < suc k → is_searched plan m ≡ true)
          → ((m : ℕ) → suc k ≤ m → m < suc limit → is_searched plan m ≡ false) → s.tries ≡ count (suc limit) (is_searched plan)
      counted s k l t f g = t ∙ sym (count_first (is_searched plan) (suc k) (suc limit) (omega arith) f g)

      at : (s : Searched) → Ended limit 0 plan s → s.tries ≡ count (suc limit) (is_searched plan)
      at s (found k l h p e ps q i) = counted s k (omega arith) (ap (λ (s : Searched). s.tries) i) (λ m j. upto m j (ℕ_discrete m k)) (λ m j _. past_found k p ps e q m j)
        where
          upto : (m : ℕ) → m < suc k → Dec (m ≡ k) → is_searched plan m ≡ true
          upto m j (yes z) = ap (is_searched plan) z ∙ searched_first k h p e
          upto m j (no z) =
              let w = h m (omega arith) in
              searched_first m (λ x y. h x (omega arith)) w.0 w.1
      at s (missed k l h p e q i) =
          counted s k (omega arith) (ap (λ (s : Searched). s.tries) i) (searched_all k h) (λ m j _. past_missed m (reach_past k 0 plan p e q m j))
      at s (exhausted h p i) =
          counted s limit (omega arith) (ap (λ (s : Searched). s.tries) i) (searched_all limit h) (λ m j l. absurd (omega arith))
