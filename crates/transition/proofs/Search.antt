-- The search of lengths ends as it says: at the first length with a placement, at a slot that cannot be given, or past the last length.
-- And it does not look ahead to T: one that is not exhausted ends alike with a larger T. By induction on the lengths that remain. Assumes nothing.
use mathlib.Core.List.{List}
use mathlib.Core.Option.{Option, none, some}
use mathlib.Core.Path.{◌≡◌, refl, sym, ap, ◌∙◌, subst}
use native.Mathlib.Nat.{add-zero}
use native.Mathlib.Omega.{arith}
use Prim.Native.Nat.{ℕ, zero, suc, ◌+◌, ◌≤◌, ◌<◌}
use Rattle.placement.specs.Placement.{Place, placement}
use Rattle.transition.specs.declared.Ending.TheVariants.{Found, Missed, Exhausted}
use Rattle.transition.specs.declared.Plan.{Plan}
use Rattle.transition.specs.Plan.{Searched}
use Rattle.transition.specs.Reach.{reach_from}
use Rattle.transition.specs.Transition.{longer, ended, passed, placed, search_from}

-- The first k lengths from n on are reached and have no placement by rule 4.
abbrev pub PassedFirst : ℕ → ℕ → Plan → Type 0
PassedFirst k n plan = (m : ℕ) → m < k → (p : Plan) × (reach_from m n plan ≡ some p) × (placement p.entries ≡ none)

-- How a search from length n on, with `left` longer lengths, ended k lengths later.
pub data Ended (left n : ℕ) (plan : Plan) (s : Searched) : Type 0 where
  found : (k : ℕ) → k ≤ left → PassedFirst k n plan
      → (p : Plan) → reach_from k n plan ≡ some p → (ps : List Place) → placement p.entries ≡ some ps
      → s ≡ record { ending = Found (n + k); tries = suc k; plan = placed p ps } → Ended left n plan s
  missed : (k : ℕ) → k < left → PassedFirst (suc k) n plan → (p : Plan) → reach_from k n plan ≡ some p → longer (n + k) p ≡ none
      → s ≡ record { ending = Missed (n + k); tries = suc k; plan = p } → Ended left n plan s
  exhausted : PassedFirst (suc left) n plan → (p : Plan) → s ≡ record { ending = Exhausted (n + left); tries = suc left; plan = p }
      → Ended left n plan s

-- ---- one length

module _ (n : ℕ) (plan : Plan) where
  -- A length with a placement ends the search.
  pub search_found : (left : ℕ) (ps : List Place) → placement plan.entries ≡ some ps → search_from left n plan ≡ ended (Found n) (placed plan ps)
  unfolding search_from
  search_found zero ps h = rw (h, search_from)
  search_found (suc left) ps h = rw (h, search_from)

  -- So does the last.
  pub search_exhausted : placement plan.entries ≡ none → search_from 0 n plan ≡ ended (Exhausted n) plan
  unfolding search_from
  search_exhausted h = rw (h, search_from)

  -- And a slot that cannot be given.
  pub search_missed : (left : ℕ) → placement plan.entries ≡ none → longer n plan ≡ none → search_from (suc left) n plan ≡ ended (Missed n) plan
  unfolding search_from
  search_missed left h m = rw (h, search_from) (rw m)

  -- Otherwise the length is passed over.
  pub search_on : (left : ℕ) (next : Plan) → placement plan.entries ≡ none → longer n plan ≡ some next
      → search_from (suc left) n plan ≡ passed (search_from left (suc n) next)
  unfolding search_from
  search_on left next h m = rw (h, search_from) (rw m)

-- ---- how it ends

-- One slot more, and then k.
reach_suc : (k n : ℕ) (plan next : Plan) → longer n plan ≡ some next → reach_from (suc k) n plan ≡ reach_from k (suc n) next
unfolding reach_from
reach_suc k n plan next e = ap (λ (o : Option Plan). elim o as (λ _. Option Plan) [ none ↦ none | some q ↦ reach_from k (suc n) q ]) e

-- A length that was passed over, before k that were.
passed_suc : (k n : ℕ) (plan next : Plan) → placement plan.entries ≡ none → longer n plan ≡ some next → PassedFirst k (suc n) next
    → PassedFirst (suc k) n plan
unfolding reach_from
passed_suc k n plan next z e h zero l = (plan, refl, z)
passed_suc k n plan next z e h (suc m) l =
    let w = h m (omega arith) in
    (w.0, reach_suc m n plan next e ∙ w.1, w.2)

-- No length was passed over.
passed_none : (n : ℕ) (plan : Plan) → PassedFirst 0 n plan
passed_none n plan m l = absurd (omega arith)

passed_one : (n : ℕ) (plan : Plan) → placement plan.entries ≡ none → PassedFirst 1 n plan
unfolding reach_from
passed_one n plan z zero l = (plan, refl, z)
passed_one n plan z (suc m) l = absurd (omega arith)

-- How the search ended one length earlier.
ended_suc : (left n : ℕ) (plan next : Plan) (s : Searched) → placement plan.entries ≡ none → longer n plan ≡ some next
    → Ended left (suc n) next s → Ended (suc left) n plan (passed s)
unfolding passed
ended_suc left n plan next s z e (found k l h p r ps q i) =
    found
    (suc k)
    (omega arith)
    (passed_suc k n plan next z e h)
    p
    (reach_suc k n plan next e ∙ r)
    ps
    q
    (ap passed i ∙ ap (λ (x : ℕ). record { ending = Found x; tries = suc (suc k); plan = placed p ps }) (omega arith))
ended_suc left n plan next s z e (missed k l h p r q i) =
    missed
    (suc k)
    (omega arith)
    (passed_suc (suc k) n plan next z e h)
    p
    (reach_suc k n plan next e ∙ r)
    (ap (λ (x : ℕ). longer x p) (omega arith) ∙ q)
    (ap passed i ∙ ap (λ (x : ℕ). record { ending = Missed x; tries = suc (suc k); plan = p }) (omega arith))
ended_suc left n plan next s z e (exhausted h p i) =
    exhausted
    (passed_suc (suc left) n plan next z e h)
    p
    (ap passed i ∙ ap (λ (x : ℕ). record { ending = Exhausted x; tries = suc (suc left); plan = p }) (omega arith))

-- The search ends at a length with a placement.
found_here : (left n : ℕ) (plan : Plan) (ps : List Place) → placement plan.entries ≡ some ps
    → Ended left n plan (ended (Found n) (placed plan ps))
unfolding ended reach_from
found_here left n plan ps e =
    found
    zero
    (omega arith)
    (passed_none n plan)
    plan
    refl
    ps
    e
    (rw add-zero)

-- Every search ends in one of the three ways.
pub search_ends : (left n : ℕ) (plan : Plan) → Ended left n plan (search_from left n plan)
unfolding ended reach_from
search_ends zero n plan = at (placement plan.entries) refl
  where
    at : (o : Option (List Place)) → placement plan.entries ≡ o → Ended zero n plan (search_from zero n plan)
    at none e = rw (search_exhausted n plan e) (exhausted (passed_one n plan e) plan (rw add-zero))
    at (some ps) e = rw (search_found n plan zero ps e) (found_here zero n plan ps e)
search_ends (suc left) n plan = at (placement plan.entries) refl (longer n plan) refl (λ next. search_ends left (suc n) next)
  where
    at : (o : Option (List Place)) → placement plan.entries ≡ o → (q : Option Plan) → longer n plan ≡ q
        → ((next : Plan) → Ended left (suc n) next (search_from left (suc n) next))
        → Ended (suc left) n plan (search_from (suc left) n plan)
    at none e none f ih = rw (search_missed n plan left e f) (missed zero (omega arith) (passed_one n plan e) plan refl (rw add-zero f) (rw add-zero))
    at none e (some next) f ih = rw (search_on n plan left next e f) (ended_suc left n plan next (search_from left (suc n) next) e f (ih next))
    at (some ps) e q f ih = rw (search_found n plan (suc left) ps e) (found_here (suc left) n plan ps e)

-- Where length k was passed over, rule 4 fails at the plan that it reaches.
pub passed_here : (k n : ℕ) (plan p : Plan) → PassedFirst (suc k) n plan → reach_from k n plan ≡ some p → placement p.entries ≡ none
passed_here k n plan p b h =
    let w = b k (omega arith) in
    let e : w.0 ≡ p = cc w.1 in
    subst (λ (q : Plan). placement q.entries ≡ none) e w.2

-- ---- a larger T

-- A search that is not exhausted ends alike if there are more lengths.
pub search_raised : (left more n : ℕ) (plan : Plan) → left ≤ more → ((m : ℕ) → (search_from left n plan).ending ≡ Exhausted m → ⊥)
    → search_from more n plan ≡ search_from left n plan
unfolding ended passed
search_raised zero more n plan l h = at (placement plan.entries) refl
  where
    at : (o : Option (List Place)) → placement plan.entries ≡ o → search_from more n plan ≡ search_from zero n plan
    at none e = absurd (h n (ap (λ (x : Searched). x.ending) (search_exhausted n plan e)))
    at (some ps) e = search_found n plan more ps e ∙ sym (search_found n plan zero ps e)
search_raised (suc left) zero n plan l h = absurd (omega arith)
search_raised (suc left) (suc more) n plan l h = at (placement plan.entries) refl (longer n plan) refl (λ next. search_raised left more (suc n) next (omega arith))
  where
    at : (o : Option (List Place)) → placement plan.entries ≡ o → (q : Option Plan) → longer n plan ≡ q
        → ((next : Plan) → ((m : ℕ) → (search_from left (suc n) next).ending ≡ Exhausted m → ⊥) → search_from more (suc n) next ≡ search_from left (suc n) next)
        → search_from (suc more) n plan ≡ search_from (suc left) n plan
    at (some ps) e q f ih = search_found n plan (suc more) ps e ∙ sym (search_found n plan (suc left) ps e)
    at none e none f ih = search_missed n plan more e f ∙ sym (search_missed n plan left e f)
    at none e (some next) f ih =
        let p = search_on n plan left next e f in
        search_on n plan more next e f ∙ ap passed (ih next (λ m z. h m (ap (λ (x : Searched). x.ending) p ∙ z))) ∙ sym p
