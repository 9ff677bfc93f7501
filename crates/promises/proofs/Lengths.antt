-- Lengths in demand 3's words: rule 4 fails at a length exactly if the length is passed over, and a slot that the urgent rule cannot give breaks a bound
-- whoever gets it. Assumes nothing.
use mathlib.Core.List.{List}
use mathlib.Core.Logic.{◌↔◌, ◌⊎◌, inl, inr}
use mathlib.Core.Option.{Option, none, some}
use mathlib.Core.Path.{◌≡◌, refl, sym, ap, ◌∙◌, subst}
use native.Mathlib.Decide.{dec_lt}
use native.Mathlib.Omega.{arith}
use Prim.Native.Nat.{ℕ, suc, ◌-◌, ◌≤◌, ◌<◌}
use Rattle.change.proofs.Answers.{admitted_fit, Gets, Admitted, refused, accepted, no_slot, no_length, gets}
use Rattle.change.specs.Change.{answer, start_plan}
use Rattle.change.specs.declared.Answer.{Answer}
use Rattle.change.specs.Stages.{verdict_before}
use Rattle.placement.proofs.Complete.{placement_none, placement_some}
use Rattle.placement.specs.Any.{CyclicPlacement}
use Rattle.placement.specs.Placement.{Place, placement, settle}
use Rattle.numbers.proofs.ChainLaws.{not_passed}
use Rattle.numbers.specs.declared.Refusal.{Refusal}
use Rattle.numbers.specs.Chain.{Passed, Refused}
use Rattle.records.specs.declared.Request.{Request}
use Rattle.numbers.specs.Numbers.{ACCEPTED, SLOT_MISSED, LENGTHS_EXHAUSTED}
use Rattle.records.specs.Request.{read_request, requested}
use Rattle.slots.specs.Limits.{LONGEST}
use Rattle.timetable.specs.declared.Timetable.{Timetable}
use Rattle.timetable.specs.Timetable.{entry_of}
use Rattle.transition.proofs.Plans.{Fit}
use Rattle.transition.proofs.Reach.{fit_reached}
use Rattle.transition.proofs.Search.{PassedFirst, passed_here}
use Rattle.transition.proofs.RuleThreeLaws.{goes_kept, longer_breaks}
use Rattle.transition.proofs.Walk.{step_before, reach_before}
use Rattle.transition.specs.declared.Plan.{Plan}
use Rattle.transition.specs.Reach.{reach, AnyoneBreaks, PassedOver, HasPlacement, SlotBreaks, CannotReach}
use Rattle.transition.specs.Transition.{longer}

-- Two plans that one length reaches are the same.
same_plan : (o : Option Plan) (p q : Plan) → o ≡ some p → o ≡ some q → p ≡ q
same_plan o p q a b = cc

module _ (plan : Plan) (fit : Fit 0 plan) where
  -- A length where rule 4 fails is passed over, and it fails where a length is.
  passed_over : (n : ℕ) → n ≤ LONGEST → (p : Plan) → reach plan n ≡ some p → placement p.entries ≡ none → PassedOver plan n
  passed_over n l p e z = (p, e, placement_none p.entries (fit_reached plan fit n l p e).ranged z)

  placed_not_passed : (n : ℕ) → n ≤ LONGEST → (p : Plan) → reach plan n ≡ some p → (ps : List Place) → placement p.entries ≡ some ps
      → PassedOver plan n → ⊥
  placed_not_passed n l p e ps z w =
      let f = fit_reached plan fit n l p e in
      let q : w.0 ≡ p = same_plan (reach plan n) w.0 p w.1 e in
      let c = placement_some p.entries f.ranged f.entries ps z in
      w.2 (λ i. (entry_of (settle p.entries ps) i).offset) (subst (λ (x : Plan). CyclicPlacement x.entries (λ i. (entry_of (settle p.entries ps) i).offset)) (sym q) c)

  has_placement : (n : ℕ) → n ≤ LONGEST → (p : Plan) → reach plan n ≡ some p → (ps : List Place) → placement p.entries ≡ some ps
      → HasPlacement plan n
  has_placement n l p e ps z =
      let f = fit_reached plan fit n l p e in
      (p, e, ((λ i. (entry_of (settle p.entries ps) i).offset), placement_some p.entries f.ranged f.entries ps z))

  -- A length with a placement is not one where rule 4 fails.
  has_not_none : (n : ℕ) → n ≤ LONGEST → (p : Plan) → reach plan n ≡ some p → placement p.entries ≡ none → HasPlacement plan n → ⊥
  unfolding passed_over
  has_not_none n l p e z w =
      let q : w.0 ≡ p = same_plan (reach plan n) w.0 p w.1 e in
      (passed_over n l p e z).2 w.2.0 (subst (λ (x : Plan). CyclicPlacement x.entries w.2.0) q w.2.1)

  -- A length that is reached can be reached: each slot before it was given with every bound kept.
  reached_not_cannot : (n : ℕ) → n ≤ LONGEST → (p : Plan) → reach plan n ≡ some p → CannotReach plan n → ⊥
  reached_not_cannot n l p e c =
      let k : ℕ = c.0 in
      let x = reach_before plan fit (suc k) (n - suc k) p (ap (reach plan) (omega (arith, c.1)) ∙ e) in
      let w = step_before plan fit k x.0 x.1 in
      let f = fit_reached plan fit k (omega (arith, c.1)) w.0 w.1 in
      let b : SlotBreaks plan k = c.2 in
      let q : b.0 ≡ w.0 = same_plan (reach plan k) b.0 w.0 b.1 w.1 in
      goes_kept w.0.entries f.ranged w.2.u w.2.goes (subst (λ (y : Plan). AnyoneBreaks y.entries) q b.2)

-- ---- the answer

module _ (t : Timetable) (s : List ℕ) (area : ℕ) (pass : verdict_before t (read_request s) area ≡ Passed) where
  abbrev r : Request
  r = requested (read_request s)

  abbrev plan : Plan
  plan = start_plan t r

  fit : Admitted t r area → Fit 0 plan
  fit p = admitted_fit t r area p

  -- A refusal before the search is none of a request that passes.
  not_refused : (q : Refusal) → verdict_before t (read_request s) area ≡ Refused q → ⊥
  not_refused q e = not_passed q (sym pass ∙ e)

  -- The first k lengths passed over, in demand 3's words.
  all_passed : Admitted t r area → (k : ℕ) → k ≤ suc LONGEST → PassedFirst k 0 plan → (m : ℕ) → m < k → PassedOver plan m
  all_passed p k l h m q = let w = h m q in passed_over plan (fit p) m (omega arith) w.0 w.1 w.2

  -- Where the first k lengths are passed over, one with a placement is none of them.
  none_has : Admitted t r area → (k : ℕ) → k ≤ suc LONGEST → PassedFirst k 0 plan → (n : ℕ) → n < k → HasPlacement plan n → ⊥
  none_has p k l h n q w = let x = h n q in has_not_none plan (fit p) n (omega arith) x.0 x.1 x.2 w

  -- The slot after a length that was passed over, where the urgent rule can't give it.
  breaks : Admitted t r area → (k : ℕ) → k < r.limit → PassedFirst (suc k) 0 plan → (q : Plan) → reach plan k ≡ some q → longer k q ≡ none → SlotBreaks plan k
  breaks p k l b q h f =
      let m : k ≤ LONGEST = omega (arith, p.range.limit) in
      (q, h, longer_breaks k q (fit_reached plan (fit p) k m q h) (passed_here k 0 plan q b h) f)

  -- A slot that breaks a bound is not given, so no length past it is reached.
  not_past : Admitted t r area → (k n : ℕ) → k < n → n ≤ LONGEST → SlotBreaks plan k → (p : Plan) → reach plan n ≡ some p → ⊥
  not_past p k n l m b q e = reached_not_cannot plan (fit p) n m q e (k, l, b)

  -- ---- accepted

  abbrev Accepted : ℕ → Answer → Type 0
  Accepted n a = (a.number ≡ ACCEPTED) × (a.timetable.length ≡ n)

  abbrev Schedule : ℕ → Type 0
  Schedule n = (n ≤ r.limit) × HasPlacement plan n × ((m : ℕ) → m < n → PassedOver plan m)

  accepted_to : (n : ℕ) (a : Answer) → Gets t s area a → Accepted n a → Schedule n
  accepted_to n a (refused q e l h) z = absurd (not_refused q e)
  accepted_to n a (accepted e p k l b q h ps f) z =
      let m : k ≤ LONGEST = omega (arith, p.range.limit) in
      subst (λ (x : ℕ). Schedule x) z.1 (l, has_placement plan (fit p) k m q h ps f, all_passed p k (omega arith) b)
  accepted_to n a (no_slot e p k l b q h f) z = absurd (omega (arith, z.0))
  accepted_to n a (no_length e p b) z = absurd (omega (arith, z.0))

  accepted_from : (n : ℕ) (a : Answer) → Gets t s area a → Schedule n → Accepted n a
  accepted_from n a (refused q e l h) w = absurd (not_refused q e)
  accepted_from n a (accepted e p k l b q h ps f) w =
      let m : k ≤ LONGEST = omega (arith, p.range.limit) in
      let x : ¬ (k < n) = λ y. placed_not_passed plan (fit p) k m q h ps f (w.2 k y) in
      let y : ¬ (n < k) = λ z. none_has p k (omega arith) b n z w.1 in
      (refl, omega arith)
  accepted_from n a (no_slot e p k l b q h f) w = absurd (at (dec_lt n (suc k)))
    where
      at : Dec (n < suc k) → ⊥
      at (yes z) = none_has p (suc k) (omega (arith, p.range.limit)) b n z w.1
      at (no z) = not_past p k n (omega arith) (omega (arith, w.0, p.range.limit)) (breaks p k l b q h f) w.1.0 w.1.1
  accepted_from n a (no_length e p b) w = absurd (none_has p (suc r.limit) (omega (arith, p.range.limit)) b n (omega (arith, w.0)) w.1)

  pub accepted_iff : (n : ℕ) → Accepted n (answer t s area) ↔ Schedule n
  accepted_iff n = (accepted_to n (answer t s area) (gets t s area), accepted_from n (answer t s area) (gets t s area))

  -- Every length 0 to n is passed over.
  abbrev AllPassed : ℕ → Type 0
  AllPassed n = (m : ℕ) → m ≤ n → PassedOver plan m

  -- A length that rule 4 places is neither passed over nor out of reach.
  placed_neither : Admitted t r area → (k : ℕ) → k ≤ LONGEST → (q : Plan) → reach plan k ≡ some q → (ps : List Place) → placement q.entries ≡ some ps
      → PassedOver plan k ⊎ CannotReach plan k → ⊥
  placed_neither p k l q h ps f (inl x) = placed_not_passed plan (fit p) k l q h ps f x
  placed_neither p k l q h ps f (inr x) = reached_not_cannot plan (fit p) k l q h x

  -- ---- 11

  abbrev Exhausted : Answer → Type 0
  Exhausted a = (a.number ≡ LENGTHS_EXHAUSTED) × (a.place ≡ r.limit)

  exhausted_to : (a : Answer) → Gets t s area a → Exhausted a → AllPassed r.limit
  exhausted_to a (refused q e l h) z = absurd (not_refused q e)
  exhausted_to a (accepted e p k l b q h ps f) z = absurd (omega (arith, z.0))
  exhausted_to a (no_slot e p k l b q h f) z = absurd (omega (arith, z.0))
  exhausted_to a (no_length e p b) z = λ m l. all_passed p (suc r.limit) (omega (arith, p.range.limit)) b m (omega arith)

  exhausted_from : (a : Answer) → Gets t s area a → AllPassed r.limit → Exhausted a
  exhausted_from a (refused q e l h) w = absurd (not_refused q e)
  exhausted_from a (accepted e p k l b q h ps f) w = absurd (placed_neither p k (omega (arith, p.range.limit)) q h ps f (inl (w k l)))
  exhausted_from a (no_slot e p k l b q h f) w =
      let x = w (suc k) (omega arith) in
      absurd (not_past p k (suc k) (omega arith) (omega (arith, p.range.limit)) (breaks p k l b q h f) x.0 x.1)
  exhausted_from a (no_length e p b) w = (refl, refl)

  pub exhausted_iff : Exhausted (answer t s area) ↔ AllPassed r.limit
  exhausted_iff = (exhausted_to (answer t s area) (gets t s area), exhausted_from (answer t s area) (gets t s area))

  -- ---- 9

  abbrev Missed : ℕ → Answer → Type 0
  Missed k a = (a.number ≡ SLOT_MISSED) × (a.place ≡ k)

  abbrev MissedAt : ℕ → Type 0
  MissedAt k = (k < r.limit) × AllPassed k × SlotBreaks plan k

  missed_to : (n : ℕ) (a : Answer) → Gets t s area a → Missed n a → MissedAt n
  missed_to n a (refused q e l h) z = absurd (not_refused q e)
  missed_to n a (accepted e p k l b q h ps f) z = absurd (omega (arith, z.0))
  missed_to n a (no_slot e p k l b q h f) z =
      subst MissedAt z.1 (l, (λ m x. all_passed p (suc k) (omega (arith, p.range.limit)) b m (omega arith)), breaks p k l b q h f)
  missed_to n a (no_length e p b) z = absurd (omega (arith, z.0))

  missed_from : (n : ℕ) (a : Answer) → Gets t s area a → MissedAt n → Missed n a
  missed_from n a (refused q e l h) w = absurd (not_refused q e)
  missed_from n a (accepted e p k l b q h ps f) w = absurd (at (dec_lt n k))
    where
      at : Dec (n < k) → ⊥
      at (yes x) = not_past p n k x (omega (arith, p.range.limit)) w.2 q h
      at (no x) = placed_neither p k (omega (arith, p.range.limit)) q h ps f (inl (w.1 k (omega arith)))
  missed_from n a (no_slot e p k l b q h f) w = at (dec_lt n k) (dec_lt k n)
    where
      at : Dec (n < k) → Dec (k < n) → Missed n a
      at (yes x) _ = absurd (not_past p n k x (omega (arith, p.range.limit)) w.2 q h)
      at (no _) (yes x) =
          let y = w.1 n (omega arith) in
          absurd (not_past p k n x (omega (arith, w.0, p.range.limit)) (breaks p k l b q h f) y.0 y.1)
      at (no x) (no y) = (refl, omega arith)
  missed_from n a (no_length e p b) w =
      let y = all_passed p (suc r.limit) (omega (arith, p.range.limit)) b (suc n) (omega (arith, w.0)) in
      absurd (not_past p n (suc n) (omega arith) (omega (arith, w.0, p.range.limit)) w.2 y.0 y.1)

  pub missed_iff : (k : ℕ) → Missed k (answer t s area) ↔ MissedAt k
  missed_iff k = (missed_to k (answer t s area) (gets t s area), missed_from k (answer t s area) (gets t s area))

  -- ---- 9 or 11

  abbrev ForWant : Answer → Type 0
  ForWant a = (a.number ≡ SLOT_MISSED) ⊎ (a.number ≡ LENGTHS_EXHAUSTED)

  abbrev Wanting : Type 0
  Wanting = (n : ℕ) → n ≤ r.limit → PassedOver plan n ⊎ CannotReach plan n

  refused_to : (a : Answer) → Gets t s area a → ForWant a → Wanting
  refused_to a (refused q e l h) z n m = absurd (not_refused q e)
  refused_to a (accepted e p k l b q h ps f) (inl z) n m = absurd (omega arith)
  refused_to a (accepted e p k l b q h ps f) (inr z) n m = absurd (omega arith)
  refused_to a (no_slot e p k l b q h f) z n m = at (dec_lt n (suc k))
    where
      at : Dec (n < suc k) → PassedOver plan n ⊎ CannotReach plan n
      at (yes x) = inl (all_passed p (suc k) (omega (arith, p.range.limit)) b n x)
      at (no x) = inr (k, omega arith, breaks p k l b q h f)
  refused_to a (no_length e p b) z n m = inl (all_passed p (suc r.limit) (omega (arith, p.range.limit)) b n (omega arith))

  refused_from : (a : Answer) → Gets t s area a → Wanting → ForWant a
  refused_from a (refused q e l h) w = absurd (not_refused q e)
  refused_from a (accepted e p k l b q h ps f) w = absurd (placed_neither p k (omega (arith, p.range.limit)) q h ps f (w k l))
  refused_from a (no_slot e p k l b q h f) w = inl refl
  refused_from a (no_length e p b) w = inr refl

  pub refused_iff : ForWant (answer t s area) ↔ Wanting
  refused_iff = (refused_to (answer t s area) (gets t s area), refused_from (answer t s area) (gets t s area))

  -- A request that passes gets 0, 9 or 11.
  passed_to : (a : Answer) → Gets t s area a → (a.number ≡ ACCEPTED) ⊎ ForWant a
  passed_to a (refused q e l h) = absurd (not_refused q e)
  passed_to a (accepted e p k l b q h ps f) = inl refl
  passed_to a (no_slot e p k l b q h f) = inr (inl refl)
  passed_to a (no_length e p b) = inr (inr refl)

  pub passed_number : ((answer t s area).number ≡ ACCEPTED) ⊎ ForWant (answer t s area)
  passed_number = passed_to (answer t s area) (gets t s area)
