-- Rule 3 of the owners: what the urgent rule reaches was given so slot by slot, and one run of owners is, since each slot has one most urgent id. Assumes nothing.
use lib.ListN.{get_or, length}
use lib.Seq.{ext_get_or, get_or-set_same}
use mathlib.Core.List.{List}
use mathlib.Core.Bool.{false}
use mathlib.Core.Logic.{inl, inr}
use mathlib.Core.Option.{Option, none, some}
use mathlib.Core.Path.{◌≡◌, sym, ap, ◌∙◌, subst}
use native.Mathlib.Decide.{ℕ_discrete, dec_lt}
use native.Mathlib.Omega.{arith}
use lib.Dec.{eqb}
use Prim.Native.Nat.{ℕ, zero, suc, ◌-◌, ◌≤◌, ◌<◌}
use Rattle.placement.proofs.Complete.{placement_none}
use Rattle.placement.specs.Placement.{placement}
use Rattle.slots.proofs.Below.{true_false}
use Rattle.slots.specs.Limits.{IDS, LONGEST}
use Rattle.slots.specs.Slots.{is_owner}
use Rattle.timetable.proofs.Entries.{each_at, length_each}
use Rattle.timetable.proofs.Sound.{Ranged}
use Rattle.timetable.specs.declared.Entry.{Entry}
use Rattle.timetable.specs.Timetable.{entry_of, is_listed, no_entry, transition_shortfall, weight, with_shortfall}
use Rattle.transition.proofs.Plans.{Fit, Longer, goes_bears, length_over, longer_told, over_at_lem, over_ranged}
use Rattle.transition.proofs.Reach.{reach_fit}
use Rattle.transition.proofs.UrgentRule.{missed_breaks}
use Rattle.transition.proofs.Walk.{owners_stay, reach_before, step_before, walk_agree, walked}
use Rattle.transition.specs.declared.Plan.{Plan}
use Rattle.transition.specs.Reach.{AnyoneBreaks, reach}
use Rattle.transition.specs.RuleThree.{ByRuleThree, GoesTo, MostUrgent, walked_to}
use Rattle.transition.specs.Transition.{longer, over_all, over_entry}

-- Lists of entries with the same entry for each id are the same.
pub same_entries : (es fs : List Entry) → length es ≡ IDS → length fs ≡ IDS → ((i : ℕ) → i < IDS → entry_of es i ≡ entry_of fs i) → es ≡ fs
same_entries es fs p q h = ext_get_or no_entry es fs (p ∙ sym q) (λ i l. h i (omega (arith, p)))

-- Of ids, one is the most urgent.
pub urgent_one : (es : List Entry) (n u v : ℕ) → MostUrgent es n u → MostUrgent es n v → u ≡ v
urgent_one es n u v p q = at (dec_lt u v) (dec_lt v u)
  where
    at : Dec (u < v) → Dec (v < u) → u ≡ v
    at (yes l) _ = absurd (omega (arith, q.ties u l p.listed, p.least v q.below q.listed))
    at (no _) (yes l) = absurd (omega (arith, p.ties v l q.listed, q.least u p.below p.listed))
    at (no k) (no l) = omega arith

-- A slot that goes to its most urgent id, every other having room for it, is not one that breaks a bound whoever gets it.
pub goes_kept : (es : List Entry) → Ranged es → (u : ℕ) → GoesTo es u → AnyoneBreaks es → ⊥
unfolding is_owner
goes_kept es r u g b = let w = b (some u) in omega (arith, w.2, goes_bears es u r g w.0 w.1)

-- Where a slot cannot be given, and rule 4 gives no placement, some bound is broken whoever gets it. (With nobody listed any offsets are a placement.)
pub longer_breaks : (k : ℕ) (p : Plan) → Fit k p → placement p.entries ≡ none → longer k p ≡ none → AnyoneBreaks p.entries
longer_breaks k p f z h = at (longer k p) h (longer_told k p)
  where
    nobody : ((i : ℕ) → i < IDS → is_listed (entry_of p.entries i) ≡ false) → ⊥
    nobody n =
        placement_none p.entries f.ranged z (λ i. 0)
        (record {
          below = λ i w. absurd (true_false w.1 (n i w.0));
          apart = λ i j w _ _ _ _ _. true_false w.1 (n i w.0);
          kept = λ i w _. absurd (true_false w.1 (n i w.0));
        })

    at : (o : Option Plan) → o ≡ none → Longer k p o → AnyoneBreaks p.entries
    at none q (inl n) = absurd (nobody n)
    at none q (inr w) = missed_breaks p.entries f.ranged w.0 w.1 w.2
    at (some x) q w = absurd (let y : ◌≡◌ {A = ℕ} 0 1 = cc in omega arith)

module _ (start : List Entry) (len : length start ≡ IDS) where
  -- As many entries as before.
  pub length_walked : (owners : List ℕ) (n : ℕ) → length (walked_to start owners n) ≡ IDS
  unfolding walked_to
  length_walked owners n = length_each _ IDS start ∙ len

  -- What stands at each id.
  pub walked_at : (owners : List ℕ) (n i : ℕ) → i < IDS
      → entry_of (walked_to start owners n) i
      ≡ with_shortfall (transition_shortfall owners i (weight (entry_of start i)) (entry_of start i).shortfall n) (entry_of start i)
  unfolding walked_to
  walked_at owners n i k =
      each_at (λ i e. with_shortfall (transition_shortfall owners i (weight e) e.shortfall n) e) IDS start (omega (arith, len)) i k

  -- Before the first slot nothing is walked,
  pub walked_none : (owners : List ℕ) → walked_to start owners 0 ≡ start
  unfolding transition_shortfall
  walked_none owners = same_entries (walked_to start owners 0) start (length_walked owners 0) len (walked_at owners 0)

  -- and one slot more goes to its owner.
  pub walked_more : (owners : List ℕ) (n : ℕ) → walked_to start owners (suc n) ≡ over_all (walked_to start owners n) (get_or owners n 0)
  unfolding transition_shortfall
  walked_more owners n =
      same_entries (walked_to start owners (suc n)) (over_all (walked_to start owners n) (get_or owners n 0))
      (length_walked owners (suc n))
      (length_over (walked_to start owners n) (get_or owners n 0) ∙ length_walked owners n)
      (λ i k.
      walked_at owners (suc n) i k
      ∙ sym
      (over_at_lem (walked_to start owners n) (get_or owners n 0) (length_walked owners n) i k
      ∙ ap (over_entry (eqb i (get_or owners n 0))) (walked_at owners n i k)))

  -- Owners that agree below n walk to the same entries.
  pub walked_same : (a b : List ℕ) (n : ℕ) → ((m : ℕ) → m < n → get_or a m 0 ≡ get_or b m 0) → walked_to start a n ≡ walked_to start b n
  walked_same a b n h =
      same_entries (walked_to start a n) (walked_to start b n) (length_walked a n) (length_walked b n)
      (λ i k.
      walked_at a n i k
      ∙ ap (λ (x : ℕ). with_shortfall x (entry_of start i)) (walk_agree a b i (weight (entry_of start i)) (entry_of start i).shortfall n h)
      ∙ sym (walked_at b n i k))

  -- One run of owners is by rule 3.
  pub owners_one : (a b : List ℕ) (n : ℕ) → ByRuleThree start a n → ByRuleThree start b n → (k : ℕ) → k < n → get_or a k 0 ≡ get_or b k 0
  owners_one a b zero p q k l = elim l [ ]
  owners_one a b (suc n) p q k l = at (ℕ_discrete k n) (owners_one a b n (λ m h. p m (omega arith)) (λ m h. q m (omega arith)))
    where
      at : Dec (k ≡ n) → ((m : ℕ) → m < n → get_or a m 0 ≡ get_or b m 0) → get_or a k 0 ≡ get_or b k 0
      at (yes e) ih =
          rw e
          (urgent_one (walked_to start a n) IDS (get_or a n 0) (get_or b n 0) (p n (omega arith)).urgent
          (subst (λ (es : List Entry). MostUrgent es IDS (get_or b n 0)) (sym (walked_same a b n ih)) (q n (omega arith)).urgent))
      at (no e) ih = ih k (omega arith)

  module _ (r : Ranged start) (z : (i : ℕ) → i < IDS → (entry_of start i).offset ≡ 0) (owners : List ℕ) where
    -- No entry is placed by the walk.
    pub walked_unplaced : (n i : ℕ) → i < IDS → (entry_of (walked_to start owners n) i).offset ≡ 0
    walked_unplaced n i k = ap (λ (e : Entry). e.offset) (walked_at owners n i k) ∙ z i k

    -- Every bound is kept along the way.
    pub walked_ranged : (n : ℕ) → ByRuleThree start owners n → Ranged (walked_to start owners n)
    walked_ranged zero h = subst Ranged (sym (walked_none owners)) r
    walked_ranged (suc n) h =
        subst Ranged (sym (walked_more owners n))
        (over_ranged (walked_to start owners n) (get_or owners n 0) (length_walked owners n) (walked_ranged n (λ k l. h k (omega arith)))
        (walked_unplaced n)
        (h n (omega arith)))

module _ (plan : Plan) (f : Fit 0 plan) where
  -- What a length reaches is what its owners walk to,
  pub reach_walked : (n : ℕ) → n ≤ LONGEST → (p : Plan) → reach plan n ≡ some p → (owners : List ℕ)
      → ((m : ℕ) → m < n → get_or p.owners m 0 ≡ get_or owners m 0) → p.entries ≡ walked_to plan.entries owners n
  reach_walked n l p e owners h =
      let g = reach_fit n 0 plan p f (omega arith) e in
      same_entries p.entries (walked_to plan.entries owners n) g.entries (length_walked plan.entries f.entries owners n)
      (λ i k.
      walked plan f n l p e i k
      ∙ ap (λ (x : ℕ). with_shortfall x (entry_of plan.entries i))
      (walk_agree p.owners owners i (weight (entry_of plan.entries i)) (entry_of plan.entries i).shortfall n h)
      ∙ sym (walked_at plan.entries f.entries owners n i k))

  -- and its owners are by rule 3.
  pub reach_rule : (n : ℕ) → n ≤ LONGEST → (p : Plan) → reach plan n ≡ some p → ByRuleThree plan.entries p.owners n
  reach_rule n l p e k h =
      let y = reach_before plan f (suc k) (n - suc k) p (ap (reach plan) (omega arith) ∙ e) in
      let w = step_before plan f k y.0 y.1 in
      let x : Plan = w.0 in
      let g = reach_fit k 0 plan x f (omega arith) w.1 in
      let own : get_or p.owners k 0 ≡ w.2.u =
      owners_stay plan f (suc k) (n - suc k) y.0 p y.1 (ap (reach plan) (omega arith) ∙ e) k (omega arith)
      ∙ ap (λ (z : Plan). get_or z.owners k 0) w.2.is
      ∙ get_or-set_same x.owners k w.2.u 0 (omega (arith, g.places)) in
      let here : x.entries ≡ walked_to plan.entries p.owners k =
      reach_walked k (omega arith) x w.1 p.owners
      (λ m j. sym (owners_stay plan f k (n - k) x p w.1 (ap (reach plan) (omega arith) ∙ e) m j)) in
      subst (GoesTo (walked_to plan.entries p.owners k)) (sym own) (subst (λ (es : List Entry). GoesTo es w.2.u) here w.2.goes)
