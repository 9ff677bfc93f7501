-- Along the urgent rule an entry changes by its shortfall alone, and that is the walk over the transition's owners. Assumes nothing.
use lib.Dec.{eqb}
use lib.ListN.{get_or}
use lib.Seq.{get_or-set_same, get_or-set_other}
use mathlib.Core.Bool.{false}
use mathlib.Core.Logic.{◌≢◌}
use mathlib.Core.Option.{Option, none, some}
use mathlib.Core.Path.{◌≡◌, refl, sym, ap, ap₂, ◌∙◌, subst}
use native.Mathlib.Nat.{add-zero, add-suc}
use native.Mathlib.Numerals.{add-one}
use native.Mathlib.Omega.{arith}
use mathlib.Core.List.{List}
use Prim.Native.Nat.{ℕ, zero, suc, ◌+◌, ◌≤◌, ◌<◌}
use Rattle.slots.specs.Limits.{IDS, LONGEST}
use Rattle.slots.specs.Shortfall.{over_slot}
use Rattle.slots.proofs.Below.{true_false}
use Rattle.timetable.proofs.EntryLaws.{weight_none}
use Rattle.timetable.proofs.WalkLaws.{walk_absent}
use Rattle.timetable.specs.declared.Entry.{Entry}
use Rattle.timetable.specs.Timetable.{entry_of, is_listed, weight, with_shortfall, transition_shortfall}
use Rattle.transition.proofs.Plans.{Fit, Step, Longer, longer_told, over_at_lem}
use Rattle.transition.proofs.Reach.{onward, reach_last, reach_fit}
use Rattle.transition.specs.declared.Plan.{Plan}
use Rattle.transition.specs.Reach.{reach_from, reach}
use Rattle.transition.specs.Transition.{longer, over_entry}

-- Owners that agree below n give the same walk of n slots.
pub walk_agree : (a b : List ℕ) (i w s n : ℕ) → ((m : ℕ) → m < n → get_or a m 0 ≡ get_or b m 0)
    → transition_shortfall a i w s n ≡ transition_shortfall b i w s n
unfolding transition_shortfall
walk_agree a b i w s zero h = refl
walk_agree a b i w s (suc n) h =
    ap₂ (λ (o x : ℕ). over_slot (eqb i o) w x) (h n (omega arith)) (walk_agree a b i w s n (λ m l. h m (omega arith)))

module _ (plan : Plan) (f : Fit 0 plan) where
  -- The plan one slot before, and the step from it.
  pub step_before : (n : ℕ) (q : Plan) → reach plan (suc n) ≡ some q → (p : Plan) × (reach plan n ≡ some p) × Step n p q
  unfolding onward
  step_before n q e = at (reach plan n) refl (sym (reach_last n 0 plan) ∙ e)
    where
      step : (p : Plan) → (o : Option Plan) → Longer n p o → o ≡ some q → Step n p q
      step p none l z = absurd (let y : ◌≡◌ {A = ℕ} 0 1 = cc in omega arith)
      step p (some r) l z = let y : r ≡ q = cc in subst (Step n p) y l

      at : (o : Option Plan) → reach plan n ≡ o → onward (0 + n) o ≡ some q → (p : Plan) × (reach plan n ≡ some p) × Step n p q
      at none z y = absurd (let x : ◌≡◌ {A = ℕ} 0 1 = cc in omega arith)
      at (some p) z y =
          let k : longer n p ≡ some q = ap (λ (x : ℕ). longer x p) (omega arith) ∙ y in
          (p, z, step p (longer n p) (longer_told n p) k)

  -- What a length reaches, every shorter one does.
  pub reach_before : (k j : ℕ) (p : Plan) → reach plan (k + j) ≡ some p → (x : Plan) × (reach plan k ≡ some x)
  reach_before k zero p e = (p, ap (reach plan) (sym (add-zero k)) ∙ e)
  reach_before k (suc j) p e =
      let w = step_before (k + j) p (ap (reach plan) (sym (add-suc k j)) ∙ e) in
      reach_before k j w.0 w.1

  -- A slot's owner stays, once it is given.
  pub owners_stay : (n j : ℕ) (p q : Plan) → reach plan n ≡ some p → reach plan (n + j) ≡ some q → (m : ℕ) → m < n
      → get_or q.owners m 0 ≡ get_or p.owners m 0
  owners_stay n zero p q a b m k =
      let e : reach plan n ≡ some q = ap (reach plan) (sym (add-zero n)) ∙ b in
      let z : q ≡ p = cc in
      ap (λ (x : Plan). get_or x.owners m 0) z
  owners_stay n (suc j) p q a b m k =
      let w = step_before (n + j) q (ap (reach plan) (sym (add-suc n j)) ∙ b) in
      ap (λ (x : Plan). get_or x.owners m 0) w.2.is
      ∙ get_or-set_other w.0.owners (n + j) m w.2.u 0 (omega arith)
      ∙ owners_stay n j p w.0 a w.1 m k

  -- The entry of id i after n slots: the walk over the owners so far.
  pub walked : (n : ℕ) → n ≤ LONGEST → (q : Plan) → reach plan n ≡ some q → (i : ℕ) → i < IDS
      → entry_of q.entries i
      ≡ with_shortfall
      (transition_shortfall q.owners i (weight (entry_of plan.entries i)) (entry_of plan.entries i).shortfall n)
      (entry_of plan.entries i)
  unfolding transition_shortfall reach_from
  walked zero l q e i k =
      let z : plan ≡ q = cc in
      ap (λ (x : Plan). entry_of x.entries i) (sym z)
  walked (suc n) l q e i k = at (step_before n q e) (λ p r. walked n (omega arith) p r i k)
    where
      s : Entry
      s = entry_of plan.entries i

      at : (p : Plan) × (reach plan n ≡ some p) × Step n p q
          → ((p : Plan) → reach plan n ≡ some p
          → entry_of p.entries i ≡ with_shortfall (transition_shortfall p.owners i (weight s) s.shortfall n) s)
          → entry_of q.entries i
          ≡ with_shortfall (over_slot (eqb i (get_or q.owners n 0)) (weight s) (transition_shortfall q.owners i (weight s) s.shortfall n)) s
      at w ih =
          let p = w.0 in
          let g = reach_fit n 0 plan p f (omega arith) w.1 in
          let u : ℕ = w.2.u in
          let here : entry_of q.entries i ≡ over_entry (eqb i u) (entry_of p.entries i) =
          ap (λ (x : Plan). entry_of x.entries i) w.2.is ∙ over_at_lem p.entries u g.entries i k in
          let own : u ≡ get_or q.owners n 0 =
          sym (ap (λ (x : Plan). get_or x.owners n 0) w.2.is ∙ get_or-set_same p.owners n u 0 (omega (arith, g.places))) in
          let less : transition_shortfall p.owners i (weight s) s.shortfall n ≡ transition_shortfall q.owners i (weight s) s.shortfall n =
          walk_agree p.owners q.owners i (weight s) s.shortfall n
          (λ m j. sym (owners_stay n 1 p q w.1 (ap (reach plan) (add-one n) ∙ e) m j)) in
          here
          ∙ ap (over_entry (eqb i u)) (ih p w.1)
          ∙ ap₂ (λ (o x : ℕ). with_shortfall (over_slot (eqb i o) (weight s) x) s) own less

  -- The entry of an id that is not listed stays as it is.
  pub walked_absent : (n : ℕ) → n ≤ LONGEST → (q : Plan) → reach plan n ≡ some q → (i : ℕ) → i < IDS → is_listed (entry_of plan.entries i) ≡ false
      → entry_of q.entries i ≡ entry_of plan.entries i
  walked_absent n l q e i k u =
      let s : Entry = entry_of plan.entries i in
      let w : weight s ≡ 0 = weight_none s.period (ap (λ (e : Entry). e.period) (f.ranged.absent i k u).zero) in
      let walk = walked n l q e i k in
      let g = reach_fit n 0 plan q f (omega arith) e in
      let other : (m : ℕ) → m < n → i ≢ get_or q.owners m 0 =
      λ m h z. true_false (g.served m (omega arith)) (ap (λ (j : ℕ). is_listed (entry_of q.entries j)) (sym z) ∙ ap is_listed walk ∙ u) in
      walk
      ∙ ap (λ (x : ℕ). with_shortfall x s)
      (ap (λ (v : ℕ). transition_shortfall q.owners i v s.shortfall n) w ∙ walk_absent q.owners i s.shortfall n other)
