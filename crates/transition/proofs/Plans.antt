-- Plans along the transition: each slot goes to a listed id and leaves every bound kept. Assumes nothing.
use borrow.Author.Tests.{eq-eqb, ne_eqb}
use lib.Dec.{eqb}
use lib.ListN.{get_or, length, length-set, set, get_or-eq_default}
use lib.Seq.{get_or-set_same, get_or-set_other}
use mathlib.Core.Bool.{Bool, true, false, cond}
use mathlib.Core.List.{List}
use mathlib.Core.Logic.{◌≢◌, ◌⊎◌, inl, inr}
use mathlib.Core.Option.{Option, none, some}
use mathlib.Core.Path.{◌≡◌, refl, sym, ap, ◌∙◌, subst}
use native.Mathlib.Decide.{ℕ_discrete, dec_lt}
use native.Mathlib.Omega.{arith}
use Prim.Native.Nat.{ℕ, suc, ◌*◌, ◌≤◌, ◌<◌}
use Rattle.placement.specs.Any.{Lists}
use Rattle.slots.proofs.Below.{true_false}
use Rattle.slots.proofs.Windows.{over_still}
use Rattle.slots.specs.Limits.{IDS, LONGEST, WHOLE}
use Rattle.slots.specs.Shortfall.{over_slot, weight_of}
use Rattle.timetable.proofs.Entries.{length_each, each_at}
use Rattle.timetable.proofs.Ranges.{InRange}
use Rattle.timetable.proofs.Sound.{Ranged}
use Rattle.timetable.proofs.Absent.{Absent}
use Rattle.timetable.specs.declared.Entry.{Entry}
use Rattle.timetable.specs.Timetable.{absent_entry, no_entry, entry_of, is_listed, weight}
use Rattle.transition.proofs.UrgentRule.{Told, unmissed, room_bears, own_bears}
use Rattle.transition.proofs.ToldLaws.{told}
use Rattle.transition.specs.declared.Plan.{Plan}
use Rattle.transition.specs.RuleThree.{GoesTo, MostUrgent}
use Rattle.transition.specs.Transition.{most_urgent, is_missed, over_entry, over_all, longer}

-- ---- one slot

-- A slot of somebody else's leaves the entry of an id that is not listed as it is.
over_absent : (e : Entry) → e ≡ absent_entry e.shortfall → over_entry false e ≡ e
unfolding weight_of
over_absent e a = ap (over_entry false) a ∙ ap absent_entry (over_still e.shortfall) ∙ sym a

module _ (es : List Entry) (u : ℕ) where
  pub length_over : length (over_all es u) ≡ length es
  unfolding over_all
  length_over = length_each _ IDS es

  -- What stands at each id after a slot that goes to u.
  pub over_at_lem : length es ≡ IDS → (i : ℕ) → i < IDS → entry_of (over_all es u) i ≡ over_entry (eqb i u) (entry_of es i)
  unfolding over_all
  over_at_lem len i k = each_at (λ i e. over_entry (eqb i u) e) IDS es (omega (arith, len)) i k

  -- The same ids are listed.
  pub over_listed : length es ≡ IDS → (i : ℕ) → is_listed (entry_of (over_all es u) i) ≡ is_listed (entry_of es i)
  over_listed len i = at (dec_lt i IDS)
    where
      at : Dec (i < IDS) → is_listed (entry_of (over_all es u) i) ≡ is_listed (entry_of es i)
      at (yes k) = ap is_listed (over_at_lem len i k)
      at (no k) =
          ap is_listed
          (get_or-eq_default (over_all es u) no_entry (omega (arith, len, length_over))
          ∙ sym (get_or-eq_default es no_entry (omega (arith, len))))

  -- A slot that goes to the most urgent id, every other having room for it, keeps each bound,
  pub goes_bears : Ranged es → GoesTo es u → (i : ℕ) → Lists es i
      → over_slot (eqb i u) (weight (entry_of es i)) (entry_of es i).shortfall < WHOLE * (entry_of es i).bound
  unfolding over_slot weight_of
  goes_bears r g i l = at (r.listed i l.0 l.1) (ℕ_discrete i u)
    where
      at : InRange (entry_of es i) → Dec (i ≡ u) → over_slot (eqb i u) (weight (entry_of es i)) (entry_of es i).shortfall < WHOLE * (entry_of es i).bound
      at q (yes e) = rw (eq-eqb i u e) (own_bears (entry_of es i) q)
      at q (no e) = rw (ne_eqb i u e) (room_bears (entry_of es i) q (g.borne i l e))

  -- so the entries stay in range.
  pub over_ranged : length es ≡ IDS → Ranged es → ((i : ℕ) → i < IDS → (entry_of es i).offset ≡ 0) → GoesTo es u → Ranged (over_all es u)
  unfolding over_slot weight_of
  over_ranged len r z g = record { listed = listed; absent = absent }
    where
      over_in : (i : ℕ) → Lists es i → InRange (entry_of es i) → InRange (over_entry (eqb i u) (entry_of es i))
      over_in i l q = record {
        period = q.period;
        bound_low = q.bound_low;
        bound_high = q.bound_high;
        inside = q.inside;
        kept = omega (arith, goes_bears r g i l, ap (λ (x : ℕ). x * weight (entry_of es i)) (z i l.0));
      }

      listed : (i : ℕ) → i < IDS → is_listed (entry_of (over_all es u) i) ≡ true → InRange (entry_of (over_all es u) i)
      listed i k l =
          let li : is_listed (entry_of es i) ≡ true = sym (over_listed len i) ∙ l in
          subst InRange (sym (over_at_lem len i k)) (over_in i (k, li) (r.listed i k li))

      absent : (i : ℕ) → i < IDS → is_listed (entry_of (over_all es u) i) ≡ false → Absent (entry_of (over_all es u) i)
      absent i k l =
          let li : is_listed (entry_of es i) ≡ false = sym (over_listed len i) ∙ l in
          let ne : i ≢ u = λ e. true_false g.urgent.listed (ap (λ (x : ℕ). is_listed (entry_of es x)) (sym e) ∙ li) in
          let a = r.absent i k li in
          subst Absent
          (sym (over_at_lem len i k ∙ ap (λ (b : Bool). over_entry b (entry_of es i)) (ne_eqb i u ne) ∙ over_absent (entry_of es i) a.zero))
          a

-- ---- plans

-- A plan of n transition slots: its owners are listed ids, its entries in range and not placed yet.
pub record Fit (n : ℕ) (plan : Plan) : Type 0 where
  pub entries : length plan.entries ≡ IDS
  pub places : length plan.owners ≡ LONGEST
  pub ranged : Ranged plan.entries
  pub unplaced : (i : ℕ) → i < IDS → (entry_of plan.entries i).offset ≡ 0
  pub served : (k : ℕ) → k < n → is_listed (entry_of plan.entries (get_or plan.owners k 0)) ≡ true
  pub unused : (k : ℕ) → n ≤ k → get_or plan.owners k 0 ≡ 0

-- One more transition slot, to u.
pub record Step (n : ℕ) (plan next : Plan) : Type 0 where
  pub u : ℕ
  pub goes : GoesTo plan.entries u
  pub is : next ≡ record { owners = set plan.owners n u; entries = over_all plan.entries u }

-- What one more slot tells: the step, or that nobody is listed, or that the most urgent id's slot is missed.
abbrev pub Longer : ℕ → Plan → Option Plan → Type 0
Longer n plan none =
    ((i : ℕ) → i < IDS → is_listed (entry_of plan.entries i) ≡ false)
    ⊎ ((u : ℕ) × MostUrgent plan.entries IDS u × (is_missed plan.entries u ≡ true))
Longer n plan (some next) = Step n plan next

pub longer_told : (n : ℕ) (plan : Plan) → Longer n plan (longer n plan)
unfolding longer
longer_told n plan = at (most_urgent plan.entries IDS) (told plan.entries IDS)
  where
    next : ℕ → Plan
    next u = record { owners = set plan.owners n u; entries = over_all plan.entries u }

    goes : (u : ℕ) → MostUrgent plan.entries IDS u → (b : Bool) → is_missed plan.entries u ≡ b → Longer n plan (cond b none (some (next u)))
    goes u m true e = inr (u, m, e)
    goes u m false e = record { u = u; goes = record { urgent = m; borne = unmissed plan.entries u e }; is = refl }

    at : (o : Option ℕ) → Told plan.entries IDS o
        → Longer n plan (elim o [ none ↦ none | some u ↦ cond (is_missed plan.entries u) none (some (next u)) ])
    at none h = inl h
    at (some u) m = goes u m (is_missed plan.entries u) refl

-- A step keeps a plan fit.
pub step_fit : (n : ℕ) (plan next : Plan) → n < LONGEST → Fit n plan → Step n plan next → Fit (suc n) next
step_fit n plan next k f s = subst (Fit (suc n)) (sym s.is) (record {
  entries = length_over plan.entries s.u ∙ f.entries;
  places = length-set plan.owners n s.u ∙ f.places;
  ranged = over_ranged plan.entries s.u f.entries f.ranged f.unplaced s.goes;
  unplaced = λ i l. ap (λ (e : Entry). e.offset) (over_at_lem plan.entries s.u f.entries i l) ∙ f.unplaced i l;
  served = λ m l. over_listed plan.entries s.u f.entries _ ∙ served m l (ℕ_discrete m n);
  unused = λ m l. get_or-set_other plan.owners n m s.u 0 (omega arith) ∙ f.unused m (omega arith);
})
  where
    served : (m : ℕ) → m < suc n → Dec (m ≡ n) → is_listed (entry_of plan.entries (get_or (set plan.owners n s.u) m 0)) ≡ true
    served m l (yes e) = rw (e, get_or-set_same plan.owners n s.u 0 (omega (arith, f.places))) s.goes.urgent.listed
    served m l (no e) = rw (get_or-set_other plan.owners n m s.u 0 e) (f.served m (omega arith))
