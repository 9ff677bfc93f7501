-- What a request gets is what the rules give: the plan that the search found was reached slot by slot, placed by rule 4, and written. Assumes nothing.
use borrow.Author.Tests.{le-ltb, lt-ltb}
use lib.ListN.{length}
use mathlib.Core.Bool.{Bool, true, false}
use mathlib.Core.List.{List}
use mathlib.Core.Logic.{◌⊎◌, inl, inr}
use mathlib.Core.Option.{none, some}
use mathlib.Core.Path.{◌≡◌, refl, sym, ap, ◌∙◌, subst}
use native.Mathlib.Decide.{ℕ_discrete}
use native.Mathlib.Omega.{arith}
use Prim.Native.Nat.{ℕ, suc, ◌-◌, ◌≤◌, ◌<◌}
use Rattle.change.proofs.Answers.{Gets, Admitted, admitted_fit, accepted, accepted_as, gets, no_length, no_slot, record_none, refused, said}
use Rattle.change.proofs.StageSteps.{given_bound, listed_bound, new_bound, short_bound}
use Rattle.change.proofs.Start.{length_start, start_at_lem, start_count, start_of_lem}
use Rattle.change.specs.Change.{answer, area_after, outcome, outcome_of, record_of, refuse, start_plan, written}
use Rattle.change.specs.declared.Answer.{Answer}
use Rattle.change.specs.Given.{AsksBound, in_full, as_listed, not_listed, Enters, AtRequest, ByRules, EndsAt, missed, exhausted, Wanting, Gives, early, schedule, wanting}
use Rattle.change.specs.Stages.{asked_bound, entering, start_entries}
use Rattle.numbers.specs.Chain.{Passed, Refused}
use Rattle.numbers.specs.Numbers.{SLOT_MISSED, LENGTHS_EXHAUSTED}
use Rattle.placement.proofs.Complete.{placement_none, settle_kept, settle_unlisted}
use Rattle.placement.proofs.RuleFourLaws.{rule_four_is}
use Rattle.placement.proofs.Settle.{length_settle}
use Rattle.placement.specs.Any.{NoPlacement}
use Rattle.placement.specs.Placement.{Place, placement, settle}
use Rattle.placement.specs.RuleFour.{ByRuleFour}
use Rattle.records.proofs.AnswerPlaces.{answer_stands}
use Rattle.records.proofs.ReadSteps.{request_read}
use Rattle.records.specs.declared.Ask.{Ask}
use Rattle.records.specs.declared.Request.{Request}
use Rattle.records.specs.Request.{ask_of, read_request, requested}
use Rattle.slots.specs.Limits.{IDS, LONGEST}
use Rattle.timetable.specs.declared.Entry.{Entry}
use Rattle.timetable.specs.declared.Timetable.{Timetable}
use Rattle.timetable.specs.Timetable.{entry_of, is_listed, shortfall_at, with_offset}
use Rattle.transition.proofs.Plans.{Fit}
use Rattle.transition.proofs.Reach.{fit_reached}
use Rattle.transition.proofs.RuleThreeLaws.{longer_breaks, reach_rule, reach_walked}
use Rattle.transition.proofs.Search.{PassedFirst, passed_here}
use Rattle.transition.proofs.Walk.{owners_stay, walked_absent}
use Rattle.transition.specs.declared.Plan.{Plan}
use Rattle.transition.specs.Reach.{AnyoneBreaks, reach}
use Rattle.transition.specs.RuleThree.{walked_to}
use Rattle.transition.specs.Transition.{longer, placed}

-- ---- rule 1

-- The bound that is asked.
pub asks_bound : (old : Entry) (a : Ask) → AsksBound old a.bound (asked_bound old a)
asks_bound old a = at (ℕ_discrete a.bound 0) (is_listed old) refl
  where
    at : Dec (a.bound ≡ 0) → (b : Bool) → is_listed old ≡ b → AsksBound old a.bound (asked_bound old a)
    at (yes e) true l = as_listed e l (sym (listed_bound old l ∙ short_bound old a e))
    at (yes e) false l = not_listed e l (sym (new_bound old l ∙ short_bound old a e))
    at (no e) b l = in_full (omega arith) (sym (given_bound old a e))

-- The entries at the request slot are those of rule 1.
pub at_request : (t : Timetable) (q : Request) → AtRequest t q (start_entries t q.slot q.asks)
unfolding entering
at_request t q = record {
  count = length_start t q.slot q.asks;
  listed = λ i k h. subst (Enters t q i) (sym (start_at_lem t q.slot q.asks i k)) (enters i h);
  absent = λ i k z. start_at_lem t q.slot q.asks i k ∙ rw (le-ltb 0 (ask_of q.asks i).period (omega arith));
}
  where
    enters : (i : ℕ) → 0 < (ask_of q.asks i).period → Enters t q i (entering (entry_of t.entries i) (shortfall_at t i q.slot) (ask_of q.asks i))
    enters i h =
        rw (lt-ltb 0 (ask_of q.asks i).period h)
        (record { period = refl; bound = asks_bound (entry_of t.entries i) (ask_of q.asks i); shortfall = refl; offset = refl })

-- ---- rules 2 to 4

module _ (t : Timetable) (q : Request) (area : ℕ) (pass : Admitted t q area) where
  abbrev plan : Plan
  plan = start_plan t q

  fit : Fit 0 plan
  fit = admitted_fit t q area pass

  module _ (n : ℕ) (small : n ≤ LONGEST) (x : Plan) (here : reach plan n ≡ some x) where
    fit_here : Fit n x
    fit_here = fit_reached plan fit n small x here

    -- The entries at a length on the way.
    on_the_way : (m : ℕ) → m ≤ n → (y : Plan) → reach plan m ≡ some y → y.entries ≡ walked_to plan.entries x.owners m
    on_the_way m l y e =
        reach_walked plan fit m (omega arith) y e x.owners
        (λ k j. sym (owners_stay plan fit m (n - m) y x e (ap (reach plan) (omega arith) ∙ here) k j))

    -- From a length that was passed over no cyclic placement keeps the bounds.
    passed_over : (k : ℕ) → k ≤ suc n → PassedFirst k 0 plan → (m : ℕ) → m < k → NoPlacement (walked_to plan.entries x.owners m)
    passed_over k l b m h =
        let w = b m h in
        let f = fit_reached plan fit m (omega arith) w.0 w.1 in
        subst NoPlacement (on_the_way m (omega arith) w.0 w.1) (placement_none w.0.entries f.ranged w.2)

    module _ (ps : List Place) (rule4 : placement x.entries ≡ some ps) where
      -- The timetable found is by the rules.
      by_rules : n ≤ q.limit → PassedFirst n 0 plan → ByRules q plan.entries (accepted_as t q n (placed x ps)).timetable
      unfolding placed start_plan
      by_rules l b = record {
        slot = refl;
        base = refl;
        limit = l;
        shorter = passed_over n (omega arith) b;
        transition = reach_rule plan fit n small x here;
        places = fit_here.places;
        unused = fit_here.unused;
        placed = subst (λ (es : List Entry). ByRuleFour es (λ i. (entry_of (settle x.entries ps) i).offset)) walk
            (rule_four_is x.entries fit_here.ranged fit_here.entries ps rule4);
        count = length_settle x.entries ps ∙ fit_here.entries;
        start_count = start_count t q;
        starts = λ i k. start_of_lem t q i;
        kept = λ i k.
            settle_kept x.entries fit_here.ranged fit_here.entries ps rule4 i k
            ∙ ap (λ (es : List Entry). with_offset (entry_of (settle x.entries ps) i).offset (entry_of es i)) walk;
        absent = λ i k z.
            let stays = walked_absent plan fit n small x here i k (unlisted i k z) in
            settle_unlisted x.entries fit_here.ranged fit_here.entries ps rule4 i k (ap is_listed stays ∙ unlisted i k z) ∙ stays;
      }
        where
          walk : x.entries ≡ walked_to plan.entries x.owners n
          walk = on_the_way n (omega arith) x here

          unlisted : (i : ℕ) → i < IDS → (ask_of q.asks i).period ≡ 0 → is_listed (entry_of plan.entries i) ≡ false
          unlisted i k z = ap is_listed ((at_request t q).absent i k z)

  module _ (n : ℕ) (small : n ≤ LONGEST) (b : PassedFirst (suc n) 0 plan) (x : Plan) (here : reach plan n ≡ some x) where
    -- For want of a schedule, with the number of the end.
    want : (number : ℕ) → EndsAt q.limit n (walked_to plan.entries x.owners n) number → Wanting t q n number
    unfolding start_plan
    want number e = record {
      start = plan.entries;
      starts = at_request t q;
      owners = x.owners;
      transition = reach_rule plan fit n small x here;
      passed = λ m l. passed_over n small x here (suc n) (omega arith) b m (omega arith);
      ends = e;
    }

    -- A slot that the urgent rule cannot give is missed.
    want_missed : n < q.limit → longer n x ≡ none → Wanting t q n SLOT_MISSED
    want_missed l miss =
        want SLOT_MISSED
        (missed l
        (subst AnyoneBreaks (on_the_way n small x here n (omega arith) x here)
        (longer_breaks n x (fit_here n small x here) (passed_here n 0 plan x b here) miss)))

-- A schedule is wanting by 9 or by 11.
pub wanting_number : (t : Timetable) (q : Request) (n number : ℕ) → Wanting t q n number → (number ≡ SLOT_MISSED) ⊎ (number ≡ LENGTHS_EXHAUSTED)
wanting_number t q n number w = at number w.ends
  where
    at : (x : ℕ) → EndsAt q.limit n (walked_to w.start w.owners n) x → (x ≡ SLOT_MISSED) ⊎ (x ≡ LENGTHS_EXHAUSTED)
    at x (missed _ _) = inl refl
    at x (exhausted _) = inr refl

-- ---- the whole

pub gives : (t : Timetable) (s area : List ℕ) → Gives t s area (outcome t s area) (area_after t s area)
unfolding outcome area_after record_of start_plan placed
gives t s area = at (answer t s (length area)) (gets t s (length area))
  where
    at : (a : Answer) → Gets t s (length area) a → Gives t s area (outcome_of a) (written a area)
    at a (refused x e l h) = rw (record_none (refuse t x) (λ z. omega (arith, z))) (early (read_request s) (request_read s) x (said t s (length area) (Refused x) e))
    at a (accepted e p k l b x h ps f) =
        let small : k ≤ LONGEST = omega (arith, p.range.limit) in
        schedule (read_request s) (request_read s) (said t s (length area) Passed e) (outcome_of a) (written a area)
        (record {
          start = (start_plan t (requested (read_request s))).entries;
          starts = at_request t (requested (read_request s));
          rules = by_rules t (requested (read_request s)) (length area) p k small x h ps f l b;
          number = refl;
          place = refl;
          tries = refl;
          answer =
              answer_stands k x.owners (placed x ps).entries area small
              (omega (arith, (fit_here t (requested (read_request s)) (length area) p k small x h).places))
              p.room;
        })
    at a (no_slot e p k l b x h f) =
        wanting (read_request s) (request_read s) (said t s (length area) Passed e) k SLOT_MISSED
        (want_missed t (requested (read_request s)) (length area) p k (omega (arith, p.range.limit)) b x h l f)
    at a (no_length e p b) =
        let n : ℕ = (requested (read_request s)).limit in
        let w = b n (omega arith) in
        wanting (read_request s) (request_read s) (said t s (length area) Passed e) n LENGTHS_EXHAUSTED
        (want t (requested (read_request s)) (length area) p n (omega (arith, p.range.limit)) b w.0 w.1 LENGTHS_EXHAUSTED (exhausted refl))
