-- Where the search of lengths stands at each turn, and the answer of each way to leave it. Assumes nothing.
use lib.ListN.{get_or, length}
use lib.Seq.{ext_get_or}
use mathlib.Core.Bool.{Bool, true, false}
use mathlib.Core.List.{List}
use mathlib.Core.Logic.{◌≢◌}
use mathlib.Core.Option.{Option, none, some}
use mathlib.Core.Path.{◌≡◌, refl, sym, ap, ap₂, ◌∙◌, subst}
use native.Mathlib.Nat.{sub-zero}
use native.Mathlib.Numerals.{add-one}
use native.Mathlib.Omega.{arith}
use Prim.Native.Nat.{ℕ, suc, ◌+◌, ◌-◌, ◌≤◌, ◌<◌}
use Rattle.placement.proofs.Placing.{placed_none, placed_some, settle_offsets}
use Rattle.placement.proofs.Settle.{length_settle}
use Rattle.placement.proofs.Sorting.{SamePeriods, listing_same, ranked_listing}
use Rattle.placement.specs.Placed.{demands_of, offsets_of, placed_of, Listing, Ranked}
use Rattle.placement.specs.Placement.{Place, placement, settle}
use Rattle.slots.proofs.Below.{true_false}
use Rattle.slots.specs.Limits.{IDS}
use Rattle.std.specs.Prelude.{Option as Answer, Some, None}
use Rattle.timetable.proofs.Entries.{each_at}
use Rattle.timetable.proofs.Sound.{ranged_from, ranged_is}
use Rattle.timetable.specs.declared.Entry.{Entry}
use Rattle.timetable.specs.Sound.{entries_in_range}
use Rattle.timetable.specs.Timetable.{each, entry_of, no_entry, with_offset}
use Rattle.transition.proofs.Each.{as_many}
use Rattle.transition.proofs.Plans.{Step, Longer, longer_told, length_over, over_at_lem, over_ranged}
use Rattle.transition.proofs.Search.{search_exhausted, search_found, search_missed, search_on}
use Rattle.transition.specs.Coded.{after, next_of, settled_of, Ready}
use Rattle.transition.specs.declared.Ending.{Ending}
use Rattle.transition.specs.declared.Ending.TheVariants.{Found, Missed, Exhausted}
use Rattle.transition.specs.declared.Plan.{Plan}
use Rattle.transition.specs.Plan.{Searched}
use Rattle.transition.specs.Transition.{longer, ended, passed, placed, search_from}

-- ---- the code's answers

-- What the answer of one more slot says of the urgent rule.
module _ (plan next : Plan) where
  given_some : (o : Option Plan) → (true, next) ≡ next_of plan o → o ≡ some next
  unfolding next_of
  given_some none h = absurd (true_false refl (ap (λ (x : Bool × Plan). x.0) h))
  given_some (some p) h = ap (λ (x : Bool × Plan). some x.1) (sym h)

  given_none : (o : Option Plan) → (false, next) ≡ next_of plan o → (o ≡ none) × (next ≡ plan)
  unfolding next_of
  given_none none h = (refl, ap (λ (x : Bool × Plan). x.1) h)
  given_none (some p) h = absurd (true_false (ap (λ (x : Bool × Plan). x.0) h) refl)

-- ---- the lengths before

-- A length that was passed over counts among those before.
after_passed : (n : ℕ) (s : Searched) → after n (passed s) ≡ after (suc n) s
unfolding after passed
after_passed n s =
    let k : n + suc s.tries ≡ suc n + s.tries = omega arith in
    ap (λ (t : ℕ). record { ending = s.ending; tries = t; plan = s.plan }) k

-- Before the first length none was passed over.
after_none : (s : Searched) → s ≡ after 0 s
unfolding after
after_none s =
    let k : s.tries ≡ 0 + s.tries = omega arith in
    ap (λ (t : ℕ). record { ending = s.ending; tries = t; plan = s.plan }) k

-- One more slot leaves a plan ready, at the same periods.
pub record After (plan next : Plan) : Type 0 where
  pub size : length next.entries ≡ IDS
  pub ready : Ready next
  pub periods : SamePeriods plan.entries next.entries

ready_more : (n : ℕ) (plan next : Plan) → length plan.entries ≡ IDS → Ready plan → longer n plan ≡ some next → After plan next
ready_more n plan next len r e = subst (After plan) (sym s.is) (record {
  size = length_over plan.entries s.u ∙ len;
  ready = record {
    ranged = ranged_is _ (over_ranged plan.entries s.u len (ranged_from _ r.ranged) r.unplaced s.goes);
    unplaced = λ i l. ap (λ (x : Entry). x.offset) (over_at_lem plan.entries s.u len i l) ∙ r.unplaced i l;
  };
  periods = λ i l. ap (λ (x : Entry). x.period) (over_at_lem plan.entries s.u len i l);
})
  where
    s : Step n plan next
    s = subst (Longer n plan) e (longer_told n plan)

-- ---- the placement

-- What each entry becomes: the one with its offset.
abbrev pub put_in : List ℕ → ℕ → Entry → Entry
put_in offsets i e = with_offset (get_or offsets i 0) e

module _ (plan : Plan) (size : length plan.entries ≡ IDS) (ready : Ready plan) (ranks : List ℕ) (count : ℕ) (k : Ranked plan.entries ranks count)
    (a : Answer (List ℕ)) (e : a ≡ placed_of (demands_of ranks count)) where
  -- Where there is no placement the plan is as it was.
  pub settled_none : a ≡ None → (false, plan) ≡ settled_of plan (placement plan.entries)
  unfolding settled_of
  settled_none h = sym (ap (settled_of plan) (placed_none plan.entries ranks count k a e h))

  -- Where there is one, the entries with its offsets are those that it settles.
  pub settled_some : (offsets : List ℕ) → a ≡ Some offsets → (es : List Entry) → es ≡ each (put_in offsets) IDS plan.entries
      → (true, record { owners = plan.owners; entries = es }) ≡ settled_of plan (placement plan.entries)
  unfolding settled_of placed
  settled_some offsets h es t =
      let w = placed_some plan.entries ranks count k a e offsets h in
      ap (λ (x : List Entry). (true, record { owners = plan.owners; entries = x })) (same w.0 w.2) ∙ sym (ap (settled_of plan) w.1)
    where
      same : (ps : List Place) → offsets ≡ offsets_of ps → es ≡ settle plan.entries ps
      same ps o =
          let long : length es ≡ IDS = as_many (put_in offsets) plan.entries IDS es t ∙ size in
          ext_get_or no_entry _ _ (long ∙ sym (length_settle plan.entries ps ∙ size))
          (λ i m.
          let j : i < IDS = omega (arith, long) in
          ap (λ (x : List Entry). entry_of x i) t ∙ each_at (put_in offsets) IDS plan.entries (omega (arith, size)) i j
          ∙ ap (λ (x : List ℕ). put_in x i (entry_of plan.entries i)) o
          ∙ sym (settle_offsets plan.entries size ready.unplaced ps i j))

-- What the answer of a placement says of it.
module _ (plan next : Plan) where
  put_some : (o : Option (List Place)) → (true, next) ≡ settled_of plan o → (ps : List Place) × (o ≡ some ps) × (next ≡ placed plan ps)
  unfolding settled_of
  put_some none h = absurd (true_false refl (ap (λ (x : Bool × Plan). x.0) h))
  put_some (some ps) h = (ps, refl, ap (λ (x : Bool × Plan). x.1) h)

  put_none : (o : Option (List Place)) → (false, next) ≡ settled_of plan o → (o ≡ none) × (next ≡ plan)
  unfolding settled_of
  put_none none h = (refl, ap (λ (x : Bool × Plan). x.1) h)
  put_none (some ps) h = absurd (true_false (ap (λ (x : Bool × Plan). x.0) h) refl)

-- ---- the turns

-- The search stands at length n: so many lengths were passed over and counted, what is left is the search from here on, and the order lists the ids.
pub record Stands (start : Plan) (limit : ℕ) (plan : Plan) (ranks : List ℕ) (count n tries : ℕ) : Type 0 where
  pub within : n ≤ limit
  pub counted : tries ≡ n
  pub size : length plan.entries ≡ IDS
  pub ready : Ready plan
  pub listing : Listing plan.entries ranks count
  pub rest : search_from limit 0 start ≡ after n (search_from (limit - n) n plan)

pub stands_first : (limit : ℕ) (plan : Plan) (ranks : List ℕ) (count : ℕ) → length plan.entries ≡ IDS → Ready plan → Listing plan.entries ranks count
    → Stands plan limit plan ranks count 0 0
stands_first limit plan ranks count a r l =
    record { within = omega arith; counted = refl; size = a; ready = r; listing = l; rest = rw sub-zero (after_none _) }

module _ {start : Plan} {limit : ℕ} {plan : Plan} {ranks : List ℕ} {count n tries : ℕ} (s : Stands start limit plan ranks count n tries) where
  -- The search ends here, with this length counted.
  ends : (e : Ending) (p q : Plan) → search_from (limit - n) n plan ≡ ended e q → q ≡ p
      → search_from limit 0 start ≡ record { ending = e; tries = tries + 1; plan = p }
  unfolding after ended
  ends e p q h k =
      s.rest ∙ ap (after n) h ∙ ap₂ (λ (t : ℕ) (x : Plan). record { ending = e; tries = t + 1; plan = x }) (sym s.counted) k

  module _ (g : Bool) (next : Plan) (h : (g, next) ≡ settled_of plan (placement plan.entries)) where
    -- This length has a placement, or none.
    pub stands_found : g ≡ true → search_from limit 0 start ≡ record { ending = Found n; tries = tries + 1; plan = next }
    stands_found f =
        let w = put_some plan next (placement plan.entries) (ap (λ (x : Bool). (x, next)) (sym f) ∙ h) in
        ends (Found n) next (placed plan w.0) (search_found n plan (limit - n) w.0 w.1) (sym w.2)

    module _ (f : g ≡ false) where
      stuck : (placement plan.entries ≡ none) × (next ≡ plan)
      stuck = put_none plan next (placement plan.entries) (ap (λ (x : Bool). (x, next)) (sym f) ∙ h)

      -- The plan is still in range.
      pub stands_ranged : entries_in_range next.entries ≡ true
      stands_ranged = ap (λ (x : Plan). entries_in_range x.entries) stuck.1 ∙ s.ready.ranged

      pub stands_exhausted : n ≡ limit → search_from limit 0 start ≡ record { ending = Exhausted n; tries = tries + 1; plan = next }
      stands_exhausted e =
          let z : limit - n ≡ 0 = omega arith in
          ends (Exhausted n) next plan (ap (λ (x : ℕ). search_from x n plan) z ∙ search_exhausted n plan stuck.0) (sym stuck.1)

      module _ (l : n ≢ limit) (given : Bool) (then : Plan) (t : (given, then) ≡ next_of next (longer n next)) where
        -- The lengths that are left.
        left : limit - n ≡ suc (limit - (n + 1))
        left = omega (arith, s.within)

        -- What one more slot gives.
        gives : (given, then) ≡ next_of plan (longer n plan)
        gives = subst (λ (x : Plan). (given, then) ≡ next_of x (longer n x)) stuck.1 t

        pub stands_missed : given ≡ false → search_from limit 0 start ≡ record { ending = Missed n; tries = tries + 1; plan = then }
        stands_missed z =
            let m = given_none plan then (longer n plan) (ap (λ (x : Bool). (x, then)) (sym z) ∙ gives) in
            ends (Missed n) then plan (ap (λ (x : ℕ). search_from x n plan) left ∙ search_missed n plan (limit - (n + 1)) stuck.0 m.0) (sym m.1)

        pub stands_on : given ≡ true → (order : List ℕ) (many : ℕ) → many ≤ IDS → Ranked plan.entries order many
            → Stands start limit then order many (n + 1) (tries + 1)
        stands_on z order many few k =
            let m = given_some plan then (longer n plan) (ap (λ (x : Bool). (x, then)) (sym z) ∙ gives) in
            let q = ready_more n plan then s.size s.ready m in
            record {
              within = omega (arith, s.within);
              counted = ap (λ (x : ℕ). x + 1) s.counted;
              size = q.size;
              ready = q.ready;
              listing = listing_same plan.entries then.entries q.periods order many (ranked_listing plan.entries s.ready.ranged order many few k);
              rest =
                  s.rest
                  ∙ ap (λ (x : ℕ). after n (search_from x n plan)) left
                  ∙ ap (after n) (search_on n plan (limit - (n + 1)) then stuck.0 m)
                  ∙ after_passed n (search_from (limit - (n + 1)) (suc n) then)
                  ∙ ap (λ (x : ℕ). after x (search_from (limit - (n + 1)) x then)) (sym (add-one n));
            }
