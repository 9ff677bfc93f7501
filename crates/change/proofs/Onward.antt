-- What is there is granted: going on with the present slots is a cyclic placement from the shortfalls at any slot from the base on, and placement is complete;
-- the weights sum to at most 256, because no slot serves two. Assumes nothing.
use mathlib.Core.Bool.{Bool, true, false}
use mathlib.Core.List.{List}
use mathlib.Core.Option.{Option, none, some}
use mathlib.Core.Path.{◌≡◌, refl, sym, ap, ◌∙◌, subst}
use native.Mathlib.Omega.{arith}
use Prim.Native.Nat.{ℕ, zero, suc, ◌+◌, ◌-◌, ◌*◌, ◌≤◌, ◌<◌}
use Rattle.std.specs.Prelude.{IsOk, Ok, Err}
use Rattle.change.proofs.Answers.{accepted_as, admitted, admitted_fit}
use Rattle.change.proofs.AsBefore.{short_behind}
use Rattle.change.proofs.GivenLaws.{at_request}
use Rattle.change.proofs.Stages.{stages}
use Rattle.change.proofs.Start.{start_at_lem}
use Rattle.change.specs.Change.{answer, answer_of, answer_to, number_of, place_of, refuse, search_of, start_plan, timetable_of}
use Rattle.change.specs.Refused.{Behind, StagesSay, enough, fits, in_time, keep_up, sound, whole}
use Rattle.change.specs.Stages.{asked_bound, bound_before, entering, start_entries, verdict_before, weight_sum}
use Rattle.numbers.specs.Chain.{passed}
use Rattle.numbers.specs.Chain.{Verdict}
use Rattle.numbers.specs.Chain.{Passed}
use Rattle.numbers.specs.Numbers.{ACCEPTED}
use Rattle.placement.proofs.Complete.{placement_none, settle_entry, settle_unlisted}
use Rattle.placement.specs.Any.{CyclicPlacement, Lists, chosen}
use Rattle.placement.specs.Placement.{Place, placement, settle}
use Rattle.records.specs.declared.Ask.{Ask}
use Rattle.records.specs.declared.Request.{Request}
use Rattle.records.specs.Request.{ask_of, read_request, requested}
use Rattle.slots.proofs.Below.{true_false}
use Rattle.slots.specs.Limits.{AREA, IDS, WHOLE}
use Rattle.timetable.proofs.EntryLaws.{weight_none}
use Rattle.timetable.proofs.Onward.{ahead, ahead_inside, cyclic_onward, kept_onward, onward}
use Rattle.timetable.proofs.Ranges.{InRange}
use Rattle.timetable.proofs.Shares.{slices_absent, slices_fit, slices_weight, slices_sum}
use Rattle.timetable.proofs.Since.{shortfall_cycle}
use Rattle.timetable.proofs.Sound.{Sound, sound_from}
use Rattle.timetable.specs.declared.Entry.{Entry}
use Rattle.timetable.specs.declared.Timetable.{Timetable}
use Rattle.timetable.specs.Sound.{is_sound}
use Rattle.timetable.specs.Timetable.{absent_entry, cyclic, entry_of, is_listed, shortfall_after, shortfall_at, slices_after, weight, with_offset}
use Rattle.transition.proofs.Plans.{Fit}
use Rattle.transition.proofs.Search.{search_found}
use Rattle.transition.specs.Transition.{ended, placed}

-- What a short field with the present period asks.
abbrev pub as_there : Entry → Ask
as_there e = record { period = e.period; bound = 0 }

module _ (t : Timetable) (s : Sound t) (q : Request) (later : t.base.0 ≤ q.slot.0)
    (same : (i : ℕ) → i < IDS → ask_of q.asks i ≡ as_there (entry_of t.entries i)) where
  -- The slots from the base to the request slot.
  abbrev n : ℕ
  n = q.slot.0 - t.base.0

  -- The entries at the request slot.
  abbrev es : List Entry
  es = start_entries t q.slot q.asks

  -- The present entry of an id.
  abbrev old : ℕ → Entry
  old i = entry_of t.entries i

  -- A listed id enters with its period and its R, and any other with its shortfall alone.
  start_there : (i : ℕ) → i < IDS → is_listed (old i) ≡ true → entry_of es i ≡ with_offset 0 (onward (old i) n)
  unfolding entering asked_bound bound_before
  start_there i k l =
      start_at_lem t q.slot q.asks i k ∙ ap (λ (x : ℕ). entering (old i) x (ask_of q.asks i)) (sym (shortfall_cycle t s i k q.slot later))
      ∙ ap (entering (old i) (shortfall_after (old i) n)) (same i k) ∙ rw l

  start_absent : (i : ℕ) → i < IDS → is_listed (old i) ≡ false → entry_of es i ≡ absent_entry (shortfall_at t i q.slot)
  start_absent i k l =
      (at_request t q).absent i k (ap (λ (a : Ask). a.period) (same i k) ∙ ap (λ (e : Entry). e.period) (s.ranged.absent i k l).zero)

  -- Who is listed stays so.
  same_listed : (i : ℕ) → i < IDS → is_listed (entry_of es i) ≡ true → is_listed (old i) ≡ true
  same_listed i k l = at (is_listed (old i)) refl
    where
      at : (b : Bool) → is_listed (old i) ≡ b → is_listed (old i) ≡ true
      at true e = e
      at false e = absurd (true_false l (ap is_listed (start_absent i k e)))

  ranged : (i : ℕ) → Lists es i → InRange (old i)
  ranged i l = s.ranged.listed i l.0 (same_listed i l.0 l.1)

  there : (i : ℕ) → Lists es i → entry_of es i ≡ with_offset 0 (onward (old i) n)
  there i l = start_there i l.0 (same_listed i l.0 l.1)

  -- Going on with the present slots is a cyclic placement.
  going_on : CyclicPlacement es (λ i. ahead (old i) n)
  going_on = record {
    below = λ i l. subst (λ (e : Entry). ahead (old i) n < e.period) (sym (there i l)) (ahead_inside (old i) (ranged i l).inside n);
    apart = λ i j a b d m p r. s.apart i j a.0 b.0 d (n + m) (own i a m p) (own j b m r);
    kept = λ i l m. subst (λ (e : Entry). shortfall_after (with_offset (ahead (old i) n) e) m < WHOLE * e.bound) (sym (there i l)) (kept_onward (old i) (ranged i l) n m);
  }
    where
      own : (i : ℕ) → Lists es i → (m : ℕ) → cyclic (chosen es (λ i. ahead (old i) n) i) m ≡ true → cyclic (old i) (n + m) ≡ true
      own i l m p =
          sym (cyclic_onward (old i) (ranged i l).inside n m)
          ∙ subst (λ (e : Entry). cyclic (with_offset (ahead (old i) n) e) m ≡ true) (there i l) p

  -- Nobody is behind, for every field is short.
  none_behind : (i : ℕ) → i < IDS → Behind (entry_of es i) → ⊥
  none_behind i k b =
      true_false (same_listed i k b.0) (short_behind t s q.slot later q.asks i k (ap (λ (a : Ask). a.bound) (same i k)) b).0

  -- The weights are the slices of one cycle.
  weights : (m : ℕ) → m ≤ IDS → weight_sum es m ≡ slices_sum t.entries m WHOLE
  unfolding weight_sum slices_sum
  weights zero h = refl
  weights (suc m) h = omega (arith, weights m (omega arith), one (is_listed (old m)) refl)
    where
      one : (b : Bool) → is_listed (old m) ≡ b → weight (entry_of es m) ≡ slices_after (old m) WHOLE
      one true l = ap weight (start_there m (omega arith) l) ∙ sym (slices_weight (old m) (s.ranged.listed m (omega arith) l))
      one false l =
          ap weight (start_absent m (omega arith) l) ∙ weight_none 0 refl
          ∙ sym (ap (λ (e : Entry). slices_after e WHOLE) (s.ranged.absent m (omega arith) l).zero ∙ slices_absent (old m).shortfall WHOLE)

  not_over : (i : ℕ) → i < IDS → weight_sum es (suc i) ≤ WHOLE
  not_over i k = omega (arith, weights (suc i) (omega arith), slices_fit t.entries s.apart (suc i) WHOLE (omega arith))

module _ (t : Timetable) (s : List ℕ) (area : ℕ) (z : is_sound t ≡ true) (size : AREA ≤ area) (read : IsOk (read_request s))
    (later : t.base.0 ≤ (requested (read_request s)).slot.0)
    (same : (i : ℕ) → i < IDS → ask_of (requested (read_request s)).asks i ≡ as_there (entry_of t.entries i)) where
  -- What is asked.
  abbrev asked : Request
  asked = requested (read_request s)

  -- It passes the stages before the search.
  there_passes : StagesSay t (read_request s) area Passed
  there_passes =
      let x = sound_from t z in
      passed Passed (passed Passed (sound z) (passed Passed (enough size) (passed Passed (whole read) (in_time later))))
      (passed Passed (fits (not_over t x asked later same)) (keep_up (none_behind t x asked later same)))

  there_verdict : verdict_before t (read_request s) area ≡ Passed
  there_verdict = (stages t (read_request s) area).only Passed there_passes

  -- The entries at the request slot are in range, one for each id.
  there_fit : Fit 0 (start_plan t asked)
  there_fit = admitted_fit t asked area (admitted t s area there_passes)

  -- Rule 4 finds a placement from there.
  there_placed : (ps : List Place) × (placement (start_plan t asked).entries ≡ some ps)
  unfolding start_plan
  there_placed = at (placement (start_plan t asked).entries) refl
    where
      at : (o : Option (List Place)) → placement (start_plan t asked).entries ≡ o → (ps : List Place) × (placement (start_plan t asked).entries ≡ some ps)
      at none e =
          absurd (placement_none (start_plan t asked).entries there_fit.ranged e (λ i. ahead (entry_of t.entries i) (asked.slot.0 - t.base.0)) (going_on t (sound_from t z) asked later same))
      at (some ps) e = (ps, e)

  module _ (ps : List Place) (rule4 : placement (start_plan t asked).entries ≡ some ps) where
    -- So it is accepted with length 0,
    there_answer : answer t s area ≡ accepted_as t asked 0 (placed (start_plan t asked) ps)
    unfolding answer answer_to search_of answer_of number_of place_of timetable_of ended
    there_answer =
        ap (λ (v : Verdict). elim v [ Ok _ ↦ answer_of t asked (search_of t asked) | Err r ↦ refuse t r ]) there_verdict
        ∙ ap (answer_of t asked) (search_found 0 (start_plan t asked) asked.limit ps rule4)

    -- and each id keeps its period and its R.
    there_share : (i : ℕ) → i < IDS
        → ((entry_of (placed (start_plan t asked) ps).entries i).period ≡ (entry_of t.entries i).period)
        × ((entry_of (placed (start_plan t asked) ps).entries i).bound ≡ (entry_of t.entries i).bound)
    unfolding placed start_plan
    there_share i k = at (is_listed (entry_of t.entries i)) refl
      where
        x : Sound t
        x = sound_from t z

        es : List Entry
        es = start_entries t asked.slot asked.asks

        share : (e f : Entry) → e ≡ f → (e.period ≡ f.period) × (e.bound ≡ f.bound)
        share e f p = (ap (λ (y : Entry). y.period) p, ap (λ (y : Entry). y.bound) p)

        at : (b : Bool) → is_listed (entry_of t.entries i) ≡ b
            → ((entry_of (settle es ps) i).period ≡ (entry_of t.entries i).period) × ((entry_of (settle es ps) i).bound ≡ (entry_of t.entries i).bound)
        at true l =
            let e = start_there t x asked later same i k l in
            let o = (entry_of (settle es ps) i).offset in
            share _ _ (settle_entry es there_fit.ranged there_fit.entries ps rule4 i k (ap is_listed e ∙ l) ∙ ap (with_offset o) e)
        at false l =
            let e = start_absent t x asked later same i k l in
            let f = settle_unlisted es there_fit.ranged there_fit.entries ps rule4 i k (ap is_listed e) ∙ e in
            let g = (x.ranged.absent i k l).zero in
            (ap (λ (y : Entry). y.period) f ∙ sym (ap (λ (y : Entry). y.period) g), ap (λ (y : Entry). y.bound) f ∙ sym (ap (λ (y : Entry). y.bound) g))

  pub granted : ((answer t s area).number ≡ ACCEPTED) × ((answer t s area).timetable.length ≡ 0)
      × ((i : ℕ) → i < IDS
      → ((entry_of (answer t s area).timetable.entries i).period ≡ (entry_of t.entries i).period)
      × ((entry_of (answer t s area).timetable.entries i).bound ≡ (entry_of t.entries i).bound))
  granted = rw (there_answer there_placed.0 there_placed.1) (refl, refl, there_share there_placed.0 there_placed.1)
