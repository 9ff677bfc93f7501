-- The plan of length 0 of a request that passed the stages is fit: what was read is in range, and nobody is behind. Assumes nothing.
use borrow.Author.Tests.{ltb-true}
use lib.Dec.{ltb}
use lib.ListN.{get_or, length, length-map, replicate, length-replicate, get_or-replicate, get_or-eq_default, get_or-map}
use mathlib.Core.Bool.{Bool, true, false}
use mathlib.Core.List.{List}
use mathlib.Core.Logic.{inl, inr}
use mathlib.Core.Path.{◌≡◌, refl, sym, ap, ◌∙◌, subst}
use native.Mathlib.Decide.{ℕ_discrete, dec_lt}
use native.Mathlib.Omega.{arith}
use Prim.Native.Nat.{ℕ, ◌+◌, ◌*◌, ◌≤◌, ◌<◌}
use Rattle.change.proofs.StageSteps.{given_bound, listed_bound, new_bound, short_bound}
use Rattle.change.specs.Change.{shortfalls_of, start_plan, starts_of}
use Rattle.change.specs.Refused.{Behind}
use Rattle.change.specs.Stages.{asked_bound, bound_before, entering, start_entries}
use Rattle.records.proofs.ReadLaws.{AskRange, AsksRange, RequestRange}
use Rattle.records.specs.declared.Ask.{Ask}
use Rattle.records.specs.declared.Request.{Request}
use Rattle.records.specs.Request.{ask_of}
use Rattle.slots.proofs.Below.{true_false}
use Rattle.slots.specs.declared.CoreSlot.{CoreSlot}
use Rattle.slots.specs.Limits.{IDS, LONGEST, WHOLE, LARGEST_BOUND}
use Rattle.timetable.proofs.Entries.{length_each, each_at}
use Rattle.timetable.proofs.Ranges.{Period, InRange, period_pos}
use Rattle.timetable.proofs.Since.{shortfall_below}
use Rattle.timetable.proofs.Sound.{Ranged, Sound}
use Rattle.timetable.proofs.Absent.{Absent}
use Rattle.timetable.specs.declared.Entry.{Entry}
use Rattle.timetable.specs.declared.Timetable.{Timetable}
use Rattle.timetable.specs.Timetable.{absent_entry, no_entry, entry_of, is_listed, weight, shortfall_at}
use Rattle.transition.proofs.Plans.{Fit}

-- The entry with which an asked id starts.
abbrev pub asked : Timetable → CoreSlot → ℕ → Ask → Entry
asked t slot i a = record { period = a.period; offset = 0; bound = asked_bound (entry_of t.entries i) a; shortfall = shortfall_at t i slot }

-- A bound from 1 to 8.
abbrev pub Bound : ℕ → Type 0
Bound r = (0 < r) × (r ≤ LARGEST_BOUND)

-- The R as before is one, and so is a bound that is asked.
pub bound_range : (old : Entry) → (is_listed old ≡ true → InRange old) → (a : Ask) → a.bound ≤ LARGEST_BOUND → Bound (asked_bound old a)
bound_range old f a h = at (ℕ_discrete a.bound 0)
  where
    before : (b : Bool) → is_listed old ≡ b → Bound (bound_before old)
    before true l = let k = f l in subst Bound (listed_bound old l) (k.bound_low, k.bound_high)
    before false l = subst Bound (new_bound old l) (omega arith)

    at : Dec (a.bound ≡ 0) → Bound (asked_bound old a)
    at (yes e) = subst Bound (short_bound old a e) (before (is_listed old) refl)
    at (no e) = subst Bound (given_bound old a e) (omega arith)

module _ (t : Timetable) (slot : CoreSlot) (asks : List Ask) where
  pub length_start : length (start_entries t slot asks) ≡ IDS
  unfolding start_entries
  length_start = length_each _ IDS (replicate IDS no_entry) ∙ length-replicate IDS no_entry

  pub start_at_lem : (i : ℕ) → i < IDS → entry_of (start_entries t slot asks) i ≡ entering (entry_of t.entries i) (shortfall_at t i slot) (ask_of asks i)
  unfolding start_entries
  start_at_lem i k = each_at _ IDS (replicate IDS no_entry) (omega (arith, length-replicate IDS no_entry)) i k

  -- An id that starts listed was asked for.
  pub start_listed : (i : ℕ) → i < IDS → is_listed (entry_of (start_entries t slot asks) i) ≡ true
      → (0 < (ask_of asks i).period) × (entry_of (start_entries t slot asks) i ≡ asked t slot i (ask_of asks i))
  unfolding entering
  start_listed i k l = at (ltb 0 (ask_of asks i).period) refl
    where
      at : (b : Bool) → ltb 0 (ask_of asks i).period ≡ b
          → (0 < (ask_of asks i).period) × (entry_of (start_entries t slot asks) i ≡ asked t slot i (ask_of asks i))
      at true e = (ltb-true 0 (ask_of asks i).period e, start_at_lem i k ∙ rw e)
      at false e = let z : entry_of (start_entries t slot asks) i ≡ absent_entry (shortfall_at t i slot) = start_at_lem i k ∙ rw e in absurd (true_false l (ap is_listed z))

  -- An id that does not has its shortfall and nothing else.
  start_absent : (i : ℕ) → i < IDS → is_listed (entry_of (start_entries t slot asks) i) ≡ false
      → entry_of (start_entries t slot asks) i ≡ absent_entry (shortfall_at t i slot)
  unfolding entering
  start_absent i k l = at (ltb 0 (ask_of asks i).period) refl
    where
      at : (b : Bool) → ltb 0 (ask_of asks i).period ≡ b → entry_of (start_entries t slot asks) i ≡ absent_entry (shortfall_at t i slot)
      at true e =
          let z : entry_of (start_entries t slot asks) i ≡ asked t slot i (ask_of asks i) = start_at_lem i k ∙ rw e in
          absurd (true_false e (sym (ap is_listed z) ∙ l))
      at false e = start_at_lem i k ∙ rw e

  -- Every id enters with its shortfall at the slot.
  pub start_shortfall : (i : ℕ) → i < IDS → (entry_of (start_entries t slot asks) i).shortfall ≡ shortfall_at t i slot
  start_shortfall i k = at (is_listed (entry_of (start_entries t slot asks) i)) refl
    where
      at : (b : Bool) → is_listed (entry_of (start_entries t slot asks) i) ≡ b → (entry_of (start_entries t slot asks) i).shortfall ≡ shortfall_at t i slot
      at true l = ap (λ (e : Entry). e.shortfall) (start_listed i k l).1
      at false l = ap (λ (e : Entry). e.shortfall) (start_absent i k l)

  -- Where the timetable is sound, the slot not before its base and nobody is behind, the entries are in range.
  pub start_ranged : Sound t → t.base.0 ≤ slot.0 → AsksRange asks → ((i : ℕ) → i < IDS → Behind (entry_of (start_entries t slot asks) i) → ⊥)
      → Ranged (start_entries t slot asks)
  start_ranged before later r n = record { listed = listed; absent = absent }
    where
      absent : (i : ℕ) → i < IDS → is_listed (entry_of (start_entries t slot asks) i) ≡ false → Absent (entry_of (start_entries t slot asks) i)
      absent i k l = subst Absent (sym (start_absent i k l)) (record { zero = refl; below = shortfall_below t before i k slot later })

      es : List Entry
      es = start_entries t slot asks

      period : (a : Ask) → 0 < a.period → AskRange a → Period a.period × (a.bound ≤ LARGEST_BOUND)
      period a p (inl z) = absurd (omega (arith, z.0))
      period a p (inr z) = z

      listed : (i : ℕ) → i < IDS → is_listed (entry_of es i) ≡ true → InRange (entry_of es i)
      listed i k l =
          let w = start_listed i k l in
          let a : Ask = ask_of asks i in
          let p = period a w.0 (r.each i k) in
          let b = bound_range (entry_of t.entries i) (before.ranged.listed i k) a p.1 in
          let fine : (entry_of es i).shortfall < WHOLE * (entry_of es i).bound = at (dec_lt (entry_of es i).shortfall (WHOLE * (entry_of es i).bound)) in
          subst InRange (sym w.1)
          (record {
            period = p.0;
            bound_low = b.0;
            bound_high = b.1;
            inside = period_pos a.period p.0;
            kept = subst (λ (e : Entry). e.shortfall + 0 * weight e < WHOLE * e.bound) w.1 (omega arith);
          })
        where
          at : Dec ((entry_of es i).shortfall < WHOLE * (entry_of es i).bound) → (entry_of es i).shortfall < WHOLE * (entry_of es i).bound
          at (yes h) = h
          at (no h) = absurd (n i k (l, omega arith))

-- Every place of a list of zeros holds 0.
zeros : (n k : ℕ) → ◌≡◌ {A = ℕ} (get_or (replicate n 0) k 0) 0
zeros n k = at (dec_lt k n)
  where
    at : Dec (k < n) → ◌≡◌ {A = ℕ} (get_or (replicate n 0) k 0) 0
    at (yes h) = get_or-replicate {A = ℕ} n k 0 0 h
    at (no h) = get_or-eq_default {A = ℕ} (replicate n 0) 0 {n = k} (omega (arith, length-replicate {A = ℕ} n 0))

-- A start is the shortfall of the entry at the request slot.
pub start_of_lem : (t : Timetable) (r : Request) (i : ℕ) → get_or (starts_of t r) i 0 ≡ (entry_of (start_plan t r).entries i).shortfall
unfolding starts_of shortfalls_of
start_of_lem t r i = get_or-map (λ (e : Entry). e.shortfall) (start_plan t r).entries i no_entry

-- There is one for each id.
pub start_count : (t : Timetable) (r : Request) → length (starts_of t r) ≡ IDS
unfolding starts_of shortfalls_of start_plan
start_count t r = length-map (start_entries t r.slot r.asks) (λ (e : Entry). e.shortfall) ∙ length_start t r.slot r.asks

-- The plan of length 0 is fit.
pub start_fit : (t : Timetable) (r : Request) → Sound t → t.base.0 ≤ r.slot.0 → RequestRange r
    → ((i : ℕ) → i < IDS → Behind (entry_of (start_entries t r.slot r.asks) i) → ⊥) → Fit 0 (start_plan t r)
unfolding start_plan
start_fit t r before later q n = record {
  entries = length_start t r.slot r.asks;
  places = length-replicate {A = ℕ} LONGEST 0;
  ranged = ranged;
  unplaced = λ i k. at i k (is_listed (entry_of (start_entries t r.slot r.asks) i)) refl;
  served = λ k h. absurd (omega arith);
  unused = λ k h. zeros LONGEST k;
}
  where
    ranged : Ranged (start_entries t r.slot r.asks)
    ranged = start_ranged t r.slot r.asks before later q.asks n

    at : (i : ℕ) → i < IDS → (b : Bool) → is_listed (entry_of (start_entries t r.slot r.asks) i) ≡ b
        → (entry_of (start_entries t r.slot r.asks) i).offset ≡ 0
    at i k true l = ap (λ (e : Entry). e.offset) (start_listed t r.slot r.asks i k l).1
    at i k false l = ap (λ (e : Entry). e.offset) (ranged.absent i k l).zero
