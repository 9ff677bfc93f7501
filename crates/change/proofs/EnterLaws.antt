-- The entries with which the ids enter a change, id by id: of a sound timetable they are those of the plan of length 0. Assumes nothing.
use borrow.Author.Tests.{lt-ltb, le-ltb}
use lib.Dec.{ltb}
use lib.ListN.{length, replicate}
use lib.Seq.{ext_get_or}
use mathlib.Core.Bool.{cond}
use mathlib.Core.List.{List}
use mathlib.Core.Logic.{⊎_elim}
use mathlib.Core.Path.{◌≡◌, sym, ap, ◌∙◌, subst}
use native.Mathlib.Decide.{dec_lt}
use native.Mathlib.Omega.{arith}
use Prim.Native.Nat.{ℕ, ◌-◌, ◌≤◌, ◌<◌}
use Rattle.change.proofs.Start.{length_start, start_at_lem}
use Rattle.change.specs.Change.{start_plan}
use Rattle.change.specs.Entered.{entered}
use Rattle.change.specs.Periods.{ArePeriods}
use Rattle.change.specs.Stages.{asked_bound, entering, start_entries}
use Rattle.records.specs.declared.Ask.{Ask}
use Rattle.records.specs.declared.Request.{Request}
use Rattle.records.specs.Reads.{AsksRange}
use Rattle.records.specs.Request.{ask_of}
use Rattle.slots.specs.Limits.{IDS, LONGEST}
use Rattle.timetable.proofs.Entries.{each_at, length_each}
use Rattle.timetable.proofs.Ranges.{period_is}
use Rattle.timetable.proofs.Since.{shortfall_cycle}
use Rattle.timetable.proofs.Sound.{Sound}
use Rattle.timetable.specs.declared.Entry.{Entry}
use Rattle.timetable.specs.declared.Timetable.{Timetable}
use Rattle.timetable.specs.Sound.{is_period}
use Rattle.timetable.specs.Timetable.{absent_entry, each, entry_of, no_entry}
use Rattle.transition.specs.declared.Plan.{Plan}

-- An entry that enters has the period that is asked for, 0 where none is.
enters_period : (old : Entry) (start : ℕ) (ask : Ask) → (entering old start ask).period ≡ ask.period
unfolding entering
enters_period old start ask = at (dec_lt 0 ask.period)
  where
    at : Dec (0 < ask.period)
        → (cond (ltb 0 ask.period) (record { period = ask.period; offset = 0; bound = asked_bound old ask; shortfall = start }) (absent_entry start)).period ≡ ask.period
    at (yes h) = rw (lt-ltb 0 ask.period h)
    at (no h) = rw (le-ltb 0 ask.period (omega arith)) (omega arith)

module _ (t : Timetable) (q : Request) where
  -- Of a sound timetable these are the entries of the plan of length 0.
  pub start_entered : Sound t → length t.entries ≡ IDS → t.base.0 ≤ q.slot.0 → (es : List Entry) → es ≡ each (entered (q.slot.0 - t.base.0) q.asks) IDS t.entries
      → ◌≡◌ {A = Plan} (record { owners = replicate LONGEST 0; entries = es }) (start_plan t q)
  unfolding start_plan
  start_entered s size later es e =
      let f = entered (q.slot.0 - t.base.0) q.asks in
      let len : length es ≡ IDS = ap length e ∙ length_each f IDS t.entries ∙ size in
      ap {B = Plan} (λ (x : List Entry). record { owners = replicate LONGEST 0; entries = x })
      (ext_get_or no_entry _ _ (len ∙ sym (length_start t q.slot q.asks))
      (λ i k.
      let j : i < IDS = omega (arith, len) in
      ap (λ (x : List Entry). entry_of x i) e
      ∙ each_at f IDS t.entries (omega (arith, size)) i j
      ∙ ap (λ (x : ℕ). entering (entry_of t.entries i) x (ask_of q.asks i)) (shortfall_cycle t s i j q.slot later)
      ∙ sym (start_at_lem t q.slot q.asks i j)))

  start_period : AsksRange q.asks → ArePeriods (start_entries t q.slot q.asks)
  start_period r i k pos =
      let e : (entry_of (start_entries t q.slot q.asks) i).period ≡ (ask_of q.asks i).period =
      ap (λ (x : Entry). x.period) (start_at_lem t q.slot q.asks i k) ∙ enters_period _ _ _ in
      ⊎_elim (λ z. absurd (omega (arith, e, z.0, pos))) (λ p. ap is_period e ∙ period_is _ p.0) (r.each i k)

  -- Each of them has a period that is asked for.
  pub plan_periods : (plan : Plan) → plan ≡ start_plan t q → AsksRange q.asks → ArePeriods plan.entries
  unfolding start_plan
  plan_periods plan e r = subst (λ (x : Plan). ArePeriods x.entries) (sym e) (start_period r)
