-- A request with short fields and the one in full: rule 1 gives both the same entries, and nothing behind it looks at what was asked. And 8 names no short
-- field, for a sound timetable keeps the R as before. Assumes nothing.
use borrow.Author.Tests.{lt-ltb}
use lib.ListN.{replicate}
use mathlib.Core.Bool.{Bool, true, false}
use mathlib.Core.List.{List, ◌++◌}
use mathlib.Core.Logic.{◌⊎◌, inl, inr}
use mathlib.Core.Path.{◌≡◌, refl, sym, ap, ◌∙◌, subst}
use native.Mathlib.Decide.{ℕ_discrete}
use native.Mathlib.Omega.{arith}
use Prim.Native.Nat.{ℕ, ◌-◌, ◌*◌, ◌≤◌, ◌<◌}
use Rattle.std.specs.Prelude.{Ok}
use Rattle.records.specs.declared.Request.{Request}
use Rattle.change.proofs.Alike.{alike, same_slot}
use Rattle.change.proofs.GivenLaws.{asks_bound}
use Rattle.change.proofs.OneGiven.{bound_one}
use Rattle.change.proofs.StageSteps.{enter_absent, given_bound, listed_bound, new_bound, short_bound}
use Rattle.change.proofs.Start.{length_start, start_at_lem, start_listed}
use Rattle.change.specs.Change.{answer_of, answer_to, search_of, start_plan}
use Rattle.change.specs.Given.{AsksBound}
use Rattle.change.specs.Refused.{Behind, StagesSay, bad_field, behind, in_time, not_sound, overfull, small_area, sound, too_early}
use Rattle.change.specs.Stages.{asked_bound, entering, stage_early, stage_fields, stages_first, stages_listed, start_entries, verdict_before}
use Rattle.numbers.specs.Chain.{first_of, passed, refused as stops}
use Rattle.numbers.specs.declared.Refusal.{Refusal}
use Rattle.numbers.specs.Chain.{Refused}
use Rattle.numbers.specs.Numbers.{BEHIND}
use Rattle.records.proofs.ReadLaws.{refused_in_range}
use Rattle.records.specs.declared.Ask.{Ask}
use Rattle.records.specs.Request.{ask_of, read_request, requested}
use Rattle.slots.specs.declared.CoreSlot.{CoreSlot}
use Rattle.slots.specs.Limits.{IDS, LONGEST, WHOLE}
use Rattle.timetable.proofs.Onward.{kept_after}
use Rattle.timetable.proofs.Since.{shortfall_cycle}
use Rattle.timetable.proofs.Sound.{Sound, sound_from}
use Rattle.timetable.specs.declared.Entry.{Entry}
use Rattle.timetable.specs.declared.Timetable.{Timetable}
use Rattle.timetable.specs.Timetable.{entry_of, is_listed, lists, shortfall_at}
use Rattle.transition.proofs.RuleThreeLaws.{same_entries}
use Rattle.transition.specs.declared.Plan.{Plan}
use Rattle.transition.specs.Transition.{search_from}

-- An id enters with the same entry, whether its field is short or gives the bound that the short one asks.
enters_same : (old : Entry) (n : ℕ) (ask full : Ask) → full.period ≡ ask.period
    → (0 < ask.period → (0 < full.bound) × AsksBound old ask.bound full.bound) → entering old n full ≡ entering old n ask
unfolding entering
enters_same old n ask full p b = at (ℕ_discrete ask.period 0)
  where
    at : Dec (ask.period ≡ 0) → entering old n full ≡ entering old n ask
    at (yes z) = sym (enter_absent old n full n (p ∙ z) refl) ∙ enter_absent old n ask n z refl
    at (no z) =
        let w = b (omega arith) in
        let f : asked_bound old full ≡ asked_bound old ask =
        sym (given_bound old full (λ y. omega (arith, w.0))) ∙ bound_one old ask.bound full.bound (asked_bound old ask) w.1 (asks_bound old ask) in
        rw (lt-ltb 0 full.period (omega (arith, p)), lt-ltb 0 ask.period (omega arith))
        (λ j. record { period = p j; offset = 0; bound = f j; shortfall = n })

-- A request, with other asks.
abbrev pub with_asks : List Ask → Request → Request
with_asks asks q = record { slot = q.slot; limit = q.limit; asks = asks }

module _ (t : Timetable) (q : Request) (asks : List Ask)
    (period : (i : ℕ) → i < IDS → (ask_of asks i).period ≡ (ask_of q.asks i).period)
    (bound : (i : ℕ) → i < IDS → 0 < (ask_of q.asks i).period
    → (0 < (ask_of asks i).bound) × AsksBound (entry_of t.entries i) (ask_of q.asks i).bound (ask_of asks i).bound) where
  -- The entries at the request slot are the same.
  starts_same : start_entries t q.slot asks ≡ start_entries t q.slot q.asks
  starts_same =
      let slot = q.slot in
      same_entries (start_entries t slot asks) (start_entries t slot q.asks) (length_start t slot asks) (length_start t slot q.asks)
      (λ i k.
      start_at_lem t slot asks i k
      ∙ enters_same (entry_of t.entries i) (shortfall_at t i slot) (ask_of q.asks i) (ask_of asks i) (period i k) (bound i k)
      ∙ sym (start_at_lem t slot q.asks i k))

  -- So what the stages before the search say is the same,
  verdict_same : (area : ℕ) → verdict_before t (Ok (with_asks asks q)) area ≡ verdict_before t (Ok q) area
  unfolding verdict_before stages_first stage_fields stage_early requested
  verdict_same area = ap (λ (es : List Entry). first_of (stages_first t (Ok q) area ++ stages_listed es)) starts_same

  -- and the search,
  plan_same : start_plan t (with_asks asks q) ≡ start_plan t q
  unfolding start_plan
  plan_same = ap {B = Plan} (λ (es : List Entry). record { owners = replicate LONGEST 0; entries = es }) starts_same

  search_same : search_of t (with_asks asks q) ≡ search_of t q
  unfolding search_of
  search_same = ap (search_from q.limit 0) plan_same

  -- and the whole answer.
  pub in_full_same : (area : ℕ) → answer_to t (Ok (with_asks asks q)) area ≡ answer_to t (Ok q) area
  unfolding requested
  in_full_same area =
      alike t (Ok q) (Ok (with_asks asks q)) area (verdict_same area)
      (λ _.
      same_slot t q (with_asks asks q) refl plan_same (search_of t (with_asks asks q)) ∙ ap (answer_of t q) search_same)

-- ---- refusal 8

-- An id with a short field that is behind returns with a debt: a listed one keeps the bound that it had, and any other asks R 1.
pub short_behind : (t : Timetable) → Sound t → (slot : CoreSlot) → t.base.0 ≤ slot.0 → (asks : List Ask) (i : ℕ) → i < IDS → (ask_of asks i).bound ≡ 0
    → Behind (entry_of (start_entries t slot asks) i) → (lists t i ≡ false) × (WHOLE ≤ shortfall_at t i slot)
short_behind t s slot later asks i k short b = at (is_listed old) refl
  where
    old : Entry
    old = entry_of t.entries i

    n : ℕ
    n = slot.0 - t.base.0

    owed : WHOLE * asked_bound old (ask_of asks i) ≤ shortfall_at t i slot
    owed = subst (λ (e : Entry). WHOLE * e.bound ≤ e.shortfall) (start_listed t slot asks i k b.0).1 b.1

    at : (x : Bool) → is_listed old ≡ x → (lists t i ≡ false) × (WHOLE ≤ shortfall_at t i slot)
    at true l =
        let f = listed_bound old l ∙ short_bound old (ask_of asks i) short in
        absurd (omega (arith, owed, f, shortfall_cycle t s i k slot later, kept_after old (s.ranged.listed i k l) n))
    at false l =
        let f = new_bound old l ∙ short_bound old (ask_of asks i) short in
        (l, omega (arith, owed, f))

-- So 8 names an id whose field gives its R, or one that returns with a debt of a whole slot or more.
pub behind_named : (t : Timetable) (s : List ℕ) (area : ℕ) (x : Refusal) → StagesSay t (read_request s) area (Refused x) → x.number ≡ BEHIND
    → (0 < (ask_of (requested (read_request s)).asks x.place).bound)
    ⊎ ((lists t x.place ≡ false) × (WHOLE ≤ shortfall_at t x.place (requested (read_request s)).slot))
behind_named t s area x (stops _ (stops _ (not_sound a))) e = absurd (omega arith)
behind_named t s area x (stops _ (passed _ _ (stops _ (small_area a)))) e = absurd (omega arith)
behind_named t s area x (stops _ (passed _ _ (passed _ _ (stops _ (bad_field q f))))) e = absurd (omega (arith, (refused_in_range s q f).high))
behind_named t s area x (stops _ (passed _ _ (passed _ _ (passed _ _ (too_early a))))) e = absurd (omega arith)
behind_named t s area x (passed _ _ (stops _ (overfull i k f g))) e = absurd (omega arith)
behind_named t s area x (passed _ (passed _ (sound z) (passed _ _ (passed _ _ (in_time l)))) (passed _ _ (behind i k b f))) e =
    at (ℕ_discrete (ask_of (requested (read_request s)).asks i).bound 0)
  where
    at : Dec ((ask_of (requested (read_request s)).asks i).bound ≡ 0)
        → (0 < (ask_of (requested (read_request s)).asks i).bound) ⊎ ((lists t i ≡ false) × (WHOLE ≤ shortfall_at t i (requested (read_request s)).slot))
    at (yes y) = inr (short_behind t (sound_from t z) (requested (read_request s)).slot l (requested (read_request s)).asks i k y b)
    at (no y) = inl (omega arith)
