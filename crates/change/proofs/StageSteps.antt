-- The stages before the search, test by test, as the code makes them. Assumes nothing.
use borrow.Author.Tests.{lt-ltb, le-ltb, le-leb, lt-leb, eq-eqb, ne_eqb}
use lib.Dec.{leb, ltb}
use lib.ListN.{length}
use mathlib.Core.Bool.{Bool, true, false, not}
use mathlib.Core.List.{List}
use mathlib.Core.Logic.{◌≢◌}
use mathlib.Core.Option.{none}
use mathlib.Core.Path.{◌≡◌, sym, ap, ap₂, ◌∙◌}
use native.Mathlib.Decide.{dec_le}
use native.Mathlib.Numerals.{add-one}
use native.Mathlib.Omega.{arith}
use Rattle.std.specs.List.{AllWithin, HoldsAt}
use Prim.Native.Nat.{ℕ, suc, ◌+◌, ◌*◌, ◌≤◌, ◌<◌}
use Rattle.change.specs.Stages.{asked_bound, bound_before, entering, weight_sum, overfull, is_behind, behind, stage_overfull, stage_behind}
use Rattle.numbers.specs.Chain.{refused_at}
use Rattle.numbers.specs.Chain.{Passed, Refused}
use Rattle.numbers.specs.Numbers.{OVERFULL, BEHIND, refusal}
use Rattle.records.specs.declared.Ask.{Ask}
use Rattle.slots.proofs.Below.{none_first, some_first}
use Rattle.slots.specs.Below.{first}
use Rattle.slots.specs.Limits.{IDS, WHOLE}
use Rattle.slots.specs.Shortfall.{keeps, weight_of}
use Rattle.timetable.proofs.EntryLaws.{weight_le}
use Rattle.timetable.proofs.ScanLaws.{first_more, first_end, first_here}
use Rattle.timetable.specs.declared.Entry.{Entry}
use Rattle.timetable.specs.Timetable.{absent_entry, no_entry, entry_of, is_listed, weight}

-- ---- one entry

pub listed_bound : (old : Entry) → is_listed old ≡ true → old.bound ≡ bound_before old
unfolding bound_before
listed_bound old l = rw l

pub new_bound : (old : Entry) → is_listed old ≡ false → 1 ≡ bound_before old
unfolding bound_before
new_bound old l = rw l

pub short_bound : (old : Entry) (a : Ask) → a.bound ≡ 0 → bound_before old ≡ asked_bound old a
unfolding asked_bound
short_bound old a e = rw (eq-eqb a.bound 0 e)

pub given_bound : (old : Entry) (a : Ask) → a.bound ≢ 0 → a.bound ≡ asked_bound old a
unfolding asked_bound
given_bound old a e = rw (ne_eqb a.bound 0 e)

-- The entry with which an id enters a change, not asked for and asked for.
pub enter_absent : (old : Entry) (start : ℕ) (ask : Ask) (s : ℕ) → ask.period ≡ 0 → s ≡ start → absent_entry s ≡ entering old start ask
unfolding entering
enter_absent old start ask s e q = ap absent_entry q ∙ rw (le-ltb 0 ask.period (omega (arith, e)))

pub enter_asked : (old : Entry) (start : ℕ) (ask : Ask) (b s : ℕ) → ask.period ≢ 0 → b ≡ asked_bound old ask
    → s ≡ start
    → ◌≡◌ {A = Entry} (record { period = ask.period; offset = 0; bound = b; shortfall = s }) (entering old start ask)
unfolding entering
enter_asked old start ask b s h p q =
    rw (lt-ltb 0 ask.period (omega (arith, h))) (λ i. record { period = ask.period; offset = 0; bound = p i; shortfall = q i })

-- ---- a stage that names an id

module _ (number : ℕ) (test : ℕ → Bool) (n : ℕ) (e : first n test ≡ none) where
  named : n < IDS → test n ≡ true → Refused (refusal number n) ≡ refused_at number (first IDS test)
  unfolding refused_at
  named l h = sym (ap (refused_at number) (first_here test n IDS l e h))

  named_nobody : IDS ≤ n → n ≤ IDS → Passed ≡ refused_at number (first IDS test)
  unfolding refused_at
  named_nobody a b = sym (ap (refused_at number) (first_end test n IDS a b e))

-- ---- stage 8

pub behind_unlisted : (e : Entry) → is_listed e ≡ false → false ≡ is_behind e
unfolding is_behind
behind_unlisted e l = rw l

leb_not : (a b : ℕ) → leb a b ≡ not (ltb b a)
leb_not a b = at (dec_le a b)
  where
    at : Dec (a ≤ b) → leb a b ≡ not (ltb b a)
    at (yes h) = rw (le-leb a b h, le-ltb b a h)
    at (no h) = let k : b < a = omega arith in rw (lt-leb a b k, lt-ltb b a k)

pub behind_listed : (e : Entry) → is_listed e ≡ true → leb (WHOLE * e.bound) e.shortfall ≡ is_behind e
unfolding is_behind keeps
behind_listed e l = rw l (leb_not (WHOLE * e.bound) e.shortfall)

-- The test of an id.
abbrev behind_test : List Entry → ℕ → Bool
behind_test es i = is_behind (entry_of es i)

module _ (es : List Entry) (len : length es ≡ IDS) where
  -- What a search for the first entry that is behind tells: it named an id,
  pub behind_here : (i : ℕ) → i < length es → HoldsAt (λ e. is_behind e ≡ true) es i → AllWithin (λ e. is_behind e ≡ false) es 0 i
      → stage_behind es ≡ Refused (refusal BEHIND i)
  unfolding stage_behind behind refused_at
  behind_here i k h n =
      ap (refused_at BEHIND) (some_first (behind_test es) IDS i (omega (arith, len)) (h no_entry) (λ j m. n j no_entry (omega arith) m))

  -- or nobody.
  pub behind_nobody : AllWithin (λ e. is_behind e ≡ false) es 0 (length es) → stage_behind es ≡ Passed
  unfolding stage_behind behind refused_at
  behind_nobody n = ap (refused_at BEHIND) (none_first (behind_test es) IDS (λ j m. n j no_entry (omega arith) (omega (arith, len))))

-- ---- stage 7

pub weight_told : (p w : ℕ) → w ≡ weight_of p → w ≤ WHOLE
weight_told p w h = omega (arith, h, weight_le p)

-- The test of an id.
abbrev pub over_test : List Entry → ℕ → Bool
over_test es i = ltb WHOLE (weight_sum es (suc i))

module _ (es : List Entry) (n : ℕ) (e : first n (over_test es) ≡ none) where
  module _ (s w : ℕ) (p : s ≡ weight_sum es n) (q : w ≡ weight (entry_of es n)) where
    sum_next : s + w ≡ weight_sum es (suc n)
    unfolding weight_sum
    sum_next = ap₂ ◌+◌ p q

    pub over_here : n < IDS → WHOLE < s + w → Refused (refusal OVERFULL n) ≡ stage_overfull es
    unfolding stage_overfull overfull
    over_here l h = named OVERFULL (over_test es) n e l (lt-ltb WHOLE (weight_sum es (suc n)) (omega (arith, sum_next)))

    pub over_next : s + w ≤ WHOLE → (s + w ≡ weight_sum es (n + 1)) × (first (n + 1) (over_test es) ≡ none)
    over_next h =
        (rw add-one sum_next, first_more (over_test es) n e (le-ltb WHOLE (weight_sum es (suc n)) (omega (arith, sum_next))))

  pub over_end : IDS ≤ n → n ≤ IDS → Passed ≡ stage_overfull es
  unfolding stage_overfull overfull
  over_end a b = named_nobody OVERFULL (over_test es) n e a b
