-- docs/RULES.md 4.1, 7.1 and 7.2: the stages before the search, in their order. The lowest stage wins.
use Rattle.std.specs.Prelude.{eqb, ltb, replicate, Bool, cond, not, ◌&&◌, List, [], ◌∷◌, ◌++◌, ℕ, zero, suc, ◌+◌, Ok, Err}
use Rattle.std.proofs.Math.Option.{Option}
use Rattle.numbers.specs.Chain.{refused_if, refused_at, first_of}
use Rattle.numbers.specs.Chain.{Verdict}
use Rattle.numbers.specs.Chain.{Passed, Refused}
use Rattle.numbers.specs.Numbers.{NOT_SOUND, SMALL_AREA, TOO_EARLY, OVERFULL, BEHIND}
use Rattle.records.specs.declared.Ask.{Ask}
use Rattle.records.specs.declared.Request.{Request}
use Rattle.records.specs.Request.{ask_of, is_asked, ReadRequest, requested}
use Rattle.slots.specs.Below.{first}
use Rattle.slots.specs.declared.CoreSlot.{CoreSlot}
use Rattle.slots.specs.Limits.{IDS, WHOLE, AREA}
use Rattle.slots.specs.Shortfall.{keeps}
use Rattle.timetable.specs.declared.Entry.{Entry}
use Rattle.timetable.specs.declared.Timetable.{Timetable}
use Rattle.timetable.specs.Sound.{is_sound}
use Rattle.timetable.specs.Timetable.{absent_entry, no_entry, entry_of, is_listed, weight, shortfall_at, each}

-- The R as before: the one with which the timetable lists the id, and 1 for an id that it does not list.
unfoldable pub bound_before : Entry → ℕ
bound_before old = cond (is_listed old) old.bound 1

-- The bound that is asked: the R of the field, or the R as before where the field was short.
unfoldable pub asked_bound : Entry → Ask → ℕ
asked_bound old a = cond (eqb a.bound 0) (bound_before old) a.bound

-- The entry with which an id enters a change, from its start there: the new weight and R are in force from there on; one that is not asked for keeps its
-- shortfall and nothing else.
unfoldable pub entering : Entry → ℕ → Ask → Entry
entering old start ask =
    cond (is_asked ask)
    (record { period = ask.period; offset = 0; bound = asked_bound old ask; shortfall = start })
    (absent_entry start)

-- The entries at the request slot.
unfoldable pub start_entries : Timetable → CoreSlot → List Ask → List Entry
start_entries t slot asks = each (λ i e. entering (entry_of t.entries i) (shortfall_at t i slot) (ask_of asks i)) IDS (replicate IDS no_entry)

-- The running sum of the weights, ids rising: those below n.
unfoldable pub weight_sum : List Entry → ℕ → ℕ
weight_sum es zero = 0
weight_sum es (suc n) = weight_sum es n + weight (entry_of es n)

-- The id at which the running sum first passes 256.
unfoldable pub overfull : List Entry → Option ℕ
overfull es = first IDS (λ i. ltb WHOLE (weight_sum es (suc i)))

-- A listed entry's shortfall is not below 256 R.
unfoldable pub is_behind : Entry → Bool
is_behind e = is_listed e && not (keeps e.bound e.shortfall)

-- The lowest id whose shortfall at the request slot is not below 256 x new R.
unfoldable pub behind : List Entry → Option ℕ
behind es = first IDS (λ i. is_behind (entry_of es i))

-- 1: the timetable is not sound.
unfoldable pub stage_sound : Timetable → Verdict
stage_sound t = refused_if (not (is_sound t)) NOT_SOUND

-- 2: the answer area is under 231 bytes.
unfoldable pub stage_area : ℕ → Verdict
stage_area area = refused_if (ltb area AREA) SMALL_AREA

-- 3, 4 and 5: the fields from left to right, as they were read.
unfoldable pub stage_fields : ReadRequest → Verdict
stage_fields read = elim read [ Ok q ↦ Passed | Err r ↦ Refused r ]

-- 6: the slot is before the base.
unfoldable pub stage_early : Timetable → Request → Verdict
stage_early t r = refused_if (ltb r.slot.0 t.base.0) TOO_EARLY

-- 7: the weights sum above 256.
unfoldable pub stage_overfull : List Entry → Verdict
stage_overfull es = refused_at OVERFULL (overfull es)

-- 8: a shortfall at the request slot is not below 256 x new R.
unfoldable pub stage_behind : List Entry → Verdict
stage_behind es = refused_at BEHIND (behind es)

-- The stages that need no entries, in their order.
unfoldable pub stages_first : Timetable → ReadRequest → ℕ → List Verdict
stages_first t read area = stage_sound t ∷ stage_area area ∷ stage_fields read ∷ stage_early t (requested read) ∷ []

-- The stages after them, over the entries at the request slot.
unfoldable pub stages_listed : List Entry → List Verdict
stages_listed es = stage_overfull es ∷ stage_behind es ∷ []

-- What a request, as it was read, gets before the search.
unfoldable pub verdict_before : Timetable → ReadRequest → ℕ → Verdict
verdict_before t read area = first_of (stages_first t read area ++ stages_listed (start_entries t (requested read).slot (requested read).asks))
