-- docs/RULES.md 7.1 and 7.2: when each number is given before the search, and with which place. The lowest stage wins.
use Rattle.records.specs.Request.{ReadRequest, requested}
use Rattle.std.specs.Prelude.{true, false, List, ◌≡◌, ℕ, suc, ◌*◌, ◌≤◌, ◌<◌, IsOk, Err}
use Rattle.change.specs.Stages.{start_entries, weight_sum}
use Rattle.numbers.specs.Chain.{Then}
use Rattle.numbers.specs.declared.Refusal.{Refusal}
use Rattle.numbers.specs.Chain.{Verdict}
use Rattle.numbers.specs.Chain.{Passed, Refused}
use Rattle.numbers.specs.Numbers.{NOT_SOUND, SMALL_AREA, TOO_EARLY, OVERFULL, BEHIND}
use Rattle.records.specs.declared.Request.{Request}
use Rattle.slots.specs.Limits.{IDS, WHOLE, AREA}
use Rattle.timetable.specs.declared.Entry.{Entry}
use Rattle.timetable.specs.declared.Timetable.{Timetable}
use Rattle.timetable.specs.Sound.{is_sound}
use Rattle.timetable.specs.Timetable.{entry_of, is_listed}

-- 1, place 0: timetable not sound.
pub data SoundStage (t : Timetable) : Verdict → Type 0 where
  not_sound : is_sound t ≡ false → SoundStage t (Refused (record { number = NOT_SOUND; place = 0 }))
  sound : is_sound t ≡ true → SoundStage t Passed

-- 2, place 0: answer area under 231 bytes.
pub data AreaStage (area : ℕ) : Verdict → Type 0 where
  small_area : area < AREA → AreaStage area (Refused (record { number = SMALL_AREA; place = 0 }))
  enough : AREA ≤ area → AreaStage area Passed

-- 3, 4 or 5, with the place of its field: the first field that is refused.
pub data FieldStage (read : ReadRequest) : Verdict → Type 0 where
  bad_field : (r : Refusal) → read ≡ Err r → FieldStage read (Refused r)
  whole : IsOk read → FieldStage read Passed

-- 6, place 0: the slot is before the base.
pub data EarlyStage (t : Timetable) (q : Request) : Verdict → Type 0 where
  too_early : q.slot.0 < t.base.0 → EarlyStage t q (Refused (record { number = TOO_EARLY; place = 0 }))
  in_time : t.base.0 ≤ q.slot.0 → EarlyStage t q Passed

-- 7, place the id at which the running sum of the weights, ids rising, first passes 256.
pub data WeightStage (es : List Entry) : Verdict → Type 0 where
  overfull : (i : ℕ) → i < IDS → WHOLE < weight_sum es (suc i) → ((j : ℕ) → j < i → weight_sum es (suc j) ≤ WHOLE)
      → WeightStage es (Refused (record { number = OVERFULL; place = i }))
  fits : ((i : ℕ) → i < IDS → weight_sum es (suc i) ≤ WHOLE) → WeightStage es Passed

-- A listed entry whose shortfall is not below 256 R.
abbrev pub Behind : Entry → Type 0
Behind e = (is_listed e ≡ true) × (WHOLE * e.bound ≤ e.shortfall)

-- 8, place the lowest id whose shortfall at the request slot is not below 256 x new R.
pub data BehindStage (es : List Entry) : Verdict → Type 0 where
  behind : (i : ℕ) → i < IDS → Behind (entry_of es i) → ((j : ℕ) → j < i → Behind (entry_of es j) → ⊥)
      → BehindStage es (Refused (record { number = BEHIND; place = i }))
  keep_up : ((i : ℕ) → i < IDS → Behind (entry_of es i) → ⊥) → BehindStage es Passed

-- The stages that need no entries, in their order.
abbrev pub FirstStages : Timetable → ReadRequest → ℕ → Verdict → Type 0
FirstStages t read area = Then (SoundStage t) (Then (AreaStage area) (Then (FieldStage read) (EarlyStage t (requested read))))

-- The stages after them, over the entries at the request slot.
abbrev pub ListedStages : List Entry → Verdict → Type 0
ListedStages es = Then (WeightStage es) (BehindStage es)

-- What a request, as it was read, gets before the search.
abbrev pub StagesSay : Timetable → ReadRequest → ℕ → Verdict → Type 0
StagesSay t read area = Then (FirstStages t read area) (ListedStages (start_entries t (requested read).slot (requested read).asks))
