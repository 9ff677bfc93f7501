-- Every request gets what the stages say, and nothing else: each stage gives the verdict of its statement, and the chain does the rest. Assumes nothing.
use borrow.Author.Tests.{lt-ltb, le-ltb, ltb-true, ltb-false, not-true}
use lib.Dec.{ltb}
use mathlib.Core.Bool.{Bool, true, false, not, ◌&&◌}
use mathlib.Core.List.{List}
use mathlib.Core.Option.{Option, none, some}
use mathlib.Core.Path.{◌≡◌, refl, ap, ap₂}
use native.Mathlib.Decide.{dec_lt}
use native.Mathlib.Omega.{arith}
use Prim.Native.Nat.{ℕ, suc, ◌*◌, ◌<◌}
use Rattle.std.specs.Prelude.{Ok, Err, is_ok}
use Rattle.records.proofs.ReadSteps.{read_requested}
use Rattle.records.specs.Request.{ReadRequest, requested}
use Rattle.change.specs.Refused.{SoundStage, not_sound, sound, AreaStage, small_area, enough, FieldStage, bad_field, whole, EarlyStage, too_early, in_time}
use Rattle.change.specs.Refused.{WeightStage, overfull, fits, Behind, BehindStage, behind, keep_up, FirstStages, ListedStages, StagesSay}
use Rattle.change.specs.Stages as Stages
use Rattle.change.specs.Stages.{start_entries, weight_sum, is_behind, stage_sound, stage_area, stage_fields, stage_early, stage_overfull, stage_behind, stages_first, stages_listed, verdict_before}
use Rattle.numbers.proofs.ChainLaws.{Tells, tells_from, stage_tells, last_tells, chains_tell}
use Rattle.numbers.specs.Chain.{refused_at, first_of}
use Rattle.numbers.specs.Chain.{Verdict}
use Rattle.numbers.specs.Chain.{Passed, Refused}
use Rattle.numbers.specs.Numbers.{NOT_SOUND, SMALL_AREA, TOO_EARLY, OVERFULL, BEHIND, refusal}
use Rattle.records.specs.declared.Request.{Request}
use Rattle.slots.proofs.Below.{and_both, first_none, first_some, none_first, some_first, true_false}
use Rattle.slots.specs.Limits.{IDS, WHOLE, AREA}
use Rattle.slots.specs.Shortfall.{keeps}
use Rattle.timetable.specs.declared.Entry.{Entry}
use Rattle.timetable.specs.declared.Timetable.{Timetable}
use Rattle.timetable.specs.Sound.{is_sound}
use Rattle.timetable.specs.Timetable.{entry_of, is_listed}

module _ (t : Timetable) where
  -- 1
  sound_is : (v : Verdict) → SoundStage t v → stage_sound t ≡ v
  unfolding stage_sound
  sound_is v (not_sound e) = rw e
  sound_is v (sound e) = rw e

  sound_tells : Tells (SoundStage t) (stage_sound t)
  sound_tells = tells_from (SoundStage t) (stage_sound t) sound_is (at (is_sound t) refl)
    where
      at : (b : Bool) → is_sound t ≡ b → (v : Verdict) × SoundStage t v
      at true e = (Passed, sound e)
      at false e = (Refused (refusal NOT_SOUND 0), not_sound e)

module _ (area : ℕ) where
  -- 2
  area_is : (v : Verdict) → AreaStage area v → stage_area area ≡ v
  unfolding stage_area
  area_is v (small_area l) = rw (lt-ltb area AREA l)
  area_is v (enough l) = rw (le-ltb area AREA l)

  area_tells : Tells (AreaStage area) (stage_area area)
  area_tells = tells_from (AreaStage area) (stage_area area) area_is (at (dec_lt area AREA))
    where
      at : Dec (area < AREA) → (v : Verdict) × AreaStage area v
      at (yes l) = (Refused (refusal SMALL_AREA 0), small_area l)
      at (no l) = (Passed, enough (omega arith))

module _ (read : ReadRequest) where
  -- 3, 4 and 5
  fields_is : (v : Verdict) → FieldStage read v → stage_fields read ≡ v
  unfolding stage_fields
  fields_is v (bad_field r e) = rw e
  fields_is v (whole e) = rw (read_requested read e)

  fields_tell : Tells (FieldStage read) (stage_fields read)
  fields_tell = tells_from (FieldStage read) (stage_fields read) fields_is (at read refl)
    where
      at : (x : ReadRequest) → read ≡ x → (v : Verdict) × FieldStage read v
      at (Ok q) e = (Passed, whole (ap (λ (y : ReadRequest). is_ok y) e))
      at (Err r) e = (Refused r, bad_field r e)

module _ (t : Timetable) (q : Request) where
  -- 6
  early_is : (v : Verdict) → EarlyStage t q v → stage_early t q ≡ v
  unfolding stage_early
  early_is v (too_early l) = rw (lt-ltb q.slot.0 t.base.0 l)
  early_is v (in_time l) = rw (le-ltb q.slot.0 t.base.0 l)

  early_tells : Tells (EarlyStage t q) (stage_early t q)
  early_tells = tells_from (EarlyStage t q) (stage_early t q) early_is (at (dec_lt q.slot.0 t.base.0))
    where
      at : Dec (q.slot.0 < t.base.0) → (v : Verdict) × EarlyStage t q v
      at (yes l) = (Refused (refusal TOO_EARLY 0), too_early l)
      at (no l) = (Passed, in_time (omega arith))

module _ (es : List Entry) where
  -- 7
  weights_are : (v : Verdict) → WeightStage es v → stage_overfull es ≡ v
  unfolding stage_overfull Stages.overfull refused_at
  weights_are v (overfull i k p q) =
      ap (refused_at OVERFULL) (some_first (λ i. ltb WHOLE (weight_sum es (suc i))) IDS i k (lt-ltb WHOLE (weight_sum es (suc i)) p)
      (λ j m. le-ltb WHOLE (weight_sum es (suc j)) (q j m)))
  weights_are v (fits f) = ap (refused_at OVERFULL) (none_first (λ i. ltb WHOLE (weight_sum es (suc i))) IDS (λ i k. le-ltb WHOLE (weight_sum es (suc i)) (f i k)))

  weights_tell : Tells (WeightStage es) (stage_overfull es)
  unfolding Stages.overfull
  weights_tell = tells_from (WeightStage es) (stage_overfull es) weights_are (at (Stages.overfull es) refl)
    where
      at : (o : Option ℕ) → Stages.overfull es ≡ o → (v : Verdict) × WeightStage es v
      at none e = (Passed, fits (λ i k. ltb-false _ _ (first_none _ IDS e i k)))
      at (some i) e =
          let k = first_some _ IDS i e in
          (Refused (refusal OVERFULL i), overfull i k.0 (ltb-true _ _ k.1) (λ j m. ltb-false _ _ (k.2 j m)))

-- An entry's test says whether it is behind.
behind_from : (e : Entry) → is_behind e ≡ true → Behind e
unfolding is_behind keeps
behind_from e h =
    let k = and_both (is_listed e) (not (ltb e.shortfall (WHOLE * e.bound))) h in
    (k.0, ltb-false e.shortfall (WHOLE * e.bound) (not-true _ k.1))

behind_true : (e : Entry) → Behind e → is_behind e ≡ true
unfolding is_behind keeps
behind_true e h = ap₂ (λ (a b : Bool). a && not b) h.0 (le-ltb e.shortfall (WHOLE * e.bound) h.1)

behind_false : (e : Entry) → (Behind e → ⊥) → is_behind e ≡ false
behind_false e n = at (is_behind e) refl
  where
    at : (b : Bool) → is_behind e ≡ b → b ≡ false
    at true h = absurd (n (behind_from e h))
    at false h = refl

not_behind : (e : Entry) → is_behind e ≡ false → Behind e → ⊥
not_behind e h b = true_false (behind_true e b) h

module _ (es : List Entry) where
  -- 8
  behind_is : (v : Verdict) → BehindStage es v → stage_behind es ≡ v
  unfolding stage_behind Stages.behind refused_at
  behind_is v (behind i k p q) =
      ap (refused_at BEHIND) (some_first (λ i. is_behind (entry_of es i)) IDS i k (behind_true _ p) (λ j m. behind_false _ (q j m)))
  behind_is v (keep_up n) = ap (refused_at BEHIND) (none_first (λ i. is_behind (entry_of es i)) IDS (λ i k. behind_false _ (n i k)))

  behind_tells : Tells (BehindStage es) (stage_behind es)
  unfolding Stages.behind
  behind_tells = tells_from (BehindStage es) (stage_behind es) behind_is (at (Stages.behind es) refl)
    where
      at : (o : Option ℕ) → Stages.behind es ≡ o → (v : Verdict) × BehindStage es v
      at none e = (Passed, keep_up (λ i k. not_behind _ (first_none _ IDS e i k)))
      at (some i) e =
          let k = first_some _ IDS i e in
          (Refused (refusal BEHIND i), behind i k.0 (behind_from _ k.1) (λ j m. not_behind _ (k.2 j m)))

-- The stages that need no entries.
pub first_tells : (t : Timetable) (read : ReadRequest) (area : ℕ) → Tells (FirstStages t read area) (first_of (stages_first t read area))
unfolding stages_first
first_tells t read area =
    stage_tells _ _ _ _ (sound_tells t)
    (stage_tells _ _ _ _ (area_tells area) (stage_tells _ _ _ _ (fields_tell read) (last_tells _ _ (early_tells t (requested read)))))

-- The stages after them.
listed_tells : (es : List Entry) → Tells (ListedStages es) (first_of (stages_listed es))
unfolding stages_listed
listed_tells es = stage_tells _ _ _ _ (weights_tell es) (last_tells _ _ (behind_tells es))

-- What a request gets before the search is what the stages say.
pub stages : (t : Timetable) (read : ReadRequest) (area : ℕ) → Tells (StagesSay t read area) (verdict_before t read area)
unfolding verdict_before
stages t read area = chains_tell _ _ _ _ (first_tells t read area) (listed_tells (start_entries t (requested read).slot (requested read).asks))
