-- docs/RULES.md 8: what each query gets, number by number in their order. A refused query returns zeros beside its number.
use Rattle.std.specs.Prelude.{true, false, ◌≡◌, ℕ, ◌≤◌, ◌<◌}
use Rattle.change.specs.declared.OwnerAnswer.{OwnerAnswer}
use Rattle.change.specs.declared.StandingAnswer.{StandingAnswer}
use Rattle.numbers.specs.Numbers.{ACCEPTED, NOT_SOUND, OUT_OF_RANGE, TOO_EARLY, NOT_LISTED}
use Rattle.slots.specs.Clocks.{slice_count}
use Rattle.slots.specs.declared.CoreSlot.{CoreSlot}
use Rattle.slots.specs.declared.SliceCount.{SliceCount}
use Rattle.slots.specs.Limits.{IDLE, IDS, LAST_SLOT}
use Rattle.timetable.specs.declared.Timetable.{Timetable}
use Rattle.timetable.specs.Sound.{is_sound}
use Rattle.timetable.specs.Timetable.{lists, serves, shortfall_at, slices_at}

-- An owner query's answer.
abbrev pub owner_answer : ℕ → ℕ → OwnerAnswer
owner_answer number owner = record { number = number; place = 0; owner = owner }

-- What the owner query gets for a slot: 1, 4 above the limit, 6 before the last accepted request slot; or the id that the slot serves, 255 where it serves none.
pub data OwnerGiven (t : Timetable) (x : CoreSlot) : OwnerAnswer → Type 0 where
  not_sound : is_sound t ≡ false → OwnerGiven t x (owner_answer NOT_SOUND 0)
  high : is_sound t ≡ true → LAST_SLOT < x.0 → OwnerGiven t x (owner_answer OUT_OF_RANGE 0)
  early : is_sound t ≡ true → x.0 ≤ LAST_SLOT → x.0 < t.request.0 → OwnerGiven t x (owner_answer TOO_EARLY 0)
  owned : is_sound t ≡ true → x.0 ≤ LAST_SLOT → t.request.0 ≤ x.0 → (i : ℕ) → i < IDS → serves t x i ≡ true → OwnerGiven t x (owner_answer ACCEPTED i)
  idle : is_sound t ≡ true → x.0 ≤ LAST_SLOT → t.request.0 ≤ x.0 → ((i : ℕ) → i < IDS → serves t x i ≡ false) → OwnerGiven t x (owner_answer ACCEPTED IDLE)

-- A standing query's answer.
abbrev pub standing_answer : ℕ → ℕ → SliceCount → StandingAnswer
standing_answer number shortfall slices = record { number = number; place = 0; shortfall = shortfall; slices = slices }

-- What the standing query gets for an id and a slot: 1, 4 for the id or the slot, 6 before the last accepted request slot, 10; or the shortfall and the slices.
pub data StandingGiven (t : Timetable) (i : ℕ) (x : CoreSlot) : StandingAnswer → Type 0 where
  not_sound : is_sound t ≡ false → StandingGiven t i x (standing_answer NOT_SOUND 0 (slice_count 0))
  high_id : is_sound t ≡ true → IDS ≤ i → StandingGiven t i x (standing_answer OUT_OF_RANGE 0 (slice_count 0))
  high_slot : is_sound t ≡ true → i < IDS → LAST_SLOT < x.0 → StandingGiven t i x (standing_answer OUT_OF_RANGE 0 (slice_count 0))
  early : is_sound t ≡ true → i < IDS → x.0 ≤ LAST_SLOT → x.0 < t.request.0 → StandingGiven t i x (standing_answer TOO_EARLY 0 (slice_count 0))
  unlisted : is_sound t ≡ true → i < IDS → x.0 ≤ LAST_SLOT → t.request.0 ≤ x.0 → lists t i ≡ false
      → StandingGiven t i x (standing_answer NOT_LISTED 0 (slice_count 0))
  stands : is_sound t ≡ true → i < IDS → x.0 ≤ LAST_SLOT → t.request.0 ≤ x.0 → lists t i ≡ true
      → StandingGiven t i x (standing_answer ACCEPTED (shortfall_at t i x) (slices_at t i x))
