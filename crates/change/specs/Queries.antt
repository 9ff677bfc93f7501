-- docs/RULES.md 8: the owner query and the standing query.
use Rattle.std.specs.Prelude.{leb, ltb, cond, not, ℕ}
use Rattle.change.specs.declared.OwnerAnswer.{OwnerAnswer}
use Rattle.change.specs.declared.StandingAnswer.{StandingAnswer}
use Rattle.numbers.specs.Numbers.{ACCEPTED, NOT_SOUND, OUT_OF_RANGE, TOO_EARLY, NOT_LISTED}
use Rattle.slots.specs.Clocks.{slice_count}
use Rattle.slots.specs.declared.CoreSlot.{CoreSlot}
use Rattle.slots.specs.Limits.{IDS, LAST_SLOT}
use Rattle.timetable.specs.declared.Timetable.{Timetable}
use Rattle.timetable.specs.Owner.{owner_number}
use Rattle.timetable.specs.Sound.{is_sound}
use Rattle.timetable.specs.Timetable.{lists, owner_at, shortfall_at, slices_at}

-- A refused owner query returns zeros beside its number.
abbrev pub refuse_owner : ℕ → OwnerAnswer
refuse_owner number = record { number = number; place = 0; owner = 0 }

-- Owner query (slot): refuses 1, then 4 (slot above the limit), then 6 (slot before the last accepted request slot).
unfoldable pub owner_query : Timetable → CoreSlot → OwnerAnswer
owner_query t slot =
    cond (not (is_sound t)) (refuse_owner NOT_SOUND)
    (cond (ltb LAST_SLOT slot.0) (refuse_owner OUT_OF_RANGE)
    (cond (ltb slot.0 t.request.0) (refuse_owner TOO_EARLY)
    (record { number = ACCEPTED; place = 0; owner = owner_number (owner_at t slot) })))

-- A refused standing query returns zeros beside its number.
abbrev pub refuse_standing : ℕ → StandingAnswer
refuse_standing number = record { number = number; place = 0; shortfall = 0; slices = slice_count 0 }

-- The standing of id i at a slot: the shortfall at the slot's start and the slices had from the request slot up to there.
unfoldable pub standing : Timetable → ℕ → CoreSlot → StandingAnswer
standing t i slot = record {
  number = ACCEPTED;
  place = 0;
  shortfall = shortfall_at t i slot;
  slices = slices_at t i slot;
}

-- Standing query (id, slot): refuses 1, 4 (id or slot), 6 (slot before the last accepted request slot), 10.
unfoldable pub standing_query : Timetable → ℕ → CoreSlot → StandingAnswer
standing_query t i slot =
    cond (not (is_sound t)) (refuse_standing NOT_SOUND)
    (cond (leb IDS i) (refuse_standing OUT_OF_RANGE)
    (cond (ltb LAST_SLOT slot.0) (refuse_standing OUT_OF_RANGE)
    (cond (ltb slot.0 t.request.0) (refuse_standing TOO_EARLY)
    (cond (not (lists t i)) (refuse_standing NOT_LISTED) (standing t i slot)))))
