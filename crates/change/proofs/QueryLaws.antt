-- The two queries, by the tests that the code makes, in their order. Assumes nothing.
use borrow.Author.Tests.{lt-ltb, le-ltb, le-leb, lt-leb}
use mathlib.Core.Bool.{true, false}
use mathlib.Core.Logic.{◌⊎◌, inl, inr}
use mathlib.Core.Option.{none, some}
use mathlib.Core.Path.{◌≡◌, ap}
use native.Mathlib.Decide.{dec_lt}
use native.Mathlib.Omega.{arith}
use Prim.Native.Nat.{ℕ, ◌≤◌, ◌<◌}
use Rattle.change.specs.Queries.{refuse_owner, owner_query, refuse_standing, standing, standing_query}
use Rattle.numbers.specs.declared.Refusal.{Refusal}
use Rattle.numbers.specs.Numbers.{ACCEPTED, NOT_SOUND, OUT_OF_RANGE, TOO_EARLY, NOT_LISTED, refusal}
use Rattle.slots.specs.Clocks.{slice_count}
use Rattle.slots.specs.declared.CoreSlot.{CoreSlot}
use Rattle.slots.specs.Limits.{IDLE, IDS, LAST_SLOT}
use Rattle.std.proofs.Common.{Err, MatchOption, None, Ok, Some}
use Rattle.std.specs.declared.option.Option.{Option}
use Rattle.std.specs.declared.result.Result.{Result}
use Rattle.std.specs.Option.{unwrap_or}
use Rattle.timetable.specs.declared.Timetable.{Timetable}
use Rattle.timetable.specs.Owner.{owner_number}
use Rattle.timetable.specs.Sound.{is_sound}
use Rattle.timetable.specs.Timetable.{lists, owner_at}

-- How a slot is refused: above the limit, or before the last accepted request slot.
abbrev SlotRefused : Timetable → CoreSlot → Refusal → Type 0
SlotRefused t slot r = (LAST_SLOT < slot.0) × (r ≡ refusal OUT_OF_RANGE 0) ⊎ (slot.0 ≤ LAST_SLOT) × (slot.0 < t.request.0) × (r ≡ refusal TOO_EARLY 0)

-- What is known of a slot by what its stages gave.
module _ (t : Timetable) (slot : CoreSlot) (result : Result (Unit {0}) Refusal) (high : LAST_SLOT < slot.0 → result ≡ Err (refusal OUT_OF_RANGE 0))
    (early : slot.0 ≤ LAST_SLOT → slot.0 < t.request.0 → result ≡ Err (refusal TOO_EARLY 0))
    (in_time : slot.0 ≤ LAST_SLOT → t.request.0 ≤ slot.0 → result ≡ Ok tt) where
  pub slot_refused : (r : Refusal) → result ≡ Err r → SlotRefused t slot r
  slot_refused r e = at (dec_lt LAST_SLOT slot.0) (dec_lt slot.0 t.request.0)
    where
      at : Dec (LAST_SLOT < slot.0) → Dec (slot.0 < t.request.0) → SlotRefused t slot r
      at (yes h) _ = inl (h, let k = high h in cc)
      at (no h) (yes l) = inr (omega arith, l, let k = early (omega arith) l in cc)
      at (no h) (no l) = absurd (let k = in_time (omega arith) (omega arith) in cc)

  pub slot_passed : (u : Unit {0}) → result ≡ Ok u → (slot.0 ≤ LAST_SLOT) × (t.request.0 ≤ slot.0)
  slot_passed u e = at (dec_lt LAST_SLOT slot.0) (dec_lt slot.0 t.request.0)
    where
      at : Dec (LAST_SLOT < slot.0) → Dec (slot.0 < t.request.0) → (slot.0 ≤ LAST_SLOT) × (t.request.0 ≤ slot.0)
      at (yes h) _ = absurd (let k = high h in cc)
      at (no h) (yes l) = absurd (let k = early (omega arith) l in cc)
      at (no h) (no l) = (omega arith, omega arith)

module _ (t : Timetable) (slot : CoreSlot) where
  pub owner_unsound : is_sound t ≡ false → owner_query t slot ≡ refuse_owner NOT_SOUND
  unfolding owner_query
  owner_unsound s = rw s

  pub owner_high : is_sound t ≡ true → LAST_SLOT < slot.0 → owner_query t slot ≡ refuse_owner OUT_OF_RANGE
  unfolding owner_query
  owner_high s h = rw (s, lt-ltb LAST_SLOT slot.0 h)

  pub owner_early : is_sound t ≡ true → slot.0 ≤ LAST_SLOT → slot.0 < t.request.0 → owner_query t slot ≡ refuse_owner TOO_EARLY
  unfolding owner_query
  owner_early s h e = rw (s, le-ltb LAST_SLOT slot.0 h, lt-ltb slot.0 t.request.0 e)

  pub owner_told : is_sound t ≡ true → slot.0 ≤ LAST_SLOT → t.request.0 ≤ slot.0
      → owner_query t slot ≡ record { number = ACCEPTED; place = 0; owner = owner_number (owner_at t slot) }
  unfolding owner_query
  owner_told s h e = rw (s, le-ltb LAST_SLOT slot.0 h, le-ltb slot.0 t.request.0 e)

  pub owner_slot : is_sound t ≡ true → (r : Refusal) → SlotRefused t slot r → owner_query t slot ≡ record { number = r.number; place = r.place; owner = 0 }
  owner_slot s r (inl h) = rw h.1 (owner_high s h.0)
  owner_slot s r (inr h) = rw h.2 (owner_early s h.0 h.1)

  -- The owner's number, or 255 for idle.
  pub owner_number_is : (o : Option ℕ) → MatchOption o (owner_at t slot ≡ none) (λ i. owner_at t slot ≡ some i) → owner_number (owner_at t slot) ≡ unwrap_or o IDLE
  unfolding owner_number
  owner_number_is None h = ap owner_number h
  owner_number_is (Some i) h = ap owner_number h

  module _ (id : ℕ) where
    pub standing_unsound : is_sound t ≡ false → standing_query t id slot ≡ refuse_standing NOT_SOUND
    unfolding standing_query
    standing_unsound s = rw s

    pub standing_no_id : is_sound t ≡ true → IDS ≤ id → standing_query t id slot ≡ refuse_standing OUT_OF_RANGE
    unfolding standing_query
    standing_no_id s i = rw (s, le-leb IDS id i)

    pub standing_high : is_sound t ≡ true → id < IDS → LAST_SLOT < slot.0 → standing_query t id slot ≡ refuse_standing OUT_OF_RANGE
    unfolding standing_query
    standing_high s i h = rw (s, lt-leb IDS id i, lt-ltb LAST_SLOT slot.0 h)

    pub standing_early : is_sound t ≡ true → id < IDS → slot.0 ≤ LAST_SLOT → slot.0 < t.request.0 → standing_query t id slot ≡ refuse_standing TOO_EARLY
    unfolding standing_query
    standing_early s i h e = rw (s, lt-leb IDS id i, le-ltb LAST_SLOT slot.0 h, lt-ltb slot.0 t.request.0 e)

    pub standing_slot : is_sound t ≡ true → id < IDS → (r : Refusal) → SlotRefused t slot r
        → standing_query t id slot ≡ record { number = r.number; place = r.place; shortfall = 0; slices = slice_count 0 }
    standing_slot s i r (inl h) = rw h.1 (standing_high s i h.0)
    standing_slot s i r (inr h) = rw h.2 (standing_early s i h.0 h.1)

    pub standing_unlisted : is_sound t ≡ true → id < IDS → slot.0 ≤ LAST_SLOT → t.request.0 ≤ slot.0 → lists t id ≡ false
        → standing_query t id slot ≡ refuse_standing NOT_LISTED
    unfolding standing_query
    standing_unlisted s i h e l = rw (s, lt-leb IDS id i, le-ltb LAST_SLOT slot.0 h, le-ltb slot.0 t.request.0 e, l)

    pub standing_told : is_sound t ≡ true → id < IDS → slot.0 ≤ LAST_SLOT → t.request.0 ≤ slot.0 → lists t id ≡ true
        → standing_query t id slot ≡ standing t id slot
    unfolding standing_query
    standing_told s i h e l = rw (s, lt-leb IDS id i, le-ltb LAST_SLOT slot.0 h, le-ltb slot.0 t.request.0 e, l)
