-- docs/RULES.md 3.1 to 3.3 and 3.15: what a timetable holds, whom a slot serves, and each id's shortfall and slices from the request slot on.
use Rattle.std.specs.Prelude.{eqb, ltb, get_or, replicate, set, Bool, cond, ◌&&◌, List, ℕ, zero, suc, ◌+◌, ◌-◌, ◌%◌}
use Rattle.std.proofs.Math.Option.{Option}
use Rattle.slots.specs.Below.{first, count}
use Rattle.slots.specs.Clocks.{core_slot, slice_count}
use Rattle.slots.specs.declared.CoreSlot.{CoreSlot}
use Rattle.slots.specs.declared.SliceCount.{SliceCount}
use Rattle.slots.specs.Limits.{IDS, LONGEST}
use Rattle.slots.specs.Shortfall.{weight_of, over_slot, room_of, last_offset_of}
use Rattle.slots.specs.Slots.{one}
use Rattle.timetable.specs.declared.Entry.{Entry}
use Rattle.timetable.specs.declared.Timetable.{Timetable}

-- The entry of an id that is not listed: all zero but for its shortfall.
abbrev pub absent_entry : ℕ → Entry
absent_entry s = record { period = 0; offset = 0; bound = 0; shortfall = s }

-- The entry of an id that was never listed: all zero.
abbrev pub no_entry : Entry
no_entry = absent_entry 0

-- The empty timetable has request slot 0, length 0, nothing listed and every shortfall 0.
abbrev pub empty_timetable : Timetable
empty_timetable = record {
  request = core_slot 0;
  length = 0;
  owners = replicate LONGEST 0;
  base = core_slot 0;
  entries = replicate IDS no_entry;
  starts = replicate IDS 0;
}

-- The entry of id i.
abbrev pub entry_of : List Entry → ℕ → Entry
entry_of entries i = get_or entries i no_entry

-- The start of id i: its shortfall at the request slot.
abbrev pub start_of : Timetable → ℕ → ℕ
start_of t i = get_or t.starts i 0

-- Helper of start_entries: f put in the place of each of the first n entries, by its id and the entry.
unfoldable pub each : (ℕ → Entry → Entry) → ℕ → List Entry → List Entry
each f zero entries = entries
each f (suc n) entries = set (each f n entries) n (f n (entry_of entries n))

-- Helper of settle: an entry with another offset.
abbrev pub with_offset : ℕ → Entry → Entry
with_offset o e = record { period = e.period; offset = o; bound = e.bound; shortfall = e.shortfall }

-- Helper of over_all: an entry with another shortfall.
abbrev pub with_shortfall : ℕ → Entry → Entry
with_shortfall s e = record { period = e.period; offset = e.offset; bound = e.bound; shortfall = s }

-- An entry is listed if it has a period.
abbrev pub is_listed : Entry → Bool
is_listed e = ltb 0 e.period

-- Its weight.
abbrev pub weight : Entry → ℕ
weight e = weight_of e.period

-- Its room.
abbrev pub room : Entry → ℕ
room e = room_of e.period e.bound e.shortfall

-- Its last offset.
abbrev pub last_offset : Entry → ℕ
last_offset e = last_offset_of e.period e.bound e.shortfall

-- Whether a timetable lists id i.
abbrev pub lists : Timetable → ℕ → Bool
lists t i = is_listed (entry_of t.entries i)

-- A listed partition has the slots base + offset + a multiple of its period: here the slot n slots after the base.
unfoldable pub cyclic : Entry → ℕ → Bool
cyclic e n = is_listed e && eqb (n % e.period) e.offset

-- The transition slot x is the owner's that stands for it; from the base on a partition owns its cyclic slots.
unfoldable pub serves : Timetable → CoreSlot → ℕ → Bool
serves t x i =
    cond (ltb x.0 t.base.0)
    (eqb i (get_or t.owners (x.0 - t.request.0) 0))
    (cyclic (entry_of t.entries i) (x.0 - t.base.0))

-- The owner of slot x, from the request slot on: the id that it serves, or none.
unfoldable pub owner_at : Timetable → CoreSlot → Option ℕ
owner_at t x = first IDS (serves t x)

-- The shortfall of an entry n slots after the base: the one at the base, taken over each of the n slots.
unfoldable pub shortfall_after : Entry → ℕ → ℕ
shortfall_after e zero = e.shortfall
shortfall_after e (suc n) = over_slot (cyclic e n) (weight e) (shortfall_after e n)

-- The slices that an entry has had in the n slots from the base.
unfoldable pub slices_after : Entry → ℕ → ℕ
slices_after e zero = 0
slices_after e (suc n) = slices_after e n + one (cyclic e n)

-- The shortfall of id i n slots after the request slot: its start, taken over each of the n slots.
unfoldable pub shortfall_since : Timetable → ℕ → ℕ → ℕ
shortfall_since t i zero = start_of t i
shortfall_since t i (suc n) =
    over_slot (serves t (core_slot (t.request.0 + n)) i) (weight (entry_of t.entries i)) (shortfall_since t i n)

-- The shortfall of id i at the start of slot x, from the request slot on.
unfoldable pub shortfall_at : Timetable → ℕ → CoreSlot → ℕ
shortfall_at t i x = shortfall_since t i (x.0 - t.request.0)

-- The slices that id i has had from the request slot up to the start of slot x: how many of these slots serve it.
unfoldable pub slices_at : Timetable → ℕ → CoreSlot → SliceCount
slices_at t i x = slice_count (count (x.0 - t.request.0) (λ n. serves t (core_slot (t.request.0 + n)) i))

-- The shortfall of id i, at a weight, after n transition slots of these owners, from its shortfall at the request slot.
unfoldable pub transition_shortfall : List ℕ → ℕ → ℕ → ℕ → ℕ → ℕ
transition_shortfall owners i weight start zero = start
transition_shortfall owners i weight start (suc n) =
    over_slot (eqb i (get_or owners n 0)) weight (transition_shortfall owners i weight start n)
