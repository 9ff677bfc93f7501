-- docs/RULES.md 6.1 to 6.6: reading a request, left to right. Reading knows nothing of the timetable.
use Rattle.std.specs.declared.result.Result.{Result}
use Rattle.std.specs.Prelude.{eqb, leb, ltb, get_or, length, replicate, set, Bool, true, false, cond, ◌&&◌, List, ℕ, zero, suc, ◌+◌, ◌*◌, ◌^◌, Ok, Err}
use Rattle.records.specs.declared.Ask.{Ask}
use Rattle.records.specs.declared.Listed.{Listed}
use Rattle.numbers.specs.declared.Refusal.{Refusal}
use Rattle.numbers.specs.Numbers.{BAD_FIELD, OUT_OF_RANGE, NOT_RISING, refusal}
use Rattle.records.specs.declared.Request.{Request}
use Rattle.slots.specs.Clocks.{core_slot}
use Rattle.slots.specs.declared.CoreSlot.{CoreSlot}
use Rattle.slots.specs.Limits.{IDS, LAST_SLOT, LONGEST, LARGEST_K}
use Rattle.timetable.specs.Sound.{is_bound}

-- What reading gives: what was read, or the first refusal.
abbrev pub Reading : Type 0 → Type 0
Reading A = Result A Refusal

-- The number that the n bytes from a place write, big-endian.
unfoldable pub number_at : List ℕ → ℕ → ℕ → ℕ
number_at s from zero = 0
number_at s from (suc n) = 256 * number_at s from n + get_or s (from + n) 0

-- The length that the field at a place states: the two bytes after its tag.
unfoldable pub length_at : List ℕ → ℕ → ℕ
length_at s at = number_at s (at + 1) 2

-- Byte n of the content of the field at a place.
unfoldable pub content_at : List ℕ → ℕ → ℕ → ℕ
content_at s at n = get_or s (at + 3 + n) 0

-- At the place stands a field of this tag and length, not cut off.
unfoldable pub is_field : List ℕ → ℕ → ℕ → ℕ → Bool
is_field s at tag size =
    leb (at + 3 + size) (length s) && eqb (get_or s at 0) tag && eqb (length_at s at) size

-- A field of this tag and length that holds a number, at most `most`.
unfoldable pub number_field : List ℕ → ℕ → ℕ → ℕ → ℕ → Reading ℕ
number_field s at tag size most =
    cond (is_field s at tag size)
    (cond (leb (number_at s (at + 3) size) most) (Ok (number_at s (at + 3) size)) (Err (refusal OUT_OF_RANGE at)))
    (Err (refusal BAD_FIELD at))

-- An id from 0 to 31 and a k from 0 to 8.
unfoldable pub is_listing : List ℕ → ℕ → Bool
is_listing s at = ltb (content_at s at 0) IDS && leb (content_at s at 1) LARGEST_K

-- What the field at a place lists, its bound given or 0 for a short field, unless its id is not above the one before, below `floor`.
unfoldable pub listed_as : List ℕ → ℕ → ℕ → ℕ → ℕ → Reading Listed
listed_as s at floor bound next =
    cond (leb floor (content_at s at 0))
    (Ok (record { id = content_at s at 0; ask = record { period = 2 ^ content_at s at 1; bound = bound }; next = next }))
    (Err (refusal NOT_RISING at))

-- Tag 3, length 3 (id, k, R) or length 2 (id, k).
unfoldable pub listed_field : List ℕ → ℕ → ℕ → Reading Listed
listed_field s at floor =
    cond (is_field s at 3 3)
    (cond (is_listing s at && is_bound (content_at s at 2))
    (listed_as s at floor (content_at s at 2) (at + 6))
    (Err (refusal OUT_OF_RANGE at)))
    (cond (is_field s at 3 2)
    (cond (is_listing s at) (listed_as s at floor 0 (at + 5)) (Err (refusal OUT_OF_RANGE at)))
    (Err (refusal BAD_FIELD at)))

-- What is asked for an id that is not listed.
abbrev pub no_ask : Ask
no_ask = record { period = 0; bound = 0 }

-- Helper of start_entries: what a request asks for id i.
abbrev pub ask_of : List Ask → ℕ → Ask
ask_of asks i = get_or asks i no_ask

-- An id is listed in a request if it asks a period for it.
abbrev pub is_asked : Ask → Bool
is_asked a = ltb 0 a.period

-- Helper of read_request: a listing that asks for nothing.
abbrev pub no_asks : List Ask
no_asks = replicate IDS no_ask

-- The tag 3 fields from a place up to an end, ids from `floor` on. (At most `most` of them: as many as bytes stand before the end are enough.)
unfoldable pub read_listing : ℕ → List ℕ → ℕ → ℕ → ℕ → List Ask → Reading (List Ask)
read_listing zero s end at floor asks = Ok asks
read_listing (suc most) s end at floor asks =
    elim (leb end at) [
      | true ↦ Ok asks
      | false ↦
          elim (listed_field s at floor) [ Ok l ↦ read_listing most s end l.next (suc l.id) (set asks l.id l.ask) | Err r ↦ Err r ]
    ]

-- A request as it was read.
abbrev pub ReadRequest : Type 0
ReadRequest = Reading Request

-- What a request asks, as it was read: a refused one asks for nothing.
unfoldable pub requested : ReadRequest → Request
requested (Ok q) = q
requested (Err r) = record { slot = core_slot 0; limit = 0; asks = no_asks }

-- Helper of read_request: the request slot and T with the listing that was read, or its refusal.
unfoldable pub with_listing : CoreSlot → ℕ → Reading (List Ask) → ReadRequest
with_listing slot limit (Ok asks) = Ok (record { slot = slot; limit = limit; asks = asks })
with_listing slot limit (Err r) = Err r

-- Tag 1, length 8: the request slot, at most 2^48 - 1.
abbrev pub slot_field : List ℕ → ℕ → Reading ℕ
slot_field s at = number_field s at 1 8 LAST_SLOT

-- Tag 2, length 1: T, 0 to 64.
abbrev pub limit_field : List ℕ → ℕ → Reading ℕ
limit_field s at = number_field s at 2 1 LONGEST

-- Request, in this order, nothing after: the request slot, T, the tag 3 fields up to the record's end.
unfoldable pub read_request : List ℕ → ReadRequest
read_request s =
    elim (slot_field s 0) [
      | Ok slot ↦
          elim (limit_field s 11) [
            | Ok limit ↦ with_listing (core_slot slot) limit (read_listing (length s) s (length s) 15 0 no_asks)
            | Err r ↦ Err r
          ]
      | Err r ↦ Err r
    ]
