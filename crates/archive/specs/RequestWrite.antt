-- docs/RULES.md 6.11 and 6.12: the writer of requests.
use Rattle.std.specs.Prelude.{leb, ltb, get_or, length, set, Bool, cond, ◌&&◌, List, ℕ, zero, suc, ◌+◌, ◌*◌, ◌^◌, Ok, Err, is_ok}
use Rattle.std.proofs.lemmas.List.Edits.{sets}
use Rattle.numbers.specs.Numbers.{SMALL_AREA, OUT_OF_RANGE, NOT_RISING, refusal}
use Rattle.records.specs.declared.Ask.{Ask}
use Rattle.records.specs.Request.{no_asks, requested, with_listing, ReadRequest, Reading}
use Rattle.records.specs.Written.{request_record}
use Rattle.slots.specs.declared.CoreSlot.{CoreSlot}
use Rattle.slots.specs.Limits.{IDS, LARGEST_K, LAST_SLOT, LONGEST}
use Rattle.timetable.specs.Sound.{is_bound}

-- A listing has three bytes an entry. The id of entry n.
abbrev pub id_of : List ℕ → ℕ → ℕ
id_of listing n = get_or listing (3 * n) 0

-- The k of entry n.
abbrev pub k_of : List ℕ → ℕ → ℕ
k_of listing n = get_or listing (3 * n + 1) 0

-- The R of entry n.
abbrev pub bound_of : List ℕ → ℕ → ℕ
bound_of listing n = get_or listing (3 * n + 2) 0

-- What entry n asks for its id: the period 2^k, and the bound R.
abbrev pub ask_at : List ℕ → ℕ → Ask
ask_at listing n = record { period = 2 ^ k_of listing n; bound = bound_of listing n }

-- Entry n is not cut short, and its id, k and R are in range.
unfoldable pub is_entry : List ℕ → ℕ → Bool
is_entry listing n =
    leb (3 * n + 3) (length listing) && ltb (id_of listing n) IDS && leb (k_of listing n) LARGEST_K && is_bound (bound_of listing n)

-- The entries from entry n on, ids from `floor` on: each is taken or refused at once, 4 or else 5, place its index. (At most `most`: as many as bytes are enough.)
unfoldable pub take_entries : ℕ → List ℕ → ℕ → ℕ → List Ask → Reading (List Ask)
take_entries zero listing n floor asks = Ok asks
take_entries (suc most) listing n floor asks =
    cond (leb (length listing) (3 * n)) (Ok asks)
    (cond (is_entry listing n)
    (cond (leb floor (id_of listing n))
    (take_entries most listing (suc n) (suc (id_of listing n)) (set asks (id_of listing n) (ask_at listing n)))
    (Err (refusal NOT_RISING n)))
    (Err (refusal OUT_OF_RANGE n)))

-- The place told where the slot is out of range.
abbrev pub SLOT_PLACE : ℕ
SLOT_PLACE = 64

-- The place told where T is out of range.
abbrev pub LIMIT_PLACE : ℕ
LIMIT_PLACE = 65

-- The request that the writer is handed, or the first refusal: the slot, T, then the listing entry by entry.
unfoldable pub handed_request : CoreSlot → ℕ → List ℕ → ReadRequest
handed_request slot limit listing =
    cond (leb slot.0 LAST_SLOT)
    (cond (leb limit LONGEST)
    (with_listing slot limit (take_entries (length listing) listing 0 0 no_asks))
    (Err (refusal OUT_OF_RANGE LIMIT_PLACE)))
    (Err (refusal OUT_OF_RANGE SLOT_PLACE))

-- Helper of take_entries: that all was read, or the refusal.
abbrev pub checked : {A : Type 0} → Reading A → Reading (Unit {0})
checked (Ok x) = Ok tt
checked (Err r) = Err r

-- Helper of write_request: last comes 2 for an area shorter than the record.
unfoldable pub write_into : ReadRequest → ℕ → Reading ℕ
write_into (Ok q) room = cond (leb (length (request_record q)) room) (Ok (length (request_record q))) (Err (refusal SMALL_AREA 0))
write_into (Err r) room = Err r

-- What writing a request into an area of this many bytes returns: how many bytes are written, or the refusal.
unfoldable pub write_request : CoreSlot → ℕ → List ℕ → ℕ → Reading ℕ
write_request slot limit listing room = write_into (handed_request slot limit listing) room

-- The area afterwards: the record at its start and the bytes after it as they were, or after a refusal every byte as it was.
unfoldable pub area_written : CoreSlot → ℕ → List ℕ → List ℕ → List ℕ
area_written slot limit listing area =
    cond (is_ok (write_request slot limit listing (length area)))
    (sets area 0 (request_record (requested (handed_request slot limit listing)))) area
