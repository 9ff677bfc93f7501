-- docs/RULES.md 6.11 and 6.12: what the writer of requests gives, case by case and field by field. It says nothing of how it is written.
use Rattle.std.specs.Prelude.{get_or, length, List, [], ◌∷◌, ◌≢◌, ◌≡◌, ℕ, suc, ◌+◌, ◌*◌, ◌≤◌, ◌<◌, Ok, Err}
use Rattle.archive.specs.RequestWrite.{ask_at, bound_of, id_of, k_of}
use Rattle.numbers.specs.declared.Refusal.{Refusal}
use Rattle.numbers.specs.Numbers.{ACCEPTED, SMALL_AREA, OUT_OF_RANGE, NOT_RISING}
use Rattle.records.specs.AnswerForm.{Stand}
use Rattle.records.specs.declared.Ask.{Ask}
use Rattle.records.specs.Request.{ask_of, no_ask, Reading}
use Rattle.records.specs.Written.{number_bytes}
use Rattle.slots.specs.declared.CoreSlot.{CoreSlot}
use Rattle.slots.specs.Limits.{IDS, LARGEST_BOUND, LARGEST_K, LAST_SLOT, LONGEST}

-- Entry n is not cut short, and its id, k and R are in range.
pub record EntryRange (listing : List ℕ) (n : ℕ) : Type 0 where
  pub inside : 3 * n + 3 ≤ length listing
  pub id : id_of listing n < IDS
  pub k : k_of listing n ≤ LARGEST_K
  pub low : 1 ≤ bound_of listing n
  pub high : bound_of listing n ≤ LARGEST_BOUND

-- The first n entries are in range, and each id is above the one before.
pub record EntriesRise (listing : List ℕ) (n : ℕ) : Type 0 where
  pub range : (m : ℕ) → m < n → EntryRange listing m
  pub rise : (m : ℕ) → suc m < n → id_of listing m < id_of listing (suc m)

-- The area after a request with n entries is written.
pub record RequestStands (slot : CoreSlot) (limit : ℕ) (listing before : List ℕ) (n : ℕ) (after : List ℕ) : Type 0 where
  -- tag 1, length 8: the request slot
  pub slot_field_at : Stand after 0 (1 ∷ 0 ∷ 8 ∷ number_bytes slot.0 8)
  -- tag 2, length 1: T
  pub limit_field_at : Stand after 11 (2 ∷ 0 ∷ 1 ∷ limit ∷ [])
  -- tag 3, length 3: each entry's id, k and R
  pub entry_field : (m : ℕ) → m < n → Stand after (15 + 6 * m) (3 ∷ 0 ∷ 3 ∷ id_of listing m ∷ k_of listing m ∷ bound_of listing m ∷ [])
  -- the bytes after them as they were
  pub rest : (j : ℕ) → 15 + 6 * n ≤ j → get_or after j 0 ≡ get_or before j 0
  pub same : length after ≡ length before

-- What writing a request returns, and the area afterwards: the first case that holds, in this order; a refusal leaves the area as it was.
pub data RequestWritten (slot : CoreSlot) (limit : ℕ) (listing area : List ℕ) : Reading ℕ → List ℕ → Type 0 where
  -- the slot above 2^48 - 1: place 64
  slot_high : LAST_SLOT < slot.0 → RequestWritten slot limit listing area (Err (record { number = OUT_OF_RANGE; place = 64 })) area
  -- T above 64: place 65
  limit_high : slot.0 ≤ LAST_SLOT → LONGEST < limit
      → RequestWritten slot limit listing area (Err (record { number = OUT_OF_RANGE; place = 65 })) area
  -- entry n cut short or out of range
  out_of_range : (n : ℕ) → slot.0 ≤ LAST_SLOT → limit ≤ LONGEST → EntriesRise listing n → 3 * n < length listing → ¬ (EntryRange listing n)
      → RequestWritten slot limit listing area (Err (record { number = OUT_OF_RANGE; place = n })) area
  -- the id of entry m + 1 not above the one before
  not_rising : (m : ℕ) → slot.0 ≤ LAST_SLOT → limit ≤ LONGEST → EntriesRise listing (suc m) → EntryRange listing (suc m)
      → id_of listing (suc m) ≤ id_of listing m
      → RequestWritten slot limit listing area (Err (record { number = NOT_RISING; place = suc m })) area
  -- the area shorter than the record
  small : (n : ℕ) → slot.0 ≤ LAST_SLOT → limit ≤ LONGEST → length listing ≡ 3 * n → EntriesRise listing n → length area < 15 + 6 * n
      → RequestWritten slot limit listing area (Err (record { number = SMALL_AREA; place = 0 })) area
  -- the record written
  written : (n : ℕ) {after : List ℕ} → slot.0 ≤ LAST_SLOT → limit ≤ LONGEST → length listing ≡ 3 * n → EntriesRise listing n
      → 15 + 6 * n ≤ length area → RequestStands slot limit listing area n after
      → RequestWritten slot limit listing area (Ok (15 + 6 * n)) after

-- What writing a request tells: its number, its place and how many bytes were written; and the area afterwards.
pub data RequestTells (slot : CoreSlot) (limit : ℕ) (listing area : List ℕ) : ℕ → ℕ → ℕ → List ℕ → Type 0 where
  -- a refusal: its number, its place, and 0 bytes
  refused : {r : Refusal} {after : List ℕ} → RequestWritten slot limit listing area (Err r) after
      → RequestTells slot limit listing area r.number r.place 0 after
  -- a record: number 0, place 0, and its bytes
  accepted : {n : ℕ} {after : List ℕ} → RequestWritten slot limit listing area (Ok n) after → RequestTells slot limit listing area ACCEPTED 0 n after

-- What is asked for each id: what its entry says, and nothing where no entry has the id.
pub record ListsEntries (listing : List ℕ) (asks : List Ask) : Type 0 where
  pub listed : (n : ℕ) → 3 * n < length listing → ask_of asks (id_of listing n) ≡ ask_at listing n
  pub others : (i : ℕ) → ((n : ℕ) → 3 * n < length listing → id_of listing n ≢ i) → ask_of asks i ≡ no_ask
