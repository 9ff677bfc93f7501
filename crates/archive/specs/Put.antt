-- Helpers of the contracts in archive/src/writer.rt: the fields of a request as they are put, entry by entry of its listing.
use Rattle.std.specs.Prelude.{List, [], ◌∷◌, ◌++◌, ℕ, zero, suc}
use Rattle.archive.specs.RequestWrite.{bound_of, id_of, k_of}
use Rattle.records.specs.Answer.{field}
use Rattle.records.specs.Written.{number_bytes}
use Rattle.slots.specs.declared.CoreSlot.{CoreSlot}

-- The tag 3 fields of the first n entries of a listing, every R in full.
unfoldable pub listing_fields : List ℕ → ℕ → List ℕ
listing_fields listing zero = []
listing_fields listing (suc n) = listing_fields listing n ++ field 3 (id_of listing n ∷ k_of listing n ∷ bound_of listing n ∷ [])

-- The bytes of a request in the order in which they are put: the field of the slot, the field of T, the fields of the first n entries.
unfoldable pub request_fields : CoreSlot → ℕ → List ℕ → ℕ → List ℕ
request_fields slot limit listing n = field 1 (number_bytes slot.0 8) ++ field 2 (limit ∷ []) ++ listing_fields listing n
