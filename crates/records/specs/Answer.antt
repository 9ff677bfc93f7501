-- docs/RULES.md 6.7: writing an answer.
use Rattle.std.specs.Prelude.{length, take, Bool, cond, List, [], ◌∷◌, ◌++◌, ℕ, zero, suc, ◌/◌, ◌%◌}
use Rattle.slots.specs.Limits.{IDS}
use Rattle.timetable.specs.declared.Entry.{Entry}
use Rattle.timetable.specs.Timetable.{entry_of, is_listed}

-- A field: a one-byte tag, a two-byte length, then the content; numbers are big-endian.
unfoldable pub field : ℕ → List ℕ → List ℕ
field tag content = tag ∷ length content / 256 ∷ length content % 256 ∷ content

-- Helper of offset_fields and listing_bytes: what is written for each id below n, ids rising.
unfoldable pub rising : (ℕ → List ℕ) → ℕ → List ℕ
rising bytes zero = []
rising bytes (suc n) = rising bytes n ++ bytes n

-- Tag 12 hex, length 2 (id, offset) per listed partition, ids rising: those below n.
abbrev pub offset_fields : (ℕ → Bool) → (ℕ → ℕ) → ℕ → List ℕ
offset_fields listed offset n = rising (λ i. cond (listed i) (field 0x12 (i ∷ offset i ∷ [])) []) n

-- Answer: tag 10 hex, length 1, transition length; tag 11 hex, the owners; then the offsets.
abbrev pub answer_form : ℕ → List ℕ → (ℕ → Bool) → (ℕ → ℕ) → List ℕ
answer_form size owners listed offset = field 0x10 (size ∷ []) ++ field 0x11 (take size owners) ++ offset_fields listed offset IDS

-- Helper of answer_record: whether the entries list id i.
abbrev pub listed_in : List Entry → ℕ → Bool
listed_in es i = is_listed (entry_of es i)

-- Helper of answer_record: the offset that the entries have for id i.
abbrev pub offset_in : List Entry → ℕ → ℕ
offset_in es i = (entry_of es i).offset

-- Helper of answer_record: its offset fields, those of the listed entries below n.
abbrev pub entry_fields : List Entry → ℕ → List ℕ
entry_fields es n = offset_fields (listed_in es) (offset_in es) n

-- The answer of a transition and these entries.
unfoldable pub answer_record : ℕ → List ℕ → List Entry → List ℕ
answer_record size owners es = answer_form size owners (listed_in es) (offset_in es)
