-- docs/RULES.md 6.7: the answer as it stands in the area, field by field at its place. It says nothing of how it is written.
use Rattle.std.specs.Prelude.{get_or, length, true, List, [], ◌∷◌, ◌≡◌, ℕ, ◌+◌, ◌*◌, ◌≤◌, ◌<◌}
use Rattle.slots.specs.Below.{count}
use Rattle.slots.specs.Limits.{IDS}
use Rattle.timetable.specs.declared.Entry.{Entry}
use Rattle.timetable.specs.Timetable.{entry_of, is_listed}

-- These bytes stand at a place.
abbrev pub Stand : List ℕ → ℕ → List ℕ → Type 0
Stand area at bytes = (k : ℕ) → k < length bytes → get_or area (at + k) 0 ≡ get_or bytes k 0

-- Helper of AnswerStands: how many ids below n are listed.
abbrev pub listed_below : List Entry → ℕ → ℕ
listed_below es n = count n (λ i. is_listed (entry_of es i))

-- The area after the answer of a transition of this size and owners with these entries, and the number of bytes written.
pub record AnswerStands (before : List ℕ) (size : ℕ) (owners : List ℕ) (es : List Entry) (written : ℕ) (after : List ℕ) : Type 0 where
  -- tag 10 hex, length 1: the transition's length
  pub length_field_at : Stand after 0 (0x10 ∷ 0 ∷ 1 ∷ size ∷ [])
  -- tag 11 hex, as many bytes as transition slots: the owners
  pub owners_field_at : Stand after 4 (0x11 ∷ 0 ∷ size ∷ [])
  pub owner : (k : ℕ) → k < size → get_or after (7 + k) 0 ≡ get_or owners k 0
  -- tag 12 hex, length 2: each listed id and its offset, behind the fields of the lower listed ids
  pub offset_field_at : (i : ℕ) → i < IDS → is_listed (entry_of es i) ≡ true
      → Stand after (7 + size + 5 * listed_below es i) (0x12 ∷ 0 ∷ 2 ∷ i ∷ (entry_of es i).offset ∷ [])
  -- the bytes written, and those after them as they were
  pub bytes : written ≡ 7 + size + 5 * listed_below es IDS
  pub rest : (n : ℕ) → written ≤ n → get_or after n 0 ≡ get_or before n 0
  pub same : length after ≡ length before
