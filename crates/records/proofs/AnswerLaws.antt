-- An answer's bytes and how many they are: four for the transition's length, three and the owners, and five for each listed id. Assumes nothing.
use lib.ListN.{length, length-append, length-take, take}
use lib.Seq.{length-take-le}
use mathlib.Core.Bool.{Bool, true, false, cond}
use mathlib.Core.List.{List, [], ◌∷◌, ◌++◌}
use mathlib.Core.Path.{◌≡◌, refl}
use native.Mathlib.Omega.{arith}
use Prim.Native.Nat.{ℕ, zero, suc, ◌+◌, ◌*◌, ◌/◌, ◌%◌, ◌≤◌}
use Rattle.records.specs.Answer.{answer_record, entry_fields, field, rising}
use Rattle.records.specs.AnswerForm.{listed_below}
use Rattle.slots.proofs.Below.{count_most}
use Rattle.slots.specs.Below.{count}
use Rattle.slots.specs.Limits.{AREA, IDS, LONGEST}
use Rattle.timetable.specs.declared.Entry.{Entry}
use Rattle.timetable.specs.Timetable.{entry_of, is_listed}

-- The first seven bytes of an answer: the two heads with the transition's length between.
abbrev pub answer_head : ℕ → List ℕ
answer_head n = 0x10 ∷ 0 ∷ 1 ∷ n ∷ 0x11 ∷ 0 ∷ n ∷ []

-- The offsets take five bytes for each listed id.
pub offsets_length : (es : List Entry) (n : ℕ) → length (entry_fields es n) ≡ 5 * listed_below es n
unfolding rising count field
offsets_length es zero = refl
offsets_length es (suc n) = at (is_listed (entry_of es n)) _ refl (offsets_length es n)
  where
    at : (b : Bool) (f : List ℕ) → length f ≡ 5 → length (entry_fields es n) ≡ 5 * listed_below es n
        → length (entry_fields es n ++ cond b f []) ≡ 5 * (listed_below es n + cond b 1 0)
    at true f l h = simp length-append (omega arith)
    at false f l h = simp length-append (omega arith)

module _ (n : ℕ) (owners : List ℕ) (es : List Entry) where
  -- An answer's length, whatever its owners.
  pub answer_bytes : length (answer_record n owners es) ≡ 7 + length (take n owners) + 5 * listed_below es IDS
  unfolding answer_record field
  answer_bytes = simp length-append (omega (arith, offsets_length es IDS))

  -- No answer is longer than the area that it needs.
  pub answer_length : n ≤ LONGEST → length (answer_record n owners es) ≤ AREA
  answer_length h = omega (arith, answer_bytes, length-take n owners, count_most (λ i. is_listed (entry_of es i)) IDS)

  -- An answer's bytes: its first seven, the owners, the offsets.
  pub answer_run : n ≤ LONGEST → n ≤ length owners → answer_head n ++ take n owners ++ entry_fields es IDS ≡ answer_record n owners es
  unfolding answer_record field
  answer_run small enough =
      let high : length (take n owners) / 256 ≡ 0 = omega (arith, length-take-le n owners enough) in
      let low : length (take n owners) % 256 ≡ n = omega (arith, length-take-le n owners enough) in
      rw (high, low)
