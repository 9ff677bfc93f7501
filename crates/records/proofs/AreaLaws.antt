-- An area after a run of stores: what is stored next goes behind, field by field, up to a whole answer. Assumes nothing.
use borrow.Author.Tests.{lt-ltb, le-ltb}
use lib.ListN.{length, length-append, set, take}
use lib.Seq.{length-take-le, sets}
use mathlib.Core.List.{List, [], ◌∷◌, ◌++◌, append-nil}
use mathlib.Core.Path.{◌≡◌, refl, sym, ap, ◌∙◌}
use native.Mathlib.Numerals.{add-one}
use native.Mathlib.Omega.{arith}
use Prim.Native.Nat.{ℕ, ◌+◌, ◌*◌, ◌≤◌, ◌<◌}
use Rattle.records.proofs.AnswerLaws.{answer_run, answer_head, offsets_length}
use Rattle.records.proofs.SetsLaws.{set_then, sets_then}
use Rattle.records.specs.Answer.{answer_record, entry_fields, field, offset_in, rising}
use Rattle.slots.proofs.Below.{count_most}
use Rattle.slots.specs.Limits.{IDS, LONGEST}
use Rattle.timetable.specs.declared.Entry.{Entry}
use Rattle.timetable.specs.Timetable.{entry_of, is_listed}

-- The field of a listed partition, its head stored first.
pub offset_field_at : (l m : List ℕ) (at id offset : ℕ) → m ≡ sets l at (0x12 ∷ 0 ∷ 2 ∷ [])
    → set (set m (at + 3) id) (at + 4) offset ≡ sets l at (field 0x12 (id ∷ offset ∷ []))
unfolding field
offset_field_at l m at id offset e =
    ap (λ (x : List ℕ). set (set x (at + 3) id) (at + 4) offset) e
    ∙ ap (λ (x : List ℕ). set x (at + 4) offset) (set_then l at (at + 3) (0x12 ∷ 0 ∷ 2 ∷ []) id refl)
    ∙ set_then l at (at + 4) (0x12 ∷ 0 ∷ 2 ∷ id ∷ []) offset refl

module _ (es : List Entry) (n : ℕ) where
  -- The offsets of the ids below n take at most five bytes each.
  pub offsets_room : length (entry_fields es n) ≤ 5 * n
  offsets_room = omega (arith, offsets_length es n, count_most (λ i. is_listed (entry_of es i)) n)

-- What an entry adds.
module _ (es : List Entry) (n : ℕ) (e : Entry) (p : entry_of es n ≡ e) where
  -- A listed id adds its field.
  offsets_listed : 0 < e.period → entry_fields es (n + 1) ≡ entry_fields es n ++ field 0x12 (n ∷ e.offset ∷ [])
  unfolding rising
  offsets_listed h = rw (add-one n, entry_fields, offset_in, p, lt-ltb _ _ h)

  -- An id that is not listed adds nothing.
  offsets_same : e.period ≤ 0 → entry_fields es (n + 1) ≡ entry_fields es n
  unfolding rising
  offsets_same h = rw (add-one n, entry_fields, p, le-ltb _ _ h) (append-nil (entry_fields es n))

-- The offsets of the ids below n are stored from `from` on, and `at` is the place after them.
pub record Stored (l area : List ℕ) (from at : ℕ) (es : List Entry) (n : ℕ) : Type 0 where
  pub content : area ≡ sets l from (entry_fields es n)
  pub place : at ≡ from + length (entry_fields es n)

module _ (l area : List ℕ) (from at : ℕ) (es : List Entry) (n : ℕ) (s : Stored l area from at es n) (e : Entry) (p : entry_of es n ≡ e) where
  -- One listed id more.
  pub stored_listed : (m : List ℕ) (k : ℕ) → 0 < e.period → k ≡ at + 5 → m ≡ sets area at (field 0x12 (n ∷ e.offset ∷ []))
      → Stored l m from k es (n + 1)
  unfolding field
  stored_listed m k h i q =
      let o = offsets_listed es n e p h in
      record {
        content =
            q
            ∙ ap (λ (x : List ℕ). sets x at (field 0x12 (n ∷ e.offset ∷ []))) s.content
            ∙ sets_then l from at (entry_fields es n) (field 0x12 (n ∷ e.offset ∷ [])) s.place
            ∙ ap (sets l from) (sym o);
        place = omega (arith, s.place, ap (λ (x : List ℕ). length x) o, length-append (entry_fields es n) (field 0x12 (n ∷ e.offset ∷ [])));
      }

  -- One id more that is not listed.
  pub stored_same : e.period ≤ 0 → Stored l area from at es (n + 1)
  stored_same h =
      let o = offsets_same es n e p h in
      record { content = s.content ∙ ap (sets l from) (sym o); place = omega (arith, s.place, ap (λ (x : List ℕ). length x) o) }

module _ (n : ℕ) (owners : List ℕ) (es : List Entry) (small : n ≤ LONGEST) (enough : n ≤ length owners) where
  -- An area in which they are stored one behind the other holds the answer.
  pub answer_stored : (l a b d e : List ℕ) (k r : ℕ) → a ≡ sets l 0 (0x10 ∷ 0 ∷ 1 ∷ [])
      → b ≡ sets (set a 3 n) 4 (0x11 ∷ 0 ∷ n ∷ []) → k ≡ 7 + n → d ≡ sets b 7 (take n owners) → r ≡ k + length (entry_fields es IDS)
      → e ≡ sets d k (entry_fields es IDS)
      → (r ≡ length (answer_record n owners es)) × (e ≡ sets l 0 (answer_record n owners es))
  answer_stored l a b d e k r pa pb pk pd pr pe =
      let t = length-take-le n owners enough in
      let run = answer_run n owners es small enough in
      let head = answer_head n in
      let x : b ≡ sets l 0 head = rw (pb, pa) in
      let y : d ≡ sets l 0 (head ++ take n owners) = pd ∙ rw x (sets_then l 0 7 head (take n owners) refl) in
      let z : e ≡ sets l 0 (head ++ take n owners ++ entry_fields es IDS) =
      pe ∙ rw y (sets_then l 0 k (head ++ take n owners) (entry_fields es IDS) (omega arith))
      in (
        omega (arith, ap (λ (v : List ℕ). length v) run, length-append (take n owners) (entry_fields es IDS)),
        z ∙ ap (sets l 0) run,
      )
