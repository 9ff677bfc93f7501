-- An answer that is written stands in the area field by field, and what stands so has one content: every byte of the area is in one field, or behind
-- them all. Assumes nothing.
use lib.ListN.{drop, get_or, length, length-append, get_or-append, take}
use lib.Seq.{ext_get_or, get_or-append-add, get_or-take, length-sets, length-take-le, sets}
use mathlib.Core.Bool.{true}
use mathlib.Core.List.{List, [], ◌∷◌, ◌++◌, append_assoc}
use mathlib.Core.Path.{◌≡◌, refl, sym, ap, ◌∙◌, subst}
use native.Mathlib.Decide.{ℕ_discrete, dec_lt}
use native.Mathlib.Nat.{add_assoc, zero-add}
use native.Mathlib.Omega.{arith}
use Prim.Native.Nat.{ℕ, zero, suc, ◌+◌, ◌-◌, ◌*◌, ◌/◌, ◌≤◌, ◌<◌}
use Rattle.records.proofs.AnswerLaws.{answer_bytes, answer_length, answer_run, answer_head, offsets_length}
use Rattle.records.proofs.SetsLaws.{sets_front, sets_rest}
use Rattle.records.specs.Answer.{answer_record, field, entry_fields, rising}
use Rattle.records.specs.AnswerForm.{AnswerStands, listed_below, Stand}
use Rattle.slots.proofs.Below.{count_reaches, count_rises}
use Rattle.slots.specs.Limits.{AREA, IDS, LONGEST}
use Rattle.timetable.specs.declared.Entry.{Entry}
use Rattle.timetable.specs.Timetable.{entry_of, is_listed}

-- Bytes stand at their own start.
pub stand_first : (bytes t : List ℕ) → Stand (bytes ++ t) 0 bytes
stand_first bytes t k h = rw zero-add (get_or-append bytes t 0 k h)

-- What stands in a list stands there whatever follows,
pub stand_front : (s t bytes : List ℕ) (at : ℕ) → at + length bytes ≤ length s → Stand s at bytes → Stand (s ++ t) at bytes
stand_front s t bytes at l x k h = get_or-append s t 0 (at + k) (omega arith) ∙ x k h

-- and further on behind another list.
pub stand_behind : (s t bytes : List ℕ) (n at : ℕ) → length s ≡ n → Stand t at bytes → Stand (s ++ t) (n + at) bytes
stand_behind s t bytes n at e x k h = rw (← e, add_assoc) (get_or-append-add s t (at + k) 0 ∙ x k h)

-- The offset field of an id, byte by byte.
abbrev offset_bytes : List Entry → ℕ → List ℕ
offset_bytes es i = 0x12 ∷ 0 ∷ 2 ∷ i ∷ (entry_of es i).offset ∷ []

-- Among the offset fields of the ids below m, a listed id's stands behind those of the lower listed ids, five bytes each.
offset_from : (es : List Entry) (m i : ℕ) → i < m → is_listed (entry_of es i) ≡ true → Stand (entry_fields es m) (5 * listed_below es i) (offset_bytes es i)
unfolding rising field
offset_from es zero i h l = elim h [ ]
offset_from es (suc m) i h l = at (ℕ_discrete i m) (λ k. offset_from es m i k l)
  where
    at : Dec (i ≡ m) → (i < m → Stand (entry_fields es m) (5 * listed_below es i) (offset_bytes es i))
        → Stand (entry_fields es (suc m)) (5 * listed_below es i) (offset_bytes es i)
    at (yes z) ih =
        subst (λ (x : ℕ). Stand (entry_fields es (suc m)) (5 * listed_below es x) (offset_bytes es x)) (sym z)
        (rw (rw z at l, ← (offsets_length es m)) (λ k h. get_or-append-add (entry_fields es m) _ k 0))
    at (no z) ih =
        let k : i < m = omega arith in
        let c = count_rises (λ x. is_listed (entry_of es x)) i m k l in
        stand_front (entry_fields es m) _ (offset_bytes es i) _ (omega (arith, offsets_length es m)) (ih k)

module _ (size : ℕ) (owners : List ℕ) (es : List Entry) (small : size ≤ LONGEST) (enough : size ≤ length owners) (t : List ℕ) where
  -- The owners and the offsets, and what follows.
  abbrev tail : List ℕ
  tail = take size owners ++ entry_fields es IDS ++ t

  -- The answer's bytes.
  run : answer_head size ++ take size owners ++ entry_fields es IDS ≡ answer_record size owners es
  run = answer_run size owners es small enough

  -- The transition's length stands first,
  length_stands_lem : Stand (answer_record size owners es ++ t) 0 (0x10 ∷ 0 ∷ 1 ∷ size ∷ [])
  length_stands_lem = rw (← run) (stand_first (0x10 ∷ 0 ∷ 1 ∷ size ∷ []) (0x11 ∷ 0 ∷ size ∷ tail))

  -- behind it the owners' tag and length,
  owners_stand_lem : Stand (answer_record size owners es ++ t) 4 (0x11 ∷ 0 ∷ size ∷ [])
  owners_stand_lem =
      rw (← run) (stand_behind (0x10 ∷ 0 ∷ 1 ∷ size ∷ []) (0x11 ∷ 0 ∷ size ∷ tail) (0x11 ∷ 0 ∷ size ∷ []) 4 0 refl (stand_first (0x11 ∷ 0 ∷ size ∷ []) tail))

  -- the owners,
  owner_stands : (k : ℕ) → k < size → get_or (answer_record size owners es ++ t) (7 + k) 0 ≡ get_or owners k 0
  owner_stands k h =
      let o = length-take-le size owners enough in
      rw (← run)
      (get_or-append-add (answer_head size) tail k 0
      ∙ ap (λ (z : List ℕ). get_or z k 0) (append_assoc (take size owners) (entry_fields es IDS) t)
      ∙ get_or-append (take size owners) (entry_fields es IDS ++ t) 0 k (omega arith)
      ∙ get_or-take size owners k 0 h)

  -- and each listed id's offset field behind those of the lower listed ids.
  offset_stands_lem : (i : ℕ) → i < IDS → is_listed (entry_of es i) ≡ true
      → Stand (answer_record size owners es ++ t) (7 + size + 5 * listed_below es i) (offset_bytes es i)
  offset_stands_lem i k l =
      let o = length-take-le size owners enough in
      let c = count_rises (λ x. is_listed (entry_of es x)) i IDS k l in
      rw (← run)
      (stand_front (answer_head size ++ take size owners ++ entry_fields es IDS) t (offset_bytes es i) (7 + size + 5 * listed_below es i)
      (omega (arith, length-append (take size owners) (entry_fields es IDS), offsets_length es IDS))
      (stand_behind (answer_head size ++ take size owners) (entry_fields es IDS) (offset_bytes es i) (7 + size) (5 * listed_below es i) (omega arith)
      (offset_from es IDS i k l)))

-- An answer that is written stands so.
pub answer_stands : (size : ℕ) (owners : List ℕ) (es : List Entry) (before : List ℕ) → size ≤ LONGEST → size ≤ length owners → AREA ≤ length before
    → AnswerStands before size owners es (length (answer_record size owners es)) (sets before 0 (answer_record size owners es))
answer_stands size owners es before small enough room =
    let r = answer_record size owners es in
    let t = drop (length r) before in
    let e = sets_front before r (omega (arith, answer_length size owners es small)) in
    record {
      length_field_at = rw e (length_stands_lem size owners es small enough t);
      owners_field_at = rw e (owners_stand_lem size owners es small enough t);
      owner = rw e (owner_stands size owners es small enough t);
      offset_field_at = rw e (offset_stands_lem size owners es small enough t);
      bytes = omega (arith, answer_bytes size owners es, length-take-le size owners enough);
      rest = λ n h. sets_rest before 0 n r (omega arith);
      same = length-sets before 0 r;
    }

-- What stands in two areas at one place is the same there.
pub agree : (a b bytes : List ℕ) (at : ℕ) → Stand a at bytes → Stand b at bytes → (j : ℕ) → at ≤ j → j < at + length bytes → get_or a j 0 ≡ get_or b j 0
agree a b bytes at x y j l h =
    let e : j ≡ at + (j - at) = omega arith in
    rw e (x (j - at) (omega arith) ∙ sym (y (j - at) (omega arith)))

module _ (before : List ℕ) (size : ℕ) (owners : List ℕ) (es : List Entry) (w v : ℕ) (a b : List ℕ) (x : AnswerStands before size owners es w a)
    (y : AnswerStands before size owners es v b) where
  -- Every byte of the two areas is the same: it is in one of the fields, or behind them all.
  byte : (j : ℕ) → Dec (j < 4) → Dec (j < 7) → Dec (j < 7 + size) → Dec (j < w) → get_or a j 0 ≡ get_or b j 0
  byte j (yes p) q r s = agree a b (0x10 ∷ 0 ∷ 1 ∷ size ∷ []) 0 x.length_field_at y.length_field_at j (omega arith) (omega arith)
  byte j (no p) (yes q) r s = agree a b (0x11 ∷ 0 ∷ size ∷ []) 4 x.owners_field_at y.owners_field_at j (omega arith) (omega arith)
  byte j (no p) (no q) (yes r) s =
      let e : j ≡ 7 + (j - 7) = omega arith in
      rw e (x.owner (j - 7) (omega arith) ∙ sym (y.owner (j - 7) (omega arith)))
  byte j (no p) (no q) (no r) (yes s) =
      let f = count_reaches (λ i. is_listed (entry_of es i)) IDS ((j - (7 + size)) / 5) (omega arith) in
      let i = f.0 in
      agree a b (offset_bytes es i) (7 + size + 5 * listed_below es i) (x.offset_field_at i f.1 f.3) (y.offset_field_at i f.1 f.3) j (omega arith)
      (omega arith)
  byte j (no p) (no q) (no r) (no s) = x.rest j (omega arith) ∙ sym (y.rest j (omega arith))

  -- What stands so has one content and one number of bytes.
  pub answer_one : (w ≡ v) × (a ≡ b)
  answer_one = (
    omega (arith, x.bytes, y.bytes),
    ext_get_or 0 a b (x.same ∙ sym y.same) (λ j h. byte j (dec_lt j 4) (dec_lt j 7) (dec_lt j (7 + size)) (dec_lt j w)),
  )
