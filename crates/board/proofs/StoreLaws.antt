-- An image after a run of stores: a part, the bytes of the ids one behind the other, the whole image. Assumes nothing.
use lib.ListN.{drop, get_or, length, length-append, set}
use lib.Seq.{drop_at, sets}
use mathlib.Core.List.{List, [], ◌∷◌, ◌++◌, append_assoc}
use mathlib.Core.Path.{◌≡◌, refl, sym, ap, ◌∙◌}
use native.Mathlib.Nat.{mul-suc, mul-zero}
use native.Mathlib.Numerals.{add-one}
use native.Mathlib.Omega.{arith}
use Prim.Native.Nat.{ℕ, zero, suc, ◌+◌, ◌-◌, ◌*◌, ◌<◌, ◌≤◌}
use Rattle.std.proofs.Math.Nat.{div-div-eq-div-mul}
use Rattle.std.specs.Int.{to_be_bytes, w64}
use Rattle.board.specs.Image.{BASE_AT, ENTRIES_AT, ENTRY, IMAGE, LENGTH_AT, OWNERS_AT, START, STARTS_AT, entries_bytes, entry_bytes, image_of, starts_bytes}
use Rattle.records.proofs.FieldStands.{number_length}
use Rattle.records.proofs.RisingLaws.{rising_split, rising_from}
use Rattle.records.proofs.SetsLaws.{set_then, sets_all, sets_behind, sets_then}
use Rattle.records.specs.Answer.{rising}
use Rattle.records.specs.Written.{number_bytes}
use Rattle.slots.specs.Limits.{IDS, LONGEST}
use Rattle.timetable.specs.declared.Entry.{Entry}
use Rattle.timetable.specs.declared.Timetable.{Timetable}
use Rattle.timetable.specs.Timetable.{entry_of}

-- A slot's bytes, high byte first.
pub slot_bytes : (n : ℕ) → to_be_bytes w64 n ≡ number_bytes n 8
unfolding number_bytes
slot_bytes n = simp div-div-eq-div-mul

-- An entry has six bytes.
pub entry_length : (e : Entry) → length (entry_bytes e) ≡ ENTRY
unfolding entry_bytes number_bytes
entry_length e = refl

-- A start has two bytes.
pub start_length : (starts : List ℕ) (i : ℕ) → length (number_bytes (get_or starts i 0) START) ≡ START
start_length starts i = number_length (get_or starts i 0) START

-- What is written id by id, ids rising, with as many bytes for each.
module _ (f : ℕ → List ℕ) (size : ℕ) (each : (i : ℕ) → length (f i) ≡ size) where
  -- The ids below n have this many bytes each.
  pub rising_length : (n : ℕ) → length (rising f n) ≡ size * n
  unfolding rising
  rising_length zero = sym (mul-zero size)
  rising_length (suc n) = simp length-append (omega (arith, rising_length n, each n, mul-suc size n))

  -- One id more.
  pub rising_next : (l m k : List ℕ) (at here n : ℕ) → here ≡ at + size * n → m ≡ sets l at (rising f n) → k ≡ sets m here (f n)
      → k ≡ sets l at (rising f (n + 1))
  unfolding rising
  rising_next l m k at here n p pm pk =
      pk
      ∙ ap (λ (x : List ℕ). sets x here (f n)) pm
      ∙ sets_then l at here (rising f n) (f n) (omega (arith, rising_length n))
      ∙ ap (λ (x : ℕ). sets l at (rising f x)) (sym (add-one n))

  -- Between other bytes those of an id stand behind those of the lower ids.
  pub rising_stands : (s front back : List ℕ) (at n i : ℕ) → s ≡ front ++ (rising f n ++ back) → length front ≡ at → i < n
      → (rest : List ℕ) × (drop (at + size * i) s ≡ f i ++ rest)
  unfolding rising_from
  rising_stands s front back at n i e len h =
      let m : ℕ = n - i - 1 in
      let k : n ≡ i + suc m = omega arith in
      let rest = rising_from f (suc i) m ++ back in
      let d : s ≡ (front ++ rising f i) ++ (f i ++ rest) =
      e ∙ ap (λ (x : ℕ). front ++ (rising f x ++ back)) k ∙ ap (λ (z : List ℕ). front ++ (z ++ back)) (rising_split f i (suc m)) ∙ simp append_assoc in
      let size_before : length (front ++ rising f i) ≡ at + size * i = length-append front (rising f i) ∙ omega (arith, rising_length i) in
      (rest, ap (drop (at + size * i)) d ∙ drop_at (front ++ rising f i) (f i ++ rest) (at + size * i) size_before)

-- The entries below n have six bytes each.
pub entries_length : (es : List Entry) (n : ℕ) → length (entries_bytes es n) ≡ ENTRY * n
entries_length es = rising_length _ ENTRY (λ i. entry_length (entry_of es i))

-- The starts below n have two bytes each.
starts_length : (starts : List ℕ) (n : ℕ) → length (starts_bytes starts n) ≡ START * n
starts_length starts = rising_length _ START (start_length starts)

-- A run may be stored before one that stands behind it.
sets_past : (l vs ws : List ℕ) (i k : ℕ) → i + length vs ≤ k → sets (sets l k ws) i vs ≡ sets (sets l i vs) k ws
sets_past l vs [] i k h = refl
sets_past l vs (w ∷ ws) i k h =
    sets_past (set l k w) vs ws i (suc k) (omega arith) ∙ ap (λ (x : List ℕ). sets x (suc k) ws) (sets_behind l i k vs w h)

-- The entry and the start of one id more, behind those of the ids before.
pub ids_next : (l m a b : List ℕ) (es : List Entry) (ss : List ℕ) (n : ℕ) → n < IDS
    → m ≡ sets (sets l ENTRIES_AT (entries_bytes es n)) STARTS_AT (starts_bytes ss n)
    → a ≡ sets m (ENTRIES_AT + ENTRY * n) (entry_bytes (entry_of es n))
    → b ≡ sets a (STARTS_AT + START * n) (number_bytes (get_or ss n 0) START)
    → b ≡ sets (sets l ENTRIES_AT (entries_bytes es (n + 1))) STARTS_AT (starts_bytes ss (n + 1))
ids_next l m a b es ss n h pm pa pb =
    let e = ENTRIES_AT + ENTRY * n in
    let bytes = entry_bytes (entry_of es n) in
    let before = sets l ENTRIES_AT (entries_bytes es n) in
    let entries =
    rising_next (λ i. entry_bytes (entry_of es i)) ENTRY (λ i. entry_length (entry_of es i)) l before (sets before e bytes) ENTRIES_AT e n refl refl refl in
    let moved : a ≡ sets (sets l ENTRIES_AT (entries_bytes es (n + 1))) STARTS_AT (starts_bytes ss n) =
    pa ∙ ap (λ (x : List ℕ). sets x e bytes) pm
    ∙ sets_past before bytes (starts_bytes ss n) e STARTS_AT (omega (arith, entry_length (entry_of es n)))
    ∙ ap (λ (x : List ℕ). sets x STARTS_AT (starts_bytes ss n)) entries in
    rising_next (λ i. number_bytes (get_or ss i 0) START) START (start_length ss) _ a b STARTS_AT _ n refl moved pb

module _ (t : Timetable) (all : length t.owners ≡ LONGEST) where
  -- An image has 337 bytes.
  pub image_length : length (image_of t) ≡ IMAGE
  unfolding image_of
  image_length =
      simp length-append (omega (arith, number_length t.request.0 8, number_length t.base.0 8, entries_length t.entries IDS, starts_length t.starts IDS))

  -- The fields stored one behind the other are the image.
  pub image_stored : (l a b d g : List ℕ) → length l ≡ IMAGE → a ≡ sets l 0 (number_bytes t.request.0 8)
      → b ≡ sets (set a LENGTH_AT t.length) OWNERS_AT t.owners → d ≡ sets b BASE_AT (number_bytes t.base.0 8)
      → g ≡ sets (sets d ENTRIES_AT (entries_bytes t.entries IDS)) STARTS_AT (starts_bytes t.starts IDS) → g ≡ image_of t
  unfolding image_of
  image_stored l a b d g len pa pb pd pg =
      let r = number_bytes t.request.0 8 in
      let s = number_bytes t.base.0 8 in
      let es = entries_bytes t.entries IDS in
      let ss = starts_bytes t.starts IDS in
      let o = t.owners in
      let nr = number_length t.request.0 8 in
      let ns = number_length t.base.0 8 in
      let ne = entries_length t.entries IDS in
      let x : set a LENGTH_AT t.length ≡ sets l 0 (r ++ t.length ∷ []) = rw pa (set_then l 0 LENGTH_AT r t.length (omega arith)) in
      let y : b ≡ sets l 0 ((r ++ t.length ∷ []) ++ o) =
      pb ∙ rw x (sets_then l 0 OWNERS_AT (r ++ t.length ∷ []) o (omega (arith, length-append r (t.length ∷ [])))) in
      let z : d ≡ sets l 0 (((r ++ t.length ∷ []) ++ o) ++ s) =
      pd ∙ rw y (sets_then l 0 BASE_AT ((r ++ t.length ∷ []) ++ o) s (simp length-append (omega arith))) in
      let v : sets d ENTRIES_AT es ≡ sets l 0 ((((r ++ t.length ∷ []) ++ o) ++ s) ++ es) =
      rw z (sets_then l 0 ENTRIES_AT (((r ++ t.length ∷ []) ++ o) ++ s) es (simp length-append (omega arith))) in
      let u : g ≡ sets l 0 (((((r ++ t.length ∷ []) ++ o) ++ s) ++ es) ++ ss) =
      pg ∙ rw v (sets_then l 0 STARTS_AT ((((r ++ t.length ∷ []) ++ o) ++ s) ++ es) ss (simp length-append (omega arith))) in
      let f : ((((r ++ t.length ∷ []) ++ o) ++ s) ++ es) ++ ss ≡ image_of t = simp append_assoc in
      u ∙ ap (sets l 0) f ∙ sets_all l (image_of t) (image_length ∙ sym len)
