-- An answer that is read whole is written in one way: each field read is the field written, and the next follows at once. Assumes nothing.
use borrow.Author.Tests.{le-leb, le-ltb, lt-leb, lt-ltb}
use lib.ListN.{drop, drop_of_length-le, get_or, length, length-drop, length-replicate, length-set, get_or-eq_default, replicate, set, take}
use lib.Seq.{ext_get_or, get_or-drop, get_or-set_other, get_or-set_same, get_or-take, length-take-le}
use mathlib.Core.Bool.{true, cond}
use mathlib.Core.List.{List, [], ◌∷◌, ◌++◌, append_assoc, append-nil}
use mathlib.Core.Path.{◌≡◌, refl, sym, ap, ◌∙◌, subst₂}
use native.Mathlib.Decide.{dec_lt}
use native.Mathlib.Omega.{arith}
use Prim.Native.Nat.{ℕ, suc, ◌+◌, ◌-◌, ◌≤◌, ◌<◌}
use Rattle.std.specs.Prelude.{Ok, Some, None}
use Rattle.std.specs.Result.{IfOk}
use Rattle.std.specs.declared.option.Option.{Option}
use Rattle.std.specs.Option.{is_some, unwrap_or}
use Rattle.std.proofs.lemmas.Result.{IfOk-at_ok, IfOk-weaker}
use Rattle.archive.proofs.AnswerSteps.{AnswerRead, FieldRead, answer_read, end_read}
use Rattle.archive.proofs.ScheduleLaws.{owner_below, owners_length}
use Rattle.archive.specs.AnswerRead.{floor_at, no_schedule, told_owner, owners_below, id_offset, read_answer, schedule_record, step, told_length, with_field, ReadAnswer}
use Rattle.archive.specs.AnswerReads.{ScheduleRange}
use Rattle.archive.specs.declared.AnswerField.{AnswerField}
use Rattle.archive.specs.declared.AnswerField.TheVariants.{Length, Offset, Owners}
use Rattle.archive.specs.declared.Schedule.{Schedule}
use Rattle.records.proofs.FieldBytes.{bytes_taken, bytes_at, field_cut}
use Rattle.records.proofs.ReadSteps.{field_inside}
use Rattle.records.proofs.RisingLaws.{EmptyFrom, all_empty, empty_above, rising_above}
use Rattle.records.specs.Answer.{field, rising}
use Rattle.records.specs.Request.{content_at, is_field}
use Rattle.slots.specs.Limits.{IDS, LONGEST}

-- What is written of id i.
abbrev pub id_bytes : List (Option ℕ) → ℕ → List ℕ
id_bytes offsets i = cond (is_some (id_offset offsets i)) (field 0x12 (i ∷ unwrap_or (id_offset offsets i) 0 ∷ [])) []

-- From this id on nothing is listed.
abbrev pub Open : ℕ → List (Option ℕ) → Type 0
Open floor offsets = EmptyFrom None floor offsets

module _ (offsets : List (Option ℕ)) (id o : ℕ) (h : id < length offsets) where
  abbrev said : Option ℕ
  said = Some o

  -- Above an id that is listed nothing is.
  pub open_above : Open id offsets → Open (suc id) (set offsets id said)
  open_above = empty_above None offsets id said

  -- One more listed id, above all that were, is written behind them.
  pub offset_above : Open id offsets → id < IDS
      → rising (id_bytes (set offsets id said)) IDS ≡ rising (id_bytes offsets) IDS ++ field 0x12 (id ∷ o ∷ [])
  offset_above f k =
      rising_above (id_bytes offsets) (id_bytes (set offsets id said)) id
      (λ i n. rw (get_or-set_other offsets id i said None n))
      (λ i n. rw (f i n))
      IDS k
      ∙ ap (λ (z : List ℕ). rising (id_bytes offsets) IDS ++ z) (rw (get_or-set_same offsets id said None h))

module _ (s : List ℕ) where
  -- Behind the owners any id may stand.
  pub floor_first : floor_at s (7 + told_length s) ≡ 0
  unfolding floor_at
  floor_first = rw (le-leb (7 + told_length s) (7 + told_length s) (omega arith))

  -- Behind an offset field the next id has to be above its own.
  pub floor_next : (at : ℕ) → 7 + told_length s ≤ at → floor_at s (at + 5) ≡ suc (content_at s at 0)
  unfolding floor_at
  floor_next at h =
      let k : at + 5 - 5 ≡ at = omega arith in
      rw (lt-leb (at + 5) (7 + told_length s) (omega arith), k)

  -- An answer that is read whole, from the owners' end on: an id with its offset and then the rest, or nothing more.
  data OffsetsRead : ℕ → Schedule → Schedule → Type 0 where
    none : {at : ℕ} {x : Schedule} → length s ≤ at → OffsetsRead at x x
    more : {at : ℕ} {x y : Schedule} → is_field s at 0x12 2 ≡ true → content_at s at 0 < IDS → floor_at s at ≤ content_at s at 0
        → OffsetsRead (at + 5) (with_field s x (Offset (content_at s at 0) (content_at s at 1))) y → OffsetsRead at x y

  -- It is read so.
  offsets_read : {at : ℕ} {x : Schedule} {y : ReadAnswer} → AnswerRead s at x y → 7 ≤ at → IfOk y (OffsetsRead at x)
  offsets_read (AnswerRead.stop d) h = tt
  offsets_read (AnswerRead.whole d) h = OffsetsRead.none (end_read s d).2
  offsets_read (AnswerRead.more (FieldRead.size p q) l d) h = absurd (omega arith)
  offsets_read (AnswerRead.more (FieldRead.owners p q r) l d) h = absurd (omega arith)
  offsets_read (AnswerRead.more {y = y} (FieldRead.offset m n p q r) l d) h =
      IfOk-weaker y _ _ (λ z w. OffsetsRead.more p q r w) (offsets_read d (omega arith))

  -- From the owners' end on the length and the owners stay, and the offsets that are read are written behind those read before.
  record Read (at : ℕ) (x y : Schedule) : Type 0 where
    same_length : y.length ≡ x.length
    same_owners : y.owners ≡ x.owners
    ids : length y.offsets ≡ IDS
    written : rising (id_bytes y.offsets) IDS ≡ rising (id_bytes x.offsets) IDS ++ drop at s

  offsets_form : {at : ℕ} {x y : Schedule} → OffsetsRead at x y → 7 + told_length s ≤ at → length x.offsets ≡ IDS → Open (floor_at s at) x.offsets
      → Read at x y
  unfolding with_field bytes_at content_at
  offsets_form (OffsetsRead.none {x = x} l) h c f = record {
    same_length = refl;
    same_owners = refl;
    ids = c;
    written = rw (drop_of_length-le s l) (sym (append-nil (rising (id_bytes x.offsets) IDS)));
  }
  offsets_form (OffsetsRead.more {at = at} {x = x} p q r d) h c f =
      let id = content_at s at 0 in
      let o = content_at s at 1 in
      let said : Option ℕ = Some o in
      let before = rising (id_bytes x.offsets) IDS in
      let g : Open id x.offsets = λ i k. f i (omega arith) in
      let in_range : id < length x.offsets = omega arith in
      let w = offsets_form d (omega arith) (length-set x.offsets id said ∙ c)
      (rw (floor_next at h) (open_above x.offsets id o in_range g)) in
      let k : at + 3 + 2 ≡ at + 5 = omega arith in
      let z : drop at s ≡ field 0x12 (id ∷ o ∷ []) ++ drop (at + 5) s = rw (← k) (field_cut s at 0x12 2 (omega arith) p) in
      record {
        same_length = w.same_length;
        same_owners = w.same_owners;
        ids = w.ids;
        written =
            w.written ∙ ap (λ (z : List ℕ). z ++ drop (at + 5) s) (offset_above x.offsets id o in_range g q)
            ∙ append_assoc before (field 0x12 (id ∷ o ∷ [])) (drop (at + 5) s) ∙ ap (λ (y : List ℕ). before ++ y) (sym z);
      }

  -- What was read of an answer up to the owners' end.
  abbrev head_of : Schedule
  head_of = record { length = told_length s; owners = owners_below s LONGEST; offsets = replicate IDS None }

  -- An answer that is read whole: its two required fields, and the offsets.
  record HeadRead (y : Schedule) : Type 0 where
    length_field_at : is_field s 0 0x10 1 ≡ true
    short : told_length s ≤ LONGEST
    owners_field_at : is_field s 4 0x11 (told_length s) ≡ true
    owner : (k : ℕ) → k < told_length s → content_at s 4 k < IDS
    rest : OffsetsRead (7 + told_length s) head_of y

  -- What goes on at 0 is the length,
  at_zero : {at next : ℕ} {f : AnswerField} → FieldRead s at (step f next) → at ≡ 0
      → (is_field s 0 0x10 1 ≡ true) × (told_length s ≤ LONGEST) × (f ≡ Length (told_length s)) × (next ≡ 4)
  at_zero (FieldRead.size p q) z = (p, q, refl, refl)
  at_zero (FieldRead.owners p q r) z = absurd (omega arith)
  at_zero (FieldRead.offset m n p q r) z = absurd (m z)

  -- and at 4 the owners.
  at_four : {at next : ℕ} {f : AnswerField} → FieldRead s at (step f next) → at ≡ 4
      → (is_field s 4 0x11 (told_length s) ≡ true) × ((k : ℕ) → k < told_length s → content_at s 4 k < IDS)
      × (f ≡ Owners (told_length s)) × (next ≡ 7 + told_length s)
  at_four (FieldRead.size p q) z = absurd (omega arith)
  at_four (FieldRead.owners p q r) z = (q, r, refl, refl)
  at_four (FieldRead.offset m n p q r) z = absurd (n z)

  -- The owners' field is read, and then the rest.
  owners_read : {at : ℕ} {x : Schedule} {y : ReadAnswer} → AnswerRead s at x y → at ≡ 4
      → IfOk y
      (λ z. (is_field s 4 0x11 (told_length s) ≡ true) × ((k : ℕ) → k < told_length s → content_at s 4 k < IDS)
      × OffsetsRead (7 + told_length s) (with_field s x (Owners (told_length s))) z)
  owners_read (AnswerRead.stop d) z = tt
  owners_read (AnswerRead.whole d) z = absurd ((end_read s d).1 z)
  owners_read (AnswerRead.more {x = x} {y = y} d l rest) z =
      let w = at_four d z in
      let r : AnswerRead s (7 + told_length s) (with_field s x (Owners (told_length s))) y =
      subst₂ (λ (f : AnswerField) (k : ℕ). AnswerRead s k (with_field s x f) y) w.2 w.3 rest in
      IfOk-weaker y _ _ (λ v o. (w.0, w.1, o)) (offsets_read r (omega arith))

  -- So is the length's, and then the owners'.
  head_read : {at : ℕ} {y : ReadAnswer} → AnswerRead s at no_schedule y → at ≡ 0 → IfOk y HeadRead
  unfolding with_field
  head_read (AnswerRead.stop d) z = tt
  head_read (AnswerRead.whole d) z = absurd ((end_read s d).0 z)
  head_read (AnswerRead.more {y = y} d l rest) z =
      let w = at_zero d z in
      let r : AnswerRead s 4 (with_field s no_schedule (Length (told_length s))) y =
      subst₂ (λ (f : AnswerField) (k : ℕ). AnswerRead s k (with_field s no_schedule f) y) w.2 w.3 rest in
      IfOk-weaker y _ _ (λ v o. record { length_field_at = w.0; short = w.1; owners_field_at = o.0; owner = o.1; rest = o.2 }) (owners_read r refl)

  -- The owner of a slot that the transition has stands in the owners' field.
  pub owner_told : (k : ℕ) → k < told_length s → told_owner s k ≡ content_at s 4 k
  unfolding told_owner
  owner_told k h = rw (lt-ltb k (told_length s) h)

  -- A slot that it does not have has none.
  pub owner_none : (k : ℕ) → told_length s ≤ k → told_owner s k ≡ 0
  unfolding told_owner
  owner_none k h = rw (le-ltb k (told_length s) h)

  -- The owners stand behind the head of their field.
  owners_form : told_length s ≤ LONGEST → 7 + told_length s ≤ length s → bytes_at s 7 (told_length s) ≡ take (told_length s) (owners_below s LONGEST)
  unfolding content_at
  owners_form h b =
      let n = told_length s in
      let l = length-take-le n (owners_below s LONGEST) (omega (arith, owners_length s LONGEST)) in
      let m = length-take-le n (drop 7 s) (omega (arith, length-drop 7 s)) in
      sym (bytes_taken s 7 n b)
      ∙ ext_get_or 0 (take n (drop 7 s)) (take n (owners_below s LONGEST)) (m ∙ sym l)
      (λ k b.
      get_or-take n (drop 7 s) k 0 (omega arith) ∙ get_or-drop 7 s k 0
      ∙ sym (get_or-take n (owners_below s LONGEST) k 0 (omega arith) ∙ owner_below s LONGEST k (omega arith) ∙ owner_told k (omega arith)))

  -- Where nothing is listed nothing is written.
  nothing_placed : rising (id_bytes (replicate IDS None)) IDS ≡ []
  unfolding rising
  nothing_placed = refl

  module _ (x : Schedule) (e : read_answer s ≡ Ok x) where
    head : HeadRead x
    head = IfOk-at_ok HeadRead e (head_read (answer_read s 0) refl)

    read : Read (7 + told_length s) head_of x
    read = offsets_form head.rest (omega arith) (length-replicate {A = Option ℕ} IDS None) (λ i k. all_empty {A = Option ℕ} None IDS i)

    -- An answer that is read whole is the one record of what was read.
    pub answer_form_lem : s ≡ schedule_record x
    unfolding schedule_record bytes_at content_at
    answer_form_lem =
        let a = field_cut s 0 0x10 1 (omega arith) head.length_field_at in
        let b = field_cut s 4 0x11 (told_length s) (omega (arith, head.short)) head.owners_field_at in
        let n = told_length s in
        let owners = owners_form head.short (field_inside s 4 0x11 n head.owners_field_at).0 in
        let first = field 0x10 (n ∷ []) in
        let second = field 0x11 (bytes_at s 7 n) in
        let rest = read.written ∙ ap (λ (z : List ℕ). z ++ drop (7 + n) s) nothing_placed in
        rw (read.same_length, read.same_owners, ← owners, rest)
        (a ∙ ap (λ (z : List ℕ). first ++ z) b ∙ sym (append_assoc first second (drop (7 + n) s)))

    -- What was read is in range.
    pub answer_range : ScheduleRange x
    answer_range =
        let o = read.same_owners in
        let l = read.same_length in
        record {
          short = omega (arith, head.short);
          slots = ap length o ∙ owners_length s LONGEST;
          owner = λ k h. omega (arith, head.owner k (omega (arith, l)), ap (λ (z : List ℕ). get_or z k 0) o ∙ owner_below s LONGEST k (omega (arith, l, head.short)) ∙ owner_told k (omega (arith, l)));
          unused = λ k h b. rw o (owner_below s LONGEST k b ∙ owner_none k (omega arith));
          ids = read.ids;
        }

    -- The owners that were read are those of the record.
    owners_read_are : x.owners ≡ owners_below s LONGEST
    owners_read_are = read.same_owners

    -- The owner that is told for a slot is the one that was read, and 0 beyond the last slot.
    pub answer_owner : (n : ℕ) → told_owner s n ≡ get_or x.owners n 0
    answer_owner n = by (dec_lt n LONGEST)
      where
        by : Dec (n < LONGEST) → told_owner s n ≡ get_or x.owners n 0
        by (yes h) = rw owners_read_are (sym (owner_below s LONGEST n h))
        by (no h) =
            rw owners_read_are
            (owner_none n (omega (arith, head.short)) ∙ sym (get_or-eq_default (owners_below s LONGEST) 0 {n = n} (omega (arith, owners_length s LONGEST))))
