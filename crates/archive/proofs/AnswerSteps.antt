-- What stands at a place of an answer is one thing, and it is what the definition gives; so reading from there on gives one thing too. Assumes nothing.
use borrow.Author.Tests.{eqb-false, eqb-true, le-leb, leb-false, leb-true, lt-leb, lt-ltb, ltb-false, ltb-true, le-ltb, ne_eqb}
use lib.Dec.{eqb, leb, ltb}
use lib.ListN.{length, set}
use mathlib.Core.Bool.{Bool, true, false, cond, ◌&&◌, and-false}
use mathlib.Core.List.{List}
use mathlib.Core.Logic.{◌≢◌, inl, inr}
use mathlib.Core.Path.{◌≡◌, refl, ap, subst}
use native.Mathlib.Omega.{arith}
use Prim.Native.Nat.{ℕ, zero, suc, ◌+◌, ◌≤◌, ◌<◌}
use Rattle.std.specs.Prelude.{Ok, Err, Some, None}
use Rattle.std.specs.declared.option.Option.{Option}
use Rattle.std.specs.Result.{IfErr}
use Rattle.std.proofs.lemmas.Result.{IfErr-at_err}
use Rattle.archive.specs.AnswerRead.{are_owners, field_at, field_of, floor_at, length_field, length_stands, no_schedule, offset_field, offset_stands, owners_below, owners_field, owners_stand, place_after, read_end, read_fields, read_from, refused_at, step, told_length, told_schedule, with_field, ReadAnswer, ReadField}
pub use Rattle.archive.specs.AnswerReads.{AnswerRead, FieldRead, NothingTold, ReaderStep, WrongOwner, bad_field}
use Rattle.archive.specs.declared.AnswerField.{AnswerField}
use Rattle.archive.specs.declared.AnswerField.TheVariants.{Length, Owners, Offset}
use Rattle.archive.specs.declared.Schedule.{Schedule}
use Rattle.numbers.specs.declared.Refusal.{Refusal}
use Rattle.numbers.specs.Numbers.{BAD_FIELD, refusal}
use Rattle.records.proofs.ReadSteps.{field_inside}
use Rattle.records.proofs.RisingLaws.{all_empty}
use Rattle.records.specs.Request.{content_at, is_field, Reading}
use Rattle.slots.proofs.Below.{and_both, every_all, every_at, every_fails, every_not}
use Rattle.slots.specs.Limits.{IDS, LONGEST}

module _ (s : List ℕ) where
  -- At 0 stands the length or 3.
  length_step : FieldRead s 0 (length_field s)
  unfolding length_field refused_at
  length_step = by (is_field s 0 0x10 1) (leb (told_length s) LONGEST) refl refl
    where
      by : (a b : Bool) → is_field s 0 0x10 1 ≡ a → leb (told_length s) LONGEST ≡ b
          → FieldRead s 0 (cond (a && b) (step (Length (told_length s)) 4) (bad_field 0))
      by true true p q = FieldRead.size p (leb-true _ _ q)
      by true false p q = FieldRead.no_length (inr (leb-false _ _ q))
      by false b p q = FieldRead.no_length (inl p)

  -- At 4 stand the owners or 3.
  owners_step : FieldRead s 4 (owners_field s)
  unfolding owners_field refused_at are_owners
  owners_step = by (leb (told_length s) LONGEST) (is_field s 4 0x11 (told_length s)) (are_owners s (told_length s)) refl refl refl
    where
      by : (a b c : Bool) → leb (told_length s) LONGEST ≡ a → is_field s 4 0x11 (told_length s) ≡ b → are_owners s (told_length s) ≡ c
          → FieldRead s 4 (cond (a && b && c) (step (Owners (told_length s)) (7 + told_length s)) (bad_field 4))
      by true true true p q r = FieldRead.owners (leb-true _ _ p) q (λ k h. ltb-true _ _ (every_at (λ i. ltb (content_at s 4 i) IDS) _ r k h))
      by true true false p q r =
          let f = every_fails (λ i. ltb (content_at s 4 i) IDS) _ r in
          FieldRead.no_owners (inr (inr (f.0, f.1, ltb-false _ _ f.2)))
      by true false c p q r = FieldRead.no_owners (inr (inl q))
      by false b c p q r = FieldRead.no_owners (inl (leb-false _ _ p))

  -- At every other place inside the record stands an id with its offset, or 3.
  offset_step : (at : ℕ) → at ≢ 0 → at ≢ 4 → at < length s → FieldRead s at (offset_field s at)
  unfolding offset_field refused_at
  offset_step at m n h = by (is_field s at 0x12 2) (ltb (content_at s at 0) IDS) (leb (floor_at s at) (content_at s at 0)) refl refl refl
    where
      by : (a b c : Bool) → is_field s at 0x12 2 ≡ a → ltb (content_at s at 0) IDS ≡ b → leb (floor_at s at) (content_at s at 0) ≡ c
          → FieldRead s at (cond (a && b && c) (step (Offset (content_at s at 0) (content_at s at 1)) (at + 5)) (bad_field at))
      by true true true p q r = FieldRead.offset m n p (ltb-true _ _ q) (leb-true _ _ r)
      by true true false p q r = FieldRead.no_offset_field m n h (inr (inr (leb-false _ _ r)))
      by true false c p q r = FieldRead.no_offset_field m n h (inr (inl (ltb-false _ _ q)))
      by false b c p q r = FieldRead.no_offset_field m n h (inl p)

  -- The owners that stand are at most 64, and inside the record.
  pub owners_inside : owners_stand s ≡ true
      → (told_length s ≤ LONGEST) × (7 + told_length s ≤ length s)
  owners_inside e =
      let a = and_both _ _ (and_both _ _ e).0 in
      (leb-true _ _ a.0, omega (arith, (field_inside s 4 0x11 _ a.1).0))

  -- An offset that stands is inside the record, and its id below 32.
  pub offset_inside : (at : ℕ) → offset_stands s at ≡ true
      → (at + 5 ≤ length s) × (content_at s at 0 < IDS)
  offset_inside at e =
      let a = and_both (is_field s at 0x12 2) _ (and_both _ _ e).0 in
      (omega (arith, (field_inside s at 0x12 2 a.0).0), ltb-true _ _ a.1)

  -- What the definition gives stands there.
  pub field_read : (at : ℕ) → FieldRead s at (field_at s at)
  unfolding field_at
  field_read at = by (eqb at 0) (eqb at 4) (leb (length s) at) refl refl refl
    where
      by : (a b c : Bool) → eqb at 0 ≡ a → eqb at 4 ≡ b → leb (length s) at ≡ c
          → FieldRead s at (cond a (length_field s) (cond b (owners_field s) (cond c (Ok None) (offset_field s at))))
      by true b c p q r = rw (eqb-true at 0 p) length_step
      by false true c p q r = rw (eqb-true at 4 q) owners_step
      by false false true p q r = FieldRead.end (eqb-false at 0 p) (eqb-false at 4 q) (leb-true _ _ r)
      by false false false p q r = offset_step at (eqb-false at 0 p) (eqb-false at 4 q) (leb-false _ _ r)

  -- What stands at a place is what the definition gives.
  pub field_is : {at : ℕ} {x : ReadField} → FieldRead s at x → field_at s at ≡ x
  unfolding field_at length_field owners_field offset_field refused_at are_owners
  field_is (FieldRead.size p q) = rw (p, le-leb _ _ q)
  field_is (FieldRead.no_length (inl p)) = rw p
  field_is (FieldRead.no_length (inr q)) = rw (lt-leb _ _ q, and-false (is_field s 0 0x10 1))
  field_is (FieldRead.owners p q r) = rw (le-leb _ _ p, q, every_all (λ k. ltb (content_at s 4 k) IDS) _ (λ k h. lt-ltb _ _ (r k h)))
  field_is (FieldRead.no_owners (inl p)) = rw (lt-leb _ _ p)
  field_is (FieldRead.no_owners (inr (inl q))) = rw (q, and-false (leb (told_length s) LONGEST))
  field_is (FieldRead.no_owners (inr (inr w))) =
      rw (every_not (λ k. ltb (content_at s 4 k) IDS) _ w.0 w.1 (le-ltb _ _ w.2), and-false (leb (told_length s) LONGEST && is_field s 4 0x11 (told_length s)))
  field_is (FieldRead.offset {at = at} m n p q r) =
      let i = field_inside s at 0x12 2 p in
      rw (ne_eqb at 0 m, ne_eqb at 4 n, lt-leb (length s) at (omega arith), p, lt-ltb _ _ q, le-leb _ _ r)
  field_is (FieldRead.no_offset_field {at = at} m n h (inl p)) = rw (ne_eqb at 0 m, ne_eqb at 4 n, lt-leb (length s) at h, p)
  field_is (FieldRead.no_offset_field {at = at} m n h (inr (inl q))) =
      rw (ne_eqb at 0 m, ne_eqb at 4 n, lt-leb (length s) at h, le-ltb _ _ q, and-false (is_field s at 0x12 2))
  field_is (FieldRead.no_offset_field {at = at} m n h (inr (inr r))) =
      rw (ne_eqb at 0 m, ne_eqb at 4 n, lt-leb (length s) at h, lt-leb _ _ r, and-false (is_field s at 0x12 2 && ltb (content_at s at 0) IDS))
  field_is (FieldRead.end {at = at} m n h) = rw (ne_eqb at 0 m, ne_eqb at 4 n, le-leb (length s) at h)

  -- What the reader tells and where it goes is what stands there,
  pub step_read : (at : ℕ) → ReaderStep s at (field_of (field_at s at)) (place_after at (field_at s at))
  unfolding field_of place_after
  step_read at = by (field_at s at) (field_read at)
    where
      by : (y : ReadField) → FieldRead s at y → ReaderStep s at (field_of y) (place_after at y)
      by (Ok (Some x)) d = ReaderStep.moves d
      by (Ok None) d = ReaderStep.rests d
      by (Err r) d = ReaderStep.stays d

  -- and nothing else is.
  pub step_is : {at next : ℕ} {x : Reading (Option AnswerField)} → ReaderStep s at x next
      → (field_of (field_at s at) ≡ x) × (place_after at (field_at s at) ≡ next)
  unfolding field_of place_after
  step_is {at} (ReaderStep.moves d) = let e = field_is d in (ap field_of e, ap (place_after at) e)
  step_is {at} (ReaderStep.rests d) = let e = field_is d in (ap field_of e, ap (place_after at) e)
  step_is {at} (ReaderStep.stays d) = let e = field_is d in (ap field_of e, ap (place_after at) e)

  -- How reading goes on from a place: behind a field, which ends ahead and inside the record; or not at all, since nothing more stands there or it is refused.
  pub data Turn (at : ℕ) : ReadField → Type 0 where
    goes : {f : AnswerField} {next : ℕ} → at < next → next ≤ length s → Turn at (step f next)
    ends : Turn at (Ok None)
    stops : {r : Refusal} → Turn at (Err r)

  -- It goes on in one of these ways.
  pub turn : {at : ℕ} {x : ReadField} → FieldRead s at x → Turn at x
  turn (FieldRead.size p q) =
      let i = field_inside s 0 0x10 1 p in
      Turn.goes {next = 4} (omega arith) (omega arith)
  turn (FieldRead.owners p q r) =
      let i = field_inside s 4 0x11 _ q in
      Turn.goes {next = 7 + told_length s} (omega arith) (omega arith)
  turn (FieldRead.offset {at = at} m n p q r) =
      let i = field_inside s at 0x12 2 p in
      Turn.goes {next = at + 5} (omega arith) (omega arith)
  turn (FieldRead.no_length w) = Turn.stops
  turn (FieldRead.no_owners w) = Turn.stops
  turn (FieldRead.no_offset_field m n h w) = Turn.stops
  turn (FieldRead.end m n h) = Turn.ends

  -- A field that goes on ends inside the record.
  turn_inside : {at next : ℕ} {f : AnswerField} → Turn at (step f next) → next ≤ length s
  turn_inside (Turn.goes p q) = q

  -- Where nothing more stands the record is over, and no required field is due.
  pub end_read : {at : ℕ} → FieldRead s at (Ok None) → (at ≢ 0) × (at ≢ 4) × (length s ≤ at)
  end_read (FieldRead.end m n h) = (m, n, h)

  -- A field that is refused is refused 3, at its place.
  refused_read : {at : ℕ} {r : Refusal} → FieldRead s at (Err r) → (r.number ≡ BAD_FIELD) × (r.place ≡ at)
  refused_read (FieldRead.no_length w) = (refl, refl)
  refused_read (FieldRead.no_owners w) = (refl, refl)
  refused_read (FieldRead.no_offset_field m n h w) = (refl, refl)

  -- What the definition reads from a place on is read so, if it may read as many fields as the record has bytes from there on.
  fields_read : (most at : ℕ) (x : Schedule) → length s ≤ at + most → AnswerRead s at x (read_fields most s at x)
  unfolding read_fields read_end
  fields_read zero at x h = by (field_at s at) (field_read at) (turn (field_read at))
    where
      by : (y : ReadField) → FieldRead s at y → Turn at y → AnswerRead s at x (read_end x y)
      by y d (Turn.goes p q) = absurd (omega arith)
      by y d Turn.ends = AnswerRead.whole d
      by y d Turn.stops = AnswerRead.stop d
  fields_read (suc most) at x h = by (field_at s at) refl (field_read at) (turn (field_read at)) (fields_read most)
    where
      by : (y : ReadField) → field_at s at ≡ y → FieldRead s at y → Turn at y
          → ((k : ℕ) (z : Schedule) → length s ≤ k + most → AnswerRead s k z (read_fields most s k z)) → AnswerRead s at x (read_fields (suc most) s at x)
      by y e d (Turn.goes {next = next} p q) rest = rw (e, read_fields) (AnswerRead.more d p (rest _ _ (omega arith)))
      by y e d Turn.ends rest = rw (e, read_fields) (AnswerRead.whole d)
      by y e d Turn.stops rest = rw (e, read_fields) (AnswerRead.stop d)

  -- What is read so is what the definition reads.
  fields_is : {at : ℕ} {x : Schedule} {y : ReadAnswer} → AnswerRead s at x y → (most : ℕ) → length s ≤ at + most → read_fields most s at x ≡ y
  unfolding read_fields read_end
  fields_is (AnswerRead.more d p rest) zero h = absurd (omega (arith, turn_inside (turn d)))
  fields_is (AnswerRead.more d p rest) (suc most) h = rw (field_is d, read_fields) (fields_is rest most (omega arith))
  fields_is (AnswerRead.whole d) zero h = rw (field_is d)
  fields_is (AnswerRead.whole d) (suc most) h = rw (field_is d, read_fields)
  fields_is (AnswerRead.stop d) zero h = rw (field_is d)
  fields_is (AnswerRead.stop d) (suc most) h = rw (field_is d, read_fields)

  -- Reading from a place on gives what is read so,
  pub answer_read : (at : ℕ) → AnswerRead s at no_schedule (read_from s at)
  unfolding read_from
  answer_read at = fields_read (length s) at no_schedule (omega arith)

  -- and nothing else is.
  pub answer_is : {at : ℕ} {y : ReadAnswer} → AnswerRead s at no_schedule y → read_from s at ≡ y
  unfolding read_from
  answer_is d = fields_is d (length s) (omega arith)

  module _ (x : Schedule) where
    -- A length that stands is read, and then the owners;
    pub length_goes : (y : ReadAnswer) → length_stands s ≡ true
        → AnswerRead s 4 (record { length = told_length s; owners = x.owners; offsets = x.offsets }) y → AnswerRead s 0 x y
    unfolding length_field with_field
    length_goes y e d =
        let k : length_field s ≡ step (Length (told_length s)) 4 = rw e in
        AnswerRead.more (subst (FieldRead s 0) k length_step) (omega arith) d

    -- another is refused.
    pub length_stops : length_stands s ≡ false → AnswerRead s 0 x (Err (refusal BAD_FIELD 0))
    unfolding length_field refused_at
    length_stops e = AnswerRead.stop (let k : length_field s ≡ bad_field 0 = rw e in subst (FieldRead s 0) k length_step)

    -- Owners that stand are read, and then the offsets;
    pub owners_goes : (y : ReadAnswer) → owners_stand s ≡ true
        → AnswerRead s (7 + told_length s) (record { length = x.length; owners = owners_below s LONGEST; offsets = x.offsets }) y → AnswerRead s 4 x y
    unfolding owners_field with_field
    owners_goes y e d =
        let k : owners_field s ≡ step (Owners (told_length s)) (7 + told_length s) = rw e in
        AnswerRead.more (subst (FieldRead s 4) k owners_step) (omega arith) d

    -- others are refused.
    pub owners_stops : owners_stand s ≡ false
        → AnswerRead s 4 x (Err (refusal BAD_FIELD 4))
    unfolding owners_field refused_at
    owners_stops e = AnswerRead.stop (let k : owners_field s ≡ bad_field 4 = rw e in subst (FieldRead s 4) k owners_step)

    module _ (at : ℕ) (m : at ≢ 0) (n : at ≢ 4) where
      -- Helper of offset_goes: what is read behind this id and this offset.
      abbrev Behind : ReadAnswer → ℕ → ℕ → Type 0
      Behind y id offset =
          AnswerRead s (at + 5) (record { length = x.length; owners = x.owners; offsets = set x.offsets id (Some offset) }) y

      -- An offset that stands is read, and then the rest;
      pub offset_goes : (y : ReadAnswer) (id offset : ℕ) → id ≡ content_at s at 0 → offset ≡ content_at s at 1
          → offset_stands s at ≡ true
          → AnswerRead s (at + 5) (record { length = x.length; owners = x.owners; offsets = set x.offsets id (Some offset) }) y
          → AnswerRead s at x y
      unfolding offset_field with_field
      offset_goes y id offset p q e d =
          let k : offset_field s at ≡ step (Offset (content_at s at 0) (content_at s at 1)) (at + 5) = rw e in
          AnswerRead.more
          (subst (FieldRead s at) k (offset_step at m n (omega (arith, (offset_inside at e).0))))
          (omega arith)
          (subst (λ (i : ℕ). Behind y i (content_at s at 1)) p (subst (Behind y id) q d))

      -- another is refused;
      pub offset_stops : offset_stands s at ≡ false
          → at < length s → AnswerRead s at x (Err (refusal BAD_FIELD at))
      unfolding offset_field refused_at
      offset_stops e h = AnswerRead.stop (let k : offset_field s at ≡ bad_field at = rw e in subst (FieldRead s at) k (offset_step at m n h))

      -- and at the record's end all is read.
      pub offset_ends : length s ≤ at → AnswerRead s at x (Ok x)
      offset_ends h = AnswerRead.whole (FieldRead.end m n h)

  -- An answer that is refused is refused 3, at a place in the record or at its end.
  refused_inside : {at : ℕ} {x : Schedule} {y : ReadAnswer} → AnswerRead s at x y → at ≤ length s
      → IfErr y (λ r. (r.number ≡ BAD_FIELD) × (r.place ≤ length s))
  refused_inside (AnswerRead.more d p rest) h = refused_inside rest (turn_inside (turn d))
  refused_inside (AnswerRead.whole d) h = tt
  refused_inside (AnswerRead.stop d) h = let w = refused_read d in (w.0, omega (arith, w.1))

  pub answer_damaged : (r : Refusal) → read_from s 0 ≡ Err r → (r.number ≡ BAD_FIELD) × (r.place ≤ length s)
  answer_damaged r e = IfErr-at_err (λ r. (r.number ≡ BAD_FIELD) × (r.place ≤ length s)) e (refused_inside (answer_read 0) (omega arith))

-- Of an answer that is read what was read is told,
pub answer_told : (y : ReadAnswer) (x : Schedule) → y ≡ Ok x → told_schedule y ≡ x
unfolding told_schedule
answer_told y x e = ap told_schedule e

-- and of one that is refused nothing.
pub answer_untold : (x : ReadAnswer) (r : Refusal) → x ≡ Err r → NothingTold (told_schedule x)
unfolding told_schedule
answer_untold x r e =
    rw e
    (record { size = refl; owner = λ k. all_empty 0 LONGEST k; unlisted = λ i. all_empty {A = Option ℕ} None IDS i })
