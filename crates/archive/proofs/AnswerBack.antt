-- A schedule in range is read back from its record: each field stands where the one before ends. Assumes nothing.
use lib.ListN.{drop, get_or, length, length-drop, length-replicate, replicate, set, take}
use lib.Seq.{get_or-take, length-take-le}
use mathlib.Core.Bool.{Bool, true, false, cond}
use mathlib.Core.List.{List, [], ◌∷◌, ◌++◌, append_assoc, map}
use mathlib.Core.Path.{◌≡◌, refl, sym, ap, ◌∙◌, subst, subst₂}
use native.Mathlib.Decide.{dec_lt}
use native.Mathlib.Omega.{arith}
use Prim.Native.Nat.{ℕ, zero, suc, ◌+◌, ◌≤◌, ◌<◌}
use Rattle.std.specs.Prelude.{Ok, Some, None}
use Rattle.std.specs.declared.option.Option.{Option}
use Rattle.std.specs.Option.{is_some, unwrap_or}
use Rattle.archive.proofs.AnswerForms.{floor_first, floor_next, owner_none, owner_told, id_bytes}
use Rattle.archive.proofs.AnswerSteps.{AnswerRead, FieldRead, answer_is}
use Rattle.archive.proofs.ScheduleLaws.{owners_are, placed_map}
use Rattle.archive.specs.AnswerRead.{floor_at, told_owner, owners_below, entry_offset, id_offset, read_answer, schedule_record, told_length, with_field}
use Rattle.archive.specs.AnswerReads.{ScheduleRange}
use Rattle.archive.specs.declared.Schedule.{Schedule}
use Rattle.records.proofs.FieldStands.{after_stands, content_stands, field_stands}
use Rattle.records.proofs.RisingLaws.{FilledTo, all_empty, filled_all, filled_next, filled_same, rising_same, rising_split, rising_from}
use Rattle.records.specs.Answer.{answer_record, field, rising}
use Rattle.records.specs.Request.{content_at, is_field}
use Rattle.slots.specs.Limits.{IDS, LONGEST}
use Rattle.timetable.specs.declared.Entry.{Entry}
use Rattle.timetable.specs.Timetable.{entry_of, is_listed}

module _ (x : Schedule) (range : ScheduleRange x) where
  abbrev s : List ℕ
  s = schedule_record x

  abbrev all : List (Option ℕ)
  all = x.offsets

  -- The schedule with other offsets.
  abbrev with_offsets : List (Option ℕ) → Schedule
  with_offsets offsets = record { length = x.length; owners = x.owners; offsets = offsets }

  -- The offset fields are read back from any id on.
  offsets_back : (n at floor : ℕ) (offsets : List (Option ℕ)) → floor + n ≡ IDS → 7 + told_length s ≤ at → floor_at s at ≤ floor → FilledTo None all floor offsets
      → drop at s ≡ rising_from (id_bytes all) floor n → AnswerRead s at (with_offsets offsets) (Ok x)
  unfolding rising_from with_field
  offsets_back zero at floor offsets m h l r e =
      let same : offsets ≡ all = filled_all None all offsets floor r (omega (arith, range.ids)) in
      subst (λ (z : List (Option ℕ)). AnswerRead s at (with_offsets z) (Ok x)) (sym same)
      (AnswerRead.whole (FieldRead.end (λ (z : at ≡ 0). omega arith) (λ (z : at ≡ 4). omega arith) (omega (arith, length-drop at s, ap (λ (z : List ℕ). length z) e))))
  offsets_back (suc n) at floor offsets m h l r e = by (id_offset all floor) refl (λ k. offsets_back n k (suc floor)) e
    where
      by : (t : Option ℕ) → id_offset all floor ≡ t
          → ((k : ℕ) (z : List (Option ℕ)) → suc floor + n ≡ IDS → 7 + told_length s ≤ k → floor_at s k ≤ suc floor → FilledTo None all (suc floor) z
          → drop k s ≡ rising_from (id_bytes all) (suc floor) n → AnswerRead s k (with_offsets z) (Ok x))
          → drop at s ≡ cond (is_some t) (field 0x12 (floor ∷ unwrap_or t 0 ∷ [])) [] ++ rising_from (id_bytes all) (suc floor) n
          → AnswerRead s at (with_offsets offsets) (Ok x)
      by None q rest e = rest at offsets (omega arith) h (omega arith) (filled_same None all offsets floor r q) e
      by (Some o) q rest e =
          let content = floor ∷ o ∷ [] in
          let more = rising_from (id_bytes all) (suc floor) n in
          let i = content_stands s at 0x12 content more e 0 (omega arith) in
          let j = content_stands s at 0x12 content more e 1 (omega arith) in
          AnswerRead.more
          (FieldRead.offset (λ (z : at ≡ 0). omega arith) (λ (z : at ≡ 4). omega arith) (field_stands s at 0x12 content more e) (omega (arith, i)) (omega (arith, i)))
          (omega arith)
          (subst₂ (λ (a b : ℕ). AnswerRead s (at + 5) (with_offsets (set offsets a (Some b))) (Ok x)) (sym i) (sym j)
          (rest (at + 5) (set offsets floor (Some o)) (omega arith) (omega arith) (omega (arith, floor_next s at h, i))
          (filled_next None all offsets floor r (Some o) (omega (arith, r.count, range.ids)) (sym q))
          (after_stands s at 0x12 content more e (at + 5) (omega arith))))

  -- The owners, and the fields behind the transition's length.
  abbrev owners : List ℕ
  owners = take x.length x.owners

  abbrev fields : List ℕ
  fields = rising (id_bytes all) IDS

  -- The record is the two required fields and then the offsets.
  cut : drop 0 s ≡ field 0x10 (x.length ∷ []) ++ (field 0x11 owners ++ fields)
  unfolding schedule_record
  cut = append_assoc (field 0x10 (x.length ∷ [])) (field 0x11 owners) fields

  -- Behind the first stand the owners,
  cut_owners : drop 4 s ≡ field 0x11 owners ++ fields
  cut_owners = after_stands s 0 0x10 (x.length ∷ []) (field 0x11 owners ++ fields) cut 4 refl

  -- as many as the length,
  owners_count : length owners ≡ x.length
  owners_count = length-take-le x.length x.owners (omega (arith, range.short, range.slots))

  -- and behind them the offsets.
  cut_offsets : drop (7 + x.length) s ≡ fields
  cut_offsets = after_stands s 4 0x11 owners fields cut_owners (7 + x.length) (omega (arith, owners_count))

  -- The length is told.
  told : told_length s ≡ x.length
  told = content_stands s 0 0x10 (x.length ∷ []) (field 0x11 owners ++ fields) cut 0 (omega arith)

  -- Each owner is told.
  owner_back : (k : ℕ) → k < x.length → content_at s 4 k ≡ get_or x.owners k 0
  owner_back k h = content_stands s 4 0x11 owners fields cut_owners k (omega (arith, owners_count)) ∙ get_or-take x.length x.owners k 0 h

  -- All owners are told, and 0 for the slots that the transition does not have.
  owners_back : x.owners ≡ owners_below s LONGEST
  owners_back = owners_are s LONGEST x.owners range.slots (λ k h. by k h (dec_lt k x.length))
    where
      by : (k : ℕ) → k < LONGEST → Dec (k < x.length) → get_or x.owners k 0 ≡ told_owner s k
      by k h (yes l) = sym (owner_told s k (omega (arith, told)) ∙ owner_back k l)
      by k h (no l) = range.unused k (omega arith) h ∙ sym (owner_none s k (omega (arith, told)))

  -- A schedule in range is read back from its record.
  pub answer_back : read_answer s ≡ Ok x
  unfolding with_field rising
  answer_back =
      let n = x.length in
      let start : FilledTo {A = Option ℕ} None all 0 (replicate IDS None) =
      record { count = length-replicate {A = Option ℕ} IDS None ∙ sym range.ids; below = λ i h. absurd (omega arith); above = λ i h. all_empty {A = Option ℕ} None IDS i } in
      let rest = offsets_back IDS (7 + told_length s) 0 (replicate IDS None) refl (omega arith) (omega (arith, floor_first s)) start
      (rw told cut_offsets ∙ rising_split (id_bytes all) 0 IDS) in
      let short : told_length s ≤ LONGEST = omega (arith, told, range.short) in
      let owners_field_at : is_field s 4 0x11 (told_length s) ≡ true =
      ap (is_field s 4 0x11) (told ∙ sym owners_count) ∙ field_stands s 4 0x11 owners fields cut_owners in
      answer_is s
      (AnswerRead.more (FieldRead.size (field_stands s 0 0x10 (n ∷ []) (field 0x11 owners ++ fields) cut) short) (omega arith)
      (AnswerRead.more
      (FieldRead.owners short owners_field_at (λ k h. omega (arith, owner_back k (omega (arith, told)), range.owner k (omega (arith, told)))))
      (omega arith)
      (subst₂ (λ (a : ℕ) (b : List ℕ). AnswerRead s (7 + told_length s) (record { length = a; owners = b; offsets = replicate IDS None }) (Ok x))
      (sym told) owners_back rest)))

-- What is written of an id is what its entry says.
placed_bytes : (es : List Entry) (i : ℕ)
    → id_bytes (map entry_offset es) i ≡ cond (is_listed (entry_of es i)) (field 0x12 (i ∷ (entry_of es i).offset ∷ [])) []
placed_bytes es i = rw (placed_map es i) (by (is_listed (entry_of es i)))
  where
    by : (b : Bool) → cond (is_some (cond b (Some (entry_of es i).offset) None))
        (field 0x12 (i ∷ unwrap_or (cond b (Some (entry_of es i).offset) None) 0 ∷ [])) []
        ≡ cond b (field 0x12 (i ∷ (entry_of es i).offset ∷ [])) []
    by true = refl
    by false = refl

-- The answer of a transition and these entries is the record of their schedule.
pub entries_record : (n : ℕ) (owners : List ℕ) (es : List Entry)
    → answer_record n owners es ≡ schedule_record (record { length = n; owners = owners; offsets = map entry_offset es })
unfolding answer_record schedule_record
entries_record n owners es =
    ap (λ (z : List ℕ). field 0x10 (n ∷ []) ++ field 0x11 (take n owners) ++ z)
    (sym (rising_same _ (id_bytes (map entry_offset es)) IDS (λ i h. placed_bytes es i)))
