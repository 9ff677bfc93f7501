-- Reading what was written gives it back: each field stands where the one before ends. Assumes nothing.
use lib.ListN.{drop, get_or, length, length-append, take}
use lib.Seq.{drop_at, drop-drop, ext_get_or, get_or_at, get_or-drop, take_all, take_at, take-suc}
use mathlib.Core.List.{List, [], ◌∷◌, ◌++◌, append_assoc, append-nil}
use mathlib.Core.Path.{◌≡◌, refl, sym, ap, ◌∙◌}
use native.Mathlib.Omega.{arith}
use Prim.Native.Nat.{ℕ, zero, suc, ◌+◌, ◌*◌, ◌^◌, ◌≤◌, ◌<◌}
use Rattle.board.proofs.StoreLaws.{entries_length, entry_length, rising_stands, start_length}
use Rattle.board.proofs.HeldLaws.{held_at, held_length}
use Rattle.board.specs.Image.{BASE_AT, ENTRIES_AT, ENTRY, Fits, LENGTH_AT, OWNERS_AT, START, STARTS_AT, entries_at, entries_bytes, entry_at, entry_bytes, image_of, start_at, starts_at, starts_bytes, timetable_at}
use Rattle.records.proofs.FieldStands.{number_length, number_stands}
use Rattle.records.proofs.RisingLaws.{rising_same}
use Rattle.records.specs.Answer.{rising}
use Rattle.records.specs.Request.{number_at}
use Rattle.records.specs.Written.{number_bytes}
use Rattle.slots.specs.Clocks.{core_slot}
use Rattle.slots.specs.Limits.{IDS, LONGEST}
use Rattle.timetable.specs.declared.Entry.{Entry}
use Rattle.timetable.specs.declared.Timetable.{Timetable}
use Rattle.timetable.specs.Timetable.{entry_of, no_entry, start_of}

module _ (s : List ℕ) where
  -- An entry is read back from its six bytes.
  entry_back : (at : ℕ) (e : Entry) (rest : List ℕ) → e.period < 2 ^ 16 → e.shortfall < 2 ^ 16 → drop at s ≡ entry_bytes e ++ rest → entry_at s at ≡ e
  unfolding entry_bytes number_bytes
  entry_back at e rest p q d =
      let period : number_at s at 2 ≡ e.period =
      number_stands s at 2 e.period (e.offset ∷ e.bound ∷ number_bytes e.shortfall 2 ++ rest) (omega arith) d in
      let offset : get_or s (at + 2) 0 ≡ e.offset = sym (get_or-drop at s 2 0) ∙ ap (λ (z : List ℕ). get_or z 2 0) d in
      let bound : get_or s (at + 3) 0 ≡ e.bound = sym (get_or-drop at s 3 0) ∙ ap (λ (z : List ℕ). get_or z 3 0) d in
      let shortfall : number_at s (at + 4) 2 ≡ e.shortfall =
      number_stands s (at + 4) 2 e.shortfall rest (omega arith) (sym (drop-drop 4 at s) ∙ ap (λ (z : List ℕ). drop 4 z) d) in
      λ i. record { period = period i; offset = offset i; bound = bound i; shortfall = shortfall i }

-- A list is its elements, one behind the other.
rising_take : (l : List ℕ) (n : ℕ) → n ≤ length l → rising (λ i. get_or l i 0 ∷ []) n ≡ take n l
unfolding rising
rising_take l zero h = refl
rising_take l (suc n) h = ap (λ (z : List ℕ). z ++ get_or l n 0 ∷ []) (rising_take l n (omega arith)) ∙ sym (take-suc l n 0 (omega arith))

-- A timetable is read back from its image.
pub read_back : (t : Timetable) → Fits t → timetable_at (image_of t) ≡ t
unfolding image_of timetable_at
read_back t f = λ i. record {
  request = core_slot (request i);
  length = size i;
  owners = owners i;
  base = core_slot (base i);
  entries = entries i;
  starts = starts i;
}
  where
    s : List ℕ
    s = image_of t

    r : List ℕ
    r = number_bytes t.request.0 8

    b : List ℕ
    b = number_bytes t.base.0 8

    es : List ℕ
    es = entries_bytes t.entries IDS

    ss : List ℕ
    ss = starts_bytes t.starts IDS

    -- what stands before the owners, the base, the entries and the starts
    two : List ℕ
    two = r ++ t.length ∷ []

    two_length : length two ≡ OWNERS_AT
    two_length = simp length-append (omega (arith, number_length t.request.0 8))

    three : List ℕ
    three = two ++ t.owners

    three_length : length three ≡ BASE_AT
    three_length = simp length-append (omega (arith, number_length t.request.0 8, f.owners))

    four : List ℕ
    four = three ++ b

    four_length : length four ≡ ENTRIES_AT
    four_length = simp length-append (omega (arith, number_length t.request.0 8, f.owners, number_length t.base.0 8))

    five : List ℕ
    five = four ++ es

    five_length : length five ≡ STARTS_AT
    five_length = length-append four es ∙ omega (arith, four_length, entries_length t.entries IDS)

    from_start : s ≡ r ++ (t.length ∷ t.owners ++ b ++ es ++ ss)
    from_start = simp append_assoc

    from_owners : s ≡ two ++ (t.owners ++ (b ++ es ++ ss))
    from_owners = simp append_assoc

    from_base : s ≡ three ++ (b ++ (es ++ ss))
    from_base = simp append_assoc

    from_entries : s ≡ four ++ (es ++ ss)
    from_entries = simp append_assoc

    from_starts : s ≡ five ++ (ss ++ [])
    from_starts = simp (append_assoc, append-nil)

    request : number_at s 0 8 ≡ t.request.0
    request = number_stands s 0 8 t.request.0 (t.length ∷ t.owners ++ b ++ es ++ ss) (omega (arith, f.request)) from_start

    size : get_or s LENGTH_AT 0 ≡ t.length
    size = ap (λ (z : List ℕ). get_or z LENGTH_AT 0) from_start ∙ get_or_at r t.length (t.owners ++ b ++ es ++ ss) 0 LENGTH_AT (number_length t.request.0 8)

    owners : take LONGEST (drop OWNERS_AT s) ≡ t.owners
    owners =
        ap (λ (z : List ℕ). take LONGEST (drop OWNERS_AT z)) from_owners
        ∙ ap (take LONGEST) (drop_at two (t.owners ++ (b ++ es ++ ss)) OWNERS_AT two_length)
        ∙ take_at t.owners (b ++ es ++ ss) LONGEST f.owners

    base : number_at s BASE_AT 8 ≡ t.base.0
    base =
        number_stands s BASE_AT 8 t.base.0 (es ++ ss) (omega (arith, f.base))
        (ap (λ (z : List ℕ). drop BASE_AT z) from_base ∙ drop_at three (b ++ (es ++ ss)) BASE_AT three_length)

    entry : (i : ℕ) → i < IDS → entry_at s (ENTRIES_AT + ENTRY * i) ≡ entry_of t.entries i
    entry i h =
        let w = rising_stands _ ENTRY (λ j. entry_length (entry_of t.entries j)) s four ss ENTRIES_AT IDS i from_entries four_length h in
        entry_back s (ENTRIES_AT + ENTRY * i) (entry_of t.entries i) w.0 (f.period i h) (f.shortfall i h) w.1

    entries : entries_at s IDS ≡ t.entries
    entries =
        ext_get_or no_entry (entries_at s IDS) t.entries (held_length s ∙ sym f.entries)
        (λ i h. held_at s i (omega (arith, held_length s)) ∙ entry i (omega (arith, held_length s)))

    start : (i : ℕ) → i < IDS → start_at s (STARTS_AT + START * i) ≡ start_of t i
    start i h =
        let w = rising_stands _ START (start_length t.starts) s five [] STARTS_AT IDS i from_starts five_length h in
        number_stands s (STARTS_AT + START * i) START (start_of t i) w.0 (omega (arith, f.start i h)) w.1

    starts : starts_at s IDS ≡ t.starts
    starts =
        rising_same (λ i. start_of t i ∷ []) _ IDS (λ i h. ap (λ (x : ℕ). x ∷ []) (start i h))
        ∙ rising_take t.starts IDS (omega (arith, f.starts))
        ∙ take_all IDS t.starts (omega (arith, f.starts))
