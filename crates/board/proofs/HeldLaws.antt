-- What an image holds, as it is read: a slot, an entry, a start from their bytes, the entries, the starts, the whole timetable. Assumes nothing.
use lib.ListN.{drop, get_or, length, get_or-append, length-replicate, replicate, set, take}
use lib.Seq.{ext_get_or, get_or_at, get_or-drop, get_or-set_other, get_or-set_same}
use mathlib.Core.List.{List, []}
use mathlib.Core.Path.{◌≡◌, refl, sym, ap, ◌∙◌}
use native.Mathlib.Decide.{ℕ_discrete}
use native.Mathlib.Omega.{arith}
use Prim.Native.Nat.{ℕ, zero, suc, ◌+◌, ◌*◌, ◌<◌}
use Rattle.std.proofs.lemmas.List.{get_or-take}
use Rattle.std.specs.Int.{from_be_bytes, w16, w64}
use Rattle.board.proofs.StoreLaws.{rising_length}
use Rattle.board.specs.Image.{BASE_AT, ENTRIES_AT, ENTRY, LENGTH_AT, OWNERS_AT, START, STARTS_AT, entries_at, entry_at, start_at, starts_at, timetable_at}
use Rattle.records.specs.Answer.{rising}
use Rattle.records.specs.Request.{number_at}
use Rattle.slots.specs.Clocks.{core_slot}
use Rattle.slots.specs.declared.CoreSlot.{CoreSlot}
use Rattle.slots.specs.Limits.{IDS, LONGEST}
use Rattle.timetable.proofs.Entries.{each_at, length_each}
use Rattle.timetable.specs.declared.Entry.{Entry}
use Rattle.timetable.specs.declared.Timetable.{Timetable}
use Rattle.timetable.specs.Timetable.{entry_of, no_entry}

-- A part of an image that is read by itself.
module _ (s : List ℕ) (at n : ℕ) (part : List ℕ) (e : part ≡ take n (drop at s)) where
  -- Its bytes are those from its place on.
  byte : (k to : ℕ) → to ≡ at + k → k < n → get_or part k 0 ≡ get_or s to 0
  byte k to p h =
      ap (λ (x : List ℕ). get_or x k 0) e ∙ get_or-take n (drop at s) k 0 h ∙ get_or-drop at s k 0 ∙ ap (λ (x : ℕ). get_or s x 0) (sym p)

module _ (s : List ℕ) (at : ℕ) (part : List ℕ) where
  -- A start.
  pub start_read : part ≡ take START (drop at s) → (v : ℕ) → v ≡ from_be_bytes w16 part → v ≡ start_at s at
  unfolding number_at
  start_read e v p =
      let b = byte s at START part e in
      omega (arith, p, b 0 (at + 0) refl (omega arith), b 1 (at + 1) refl (omega arith))

  -- A slot.
  pub slot_read : part ≡ take 8 (drop at s) → (v : ℕ) → v ≡ from_be_bytes w64 part → core_slot v ≡ core_slot (number_at s at 8)
  unfolding number_at
  slot_read e v p =
      let b = byte s at 8 part e in
      ap core_slot
      (omega (arith, p, b 0 (at + 0) refl (omega arith), b 1 (at + 1) refl (omega arith), b 2 (at + 2) refl (omega arith), b 3 (at + 3) refl (omega arith), b 4 (at + 4) refl (omega arith), b 5 (at + 5) refl (omega arith), b 6 (at + 6) refl (omega arith), b 7 (at + 7) refl (omega arith)))

  -- An entry.
  pub entry_read : part ≡ take ENTRY (drop at s) → (p q : ℕ) → p ≡ get_or part 0 0 * 256 + get_or part 1 0 → q ≡ get_or part 4 0 * 256 + get_or part 5 0
      → ◌≡◌ {A = Entry} (record { period = p; offset = get_or part 2 0; bound = get_or part 3 0; shortfall = q }) (entry_at s at)
  unfolding number_at
  entry_read e p q u v =
      let b = byte s at ENTRY part e in
      let period : p ≡ number_at s at 2 = omega (arith, u, b 0 (at + 0) refl (omega arith), b 1 (at + 1) refl (omega arith)) in
      let shortfall : q ≡ number_at s (at + 4) 2 =
      omega (arith, v, b 4 (at + 4 + 0) (omega arith) (omega arith), b 5 (at + 4 + 1) (omega arith) (omega arith)) in
      λ i. record {
        period = period i;
        offset = b 2 (at + 2) refl (omega arith) i;
        bound = b 3 (at + 3) refl (omega arith) i;
        shortfall = shortfall i;
      }

-- Of a list whose first n are those of an image one more is put in.
pub one_more : {A : Type 0} (d : A) (f : ℕ → A) (l : List A) (n : ℕ) (v : A) → n < length l → v ≡ f n → ((i : ℕ) → i < n → get_or l i d ≡ f i)
    → (i : ℕ) → i < n + 1 → get_or (set l n v) i d ≡ f i
one_more d f l n v h e below i m = at (ℕ_discrete i n)
  where
    at : Dec (i ≡ n) → get_or (set l n v) i d ≡ f i
    at (yes z) = rw z (get_or-set_same l n v d h ∙ e)
    at (no z) = get_or-set_other l n i v d z ∙ below i (omega arith)

module _ (s : List ℕ) where
  -- There are as many entries as ids.
  pub held_length : length (entries_at s IDS) ≡ IDS
  held_length = length_each _ IDS (replicate IDS no_entry) ∙ length-replicate IDS no_entry

  -- The entry of an id is what its six bytes hold.
  pub held_at : (i : ℕ) → i < IDS → entry_of (entries_at s IDS) i ≡ entry_at s (ENTRIES_AT + ENTRY * i)
  held_at i h = each_at _ IDS (replicate IDS no_entry) (omega (arith, length-replicate IDS no_entry)) i h

  -- Entries that are each read from their bytes.
  pub entries_read : (es : List Entry) → length es ≡ IDS
      → ((i : ℕ) → i < IDS → entry_of es i ≡ entry_at s (ENTRIES_AT + ENTRY * i)) → es ≡ entries_at s IDS
  entries_read es n each =
      ext_get_or no_entry es (entries_at s IDS) (n ∙ sym held_length)
      (λ i h. each i (omega (arith, n)) ∙ sym (held_at i (omega (arith, n))))

  -- There are as many starts as ids.
  starts_length : (n : ℕ) → length (starts_at s n) ≡ n
  starts_length n = rising_length _ 1 (λ i. refl) n ∙ omega arith

  -- The start of an id is what its two bytes hold.
  start_held : (n i : ℕ) → i < n → get_or (starts_at s n) i 0 ≡ start_at s (STARTS_AT + START * i)
  unfolding rising
  start_held zero i h = absurd (omega arith)
  start_held (suc n) i h = at (ℕ_discrete i n) (start_held n i)
    where
      at : Dec (i ≡ n) → (i < n → get_or (starts_at s n) i 0 ≡ start_at s (STARTS_AT + START * i))
          → get_or (starts_at s (suc n)) i 0 ≡ start_at s (STARTS_AT + START * i)
      at (yes e) below = rw e (get_or_at (starts_at s n) _ [] 0 n (starts_length n))
      at (no m) below = get_or-append (starts_at s n) _ 0 i (omega (arith, starts_length n)) ∙ below (omega arith)

  -- Starts that are each read from their bytes.
  pub starts_read : (ss : List ℕ) → length ss ≡ IDS
      → ((i : ℕ) → i < IDS → get_or ss i 0 ≡ start_at s (STARTS_AT + START * i)) → ss ≡ starts_at s IDS
  starts_read ss n each =
      ext_get_or 0 ss (starts_at s IDS) (n ∙ sym (starts_length IDS))
      (λ i h. each i (omega (arith, n)) ∙ sym (start_held IDS i (omega (arith, n))))

-- The fields are the timetable.
pub held : (image owners starts : List ℕ) (es : List Entry) (request base : CoreSlot) (size : ℕ) → request ≡ core_slot (number_at image 0 8) → size ≡ get_or image LENGTH_AT 0
    → owners ≡ take LONGEST (drop OWNERS_AT image) → base ≡ core_slot (number_at image BASE_AT 8) → es ≡ entries_at image IDS → starts ≡ starts_at image IDS
    → ◌≡◌ {A = Timetable} (record { request = request; length = size; owners = owners; base = base; entries = es; starts = starts }) (timetable_at image)
unfolding timetable_at
held image owners starts es request base size p l q r s u = rw (p, l, q, r, s, u)
