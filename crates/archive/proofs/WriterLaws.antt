-- A listing that is handed over, entry by entry: those in range that rise, and the one place where they end or the next is refused. Assumes nothing.
use borrow.Author.Tests.{le-leb, leb-false, leb-true, lt-ltb, ltb-true}
use lib.Dec.{leb, ltb}
use lib.ListN.{drop, get_or, length, length-drop, set, take}
use lib.Seq.{get_or-drop}
use Rattle.std.proofs.lemmas.List.{take_all}
use mathlib.Core.Bool.{Bool, true, false, cond, ◌&&◌}
use mathlib.Core.List.{List}
use mathlib.Core.Path.{◌≡◌, refl, sym, ap, ap₂, ◌∙◌}
use native.Mathlib.Decide.{ℕ_discrete, dec_lt}
use native.Mathlib.Omega.{arith}
use Prim.Native.Nat.{ℕ, zero, suc, ◌+◌, ◌-◌, ◌*◌, ◌≤◌, ◌<◌}
use Rattle.std.specs.Prelude.{Ok, Err}
use Rattle.archive.specs.RequestWrite.{ask_at, bound_of, id_of, is_entry, checked, k_of, take_entries}
use Rattle.archive.specs.Writes.{EntriesRise, EntryRange}
use Rattle.numbers.specs.Numbers.{NOT_RISING, OUT_OF_RANGE, refusal}
use Rattle.records.specs.declared.Ask.{Ask}
use Rattle.records.specs.Request.{no_asks, Reading}
use Rattle.slots.proofs.Below.{and_both}
use Rattle.slots.specs.Limits.{IDS, LARGEST_BOUND, LARGEST_K}
use Rattle.timetable.specs.Sound.{is_bound}

module _ (listing : List ℕ) where
  -- The id of entry n is to be at least this: above the one before, and any for the first.
  unfoldable pub floor_of : ℕ → ℕ
  floor_of zero = 0
  floor_of (suc n) = suc (id_of listing n)

  -- What the first n entries ask.
  unfoldable pub asks_of : ℕ → List Ask
  asks_of zero = no_asks
  asks_of (suc n) = set (asks_of n) (id_of listing n) (ask_at listing n)

  -- A byte of the listing from entry n on.
  pub entry_byte : (n j : ℕ) → get_or (take (length listing - 3 * n) (drop (3 * n) listing)) j 0 ≡ get_or listing (3 * n + j) 0
  entry_byte n j = rw (take_all (length listing - 3 * n) (drop (3 * n) listing) (omega (arith, length-drop (3 * n) listing))) (get_or-drop (3 * n) listing j 0)

  -- The first of them is its id.
  pub entry_first : (n : ℕ) → get_or (take (length listing - 3 * n) (drop (3 * n) listing)) 0 0 ≡ id_of listing n
  entry_first n = let m : 3 * n + 0 ≡ 3 * n = omega arith in entry_byte n 0 ∙ ap (λ (k : ℕ). get_or listing k 0) m

  -- How many they are.
  pub entry_room : (n : ℕ) → length (take (length listing - 3 * n) (drop (3 * n) listing)) ≡ length listing - 3 * n
  entry_room n = rw (take_all (length listing - 3 * n) (drop (3 * n) listing) (omega (arith, length-drop (3 * n) listing))) (length-drop (3 * n) listing)

  -- An entry that passes the test is in range.
  pub entry_range : (n : ℕ) → is_entry listing n ≡ true → EntryRange listing n
  unfolding is_entry is_bound
  entry_range n e =
      let b = and_both (leb (3 * n + 3) (length listing) && ltb (id_of listing n) IDS && leb (k_of listing n) LARGEST_K) (is_bound (bound_of listing n)) e in
      let k = and_both (leb (3 * n + 3) (length listing) && ltb (id_of listing n) IDS) (leb (k_of listing n) LARGEST_K) b.0 in
      let i = and_both (leb (3 * n + 3) (length listing)) (ltb (id_of listing n) IDS) k.0 in
      let r = and_both (ltb 0 (bound_of listing n)) (leb (bound_of listing n) LARGEST_BOUND) b.1 in
      record {
        inside = leb-true (3 * n + 3) (length listing) i.0;
        id = ltb-true (id_of listing n) IDS i.1;
        k = leb-true (k_of listing n) LARGEST_K k.1;
        low = ltb-true 0 (bound_of listing n) r.0;
        high = leb-true (bound_of listing n) LARGEST_BOUND r.1;
      }

  -- An entry in range passes the test.
  entry_passes : (n : ℕ) → EntryRange listing n → is_entry listing n ≡ true
  unfolding is_entry is_bound
  entry_passes n r =
      ap₂ ◌&&◌
      (ap₂ ◌&&◌ (ap₂ ◌&&◌ (le-leb (3 * n + 3) (length listing) r.inside) (lt-ltb (id_of listing n) IDS r.id)) (le-leb (k_of listing n) LARGEST_K r.k))
      (ap₂ ◌&&◌ (lt-ltb 0 (bound_of listing n) r.low) (le-leb (bound_of listing n) LARGEST_BOUND r.high))

  -- An entry that does not pass it is not in range.
  pub entry_fails : (n : ℕ) → is_entry listing n ≡ false → ¬ (EntryRange listing n)
  entry_fails n e r = let k : true ≡ false = sym (entry_passes n r) ∙ e in absurd (let z : ◌≡◌ {A = ℕ} 0 1 = cc in omega arith)

  -- Where there is no entry, the entries rise.
  pub rise_none : EntriesRise listing 0
  rise_none = record { range = λ m h. absurd (omega arith); rise = λ m h. absurd (omega arith) }

  -- One entry more, in range and above the one before.
  pub rise_more : (n : ℕ) → EntriesRise listing n → EntryRange listing n → floor_of n ≤ id_of listing n → EntriesRise listing (suc n)
  unfolding floor_of
  rise_more n r e f = record { range = λ m h. range m h (ℕ_discrete m n); rise = λ m h. rise m h (ℕ_discrete (suc m) n) }
    where
      range : (m : ℕ) → m < suc n → Dec (m ≡ n) → EntryRange listing m
      range m h (yes q) = rw q e
      range m h (no q) = r.range m (omega arith)

      rise : (m : ℕ) → suc m < suc n → Dec (suc m ≡ n) → id_of listing m < id_of listing (suc m)
      rise m h (yes q) = rw (← q) at f
      rise m h (no q) = r.rise m (omega arith)

  -- Fewer entries rise too.
  pub rise_less : (n : ℕ) {k : ℕ} → EntriesRise listing k → n ≤ k → EntriesRise listing n
  rise_less n r l = record { range = λ m h. r.range m (omega arith); rise = λ m h. r.rise m (omega arith) }

  -- The last of them is above the one before.
  pub rise_floor : (n : ℕ) → EntriesRise listing (suc n) → floor_of n ≤ id_of listing n
  unfolding floor_of
  rise_floor zero r = omega arith
  rise_floor (suc n) r = r.rise n (omega arith)

  -- Entries that rise are not cut short.
  pub rise_inside : (n : ℕ) → EntriesRise listing n → 3 * n ≤ length listing
  rise_inside zero r = omega arith
  rise_inside (suc n) r = omega (arith, (r.range n (omega arith)).inside)

  -- The ids of entries that rise are below the next one's floor,
  pub rise_below : (n m : ℕ) → EntriesRise listing n → m < n → id_of listing m < floor_of n
  unfolding floor_of
  rise_below zero m r h = elim h [ ]
  rise_below (suc n) m r h = at (ℕ_discrete m n) (rise_below n m (rise_less n r (omega arith)))
    where
      at : Dec (m ≡ n) → (m < n → id_of listing m < floor_of n) → id_of listing m < suc (id_of listing n)
      at (yes q) ih = rw q (omega arith)
      at (no q) ih = omega (arith, ih (omega arith), rise_floor n r)

  -- their number is no higher than it,
  rise_count : (n : ℕ) → EntriesRise listing n → n ≤ floor_of n
  unfolding floor_of
  rise_count zero r = omega arith
  rise_count (suc n) r = omega (arith, rise_count n (rise_less n r (omega arith)), rise_floor n r)

  -- and there are no more of them than ids.
  pub rise_few : (n : ℕ) → EntriesRise listing n → n ≤ IDS
  unfolding floor_of
  rise_few zero r = omega arith
  rise_few (suc n) r = omega (arith, rise_count (suc n) r, (r.range n (omega arith)).id)

  -- Why no entry after the first n is taken: none is left, or the next is out of range, or it is not above the one before.
  pub data Stop (n : ℕ) : Reading (List Ask) → Type 0 where
    end : length listing ≡ 3 * n → Stop n (Ok (asks_of n))
    high : 3 * n < length listing → ¬ (EntryRange listing n) → Stop n (Err (refusal OUT_OF_RANGE n))
    low : EntryRange listing n → id_of listing n < floor_of n → Stop n (Err (refusal NOT_RISING n))

  -- Entries that rise go no further than where they stop.
  stop_last : (n m : ℕ) {x : Reading (List Ask)} → Stop n x → EntriesRise listing m → m ≤ n
  stop_last n m s r = at (dec_lt n m) s
    where
      at : Dec (n < m) → {x : Reading (List Ask)} → Stop n x → m ≤ n
      at (no q) s = omega arith
      at (yes q) (Stop.end e) = omega (arith, rise_inside m r)
      at (yes q) (Stop.high e f) = absurd (f (r.range n q))
      at (yes q) (Stop.low e f) = omega (arith, rise_floor n (rise_less (suc n) r q))

  -- The same end of the same entries is the same reading.
  stop_same : (n : ℕ) {x y : Reading (List Ask)} → Stop n x → Stop n y → x ≡ y
  stop_same n (Stop.end e) (Stop.end f) = refl
  stop_same n (Stop.end e) (Stop.high f g) = absurd (omega arith)
  stop_same n (Stop.end e) (Stop.low f g) = absurd (omega (arith, f.inside))
  stop_same n (Stop.high e f) (Stop.end g) = absurd (omega arith)
  stop_same n (Stop.high e f) (Stop.high g h) = refl
  stop_same n (Stop.high e f) (Stop.low g h) = absurd (f g)
  stop_same n (Stop.low e f) (Stop.end g) = absurd (omega (arith, e.inside))
  stop_same n (Stop.low e f) (Stop.high g h) = absurd (h e)
  stop_same n (Stop.low e f) (Stop.low g h) = refl

  -- How a listing is taken: entries that rise up to where they stop.
  pub record Taken (x : Reading (List Ask)) : Type 0 where
    pub n : ℕ
    pub rise : EntriesRise listing n
    pub stop : Stop n x

  -- The entries from entry n on are taken so.
  taken_from : (most n : ℕ) → length listing ≤ 3 * n + most → EntriesRise listing n → Taken (take_entries most listing n (floor_of n) (asks_of n))
  unfolding take_entries asks_of floor_of
  taken_from zero n h r = record { n = n; rise = r; stop = Stop.end (omega (arith, rise_inside n r)) }
  taken_from (suc most) n h r =
      at (leb (length listing) (3 * n)) refl (is_entry listing n) refl (leb (floor_of n) (id_of listing n)) refl (taken_from most (suc n) (omega arith))
    where
      at : (a : Bool) → leb (length listing) (3 * n) ≡ a → (b : Bool) → is_entry listing n ≡ b → (d : Bool) → leb (floor_of n) (id_of listing n) ≡ d
          → (EntriesRise listing (suc n) → Taken (take_entries most listing (suc n) (floor_of (suc n)) (asks_of (suc n))))
          → Taken
          (cond a (Ok (asks_of n))
          (cond b
          (cond d (take_entries most listing (suc n) (floor_of (suc n)) (asks_of (suc n))) (Err (refusal NOT_RISING n)))
          (Err (refusal OUT_OF_RANGE n))))
      at true e b f d g ih =
          record { n = n; rise = r; stop = Stop.end (omega (arith, leb-true (length listing) (3 * n) e, rise_inside n r)) }
      at false e false f d g ih =
          record { n = n; rise = r; stop = Stop.high (leb-false (length listing) (3 * n) e) (entry_fails n f) }
      at false e true f false g ih =
          record { n = n; rise = r; stop = Stop.low (entry_range n f) (leb-false (floor_of n) (id_of listing n) g) }
      at false e true f true g ih = ih (rise_more n r (entry_range n f) (leb-true (floor_of n) (id_of listing n) g))

  -- The whole listing is taken so,
  pub entries_taken : Taken (take_entries (length listing) listing 0 0 no_asks)
  unfolding asks_of floor_of
  entries_taken = taken_from (length listing) 0 (omega arith) rise_none

  -- and in no other way.
  pub taken_is : (n : ℕ) (x : Reading (List Ask)) → EntriesRise listing n → Stop n x → take_entries (length listing) listing 0 0 no_asks ≡ x
  taken_is n x r s =
      let t = entries_taken in
      let e : t.n ≡ n = omega (arith, stop_last n t.n s t.rise, stop_last t.n n t.stop r) in
      stop_same n (rw e at t.stop) s

  -- What is checked of entries where they stop.
  pub checked_is : (n : ℕ) (x : Reading (List Ask)) → EntriesRise listing n → Stop n x
      → checked x ≡ checked (take_entries (length listing) listing 0 0 no_asks)
  checked_is n x r s = sym (ap (λ (y : Reading (List Ask)). checked y) (taken_is n x r s))
