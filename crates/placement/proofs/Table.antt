-- What the table of taken slots says once the slots of an offset are marked, word after word, and what the search of it for a free slot finds.
-- Assumes nothing.
use borrow.Author.Tests.{le-leb, lt-leb, ne_eqb, not-false, not-true}
use lib.Bits.{bit_or}
use lib.Count.{count_leading_zeros}
use lib.Dec.{eqb, leb}
use lib.ListN.{get_or}
use lib.Pow.{pow_mono}
use mathlib.Core.Bool.{Bool, true, false, ◌&&◌, ◌||◌, or-false}
use mathlib.Core.List.{List}
use mathlib.Core.Logic.{◌⊎◌, inl, inr}
use mathlib.Core.Path.{◌≡◌, refl, sym, ap, ap₂, ◌∙◌, subst}
use native.Mathlib.Decide.{dec_le, dec_lt}
use native.Mathlib.Nat.{add-suc, add-zero, div-add-mod', mod-eq_of_lt, mod-le, mod-lt, mul-add-mod_self_right, mul_assoc, mul_comm, pow-suc, suc-mul}
use native.Mathlib.Numerals.{add-one}
use native.Mathlib.Omega.{arith}
use Prim.Native.Nat.{ℕ, zero, suc, ◌+◌, ◌-◌, ◌*◌, ◌/◌, ◌%◌, ◌^◌, ◌≤◌, ◌<◌}
use Rattle.std.specs.Prelude.{Option as Answer, Some, None}
use Rattle.placement.specs.Placed.{Says, last_clear, Finds, TakenToo}
use Rattle.placement.specs.Placement.{Place, is_taken}
use Rattle.slots.proofs.Below.{true_false}
use Rattle.slots.specs.Limits.{WHOLE}
use Rattle.timetable.proofs.Bits.{Highest, highest, set_none, set_not, set_one, set_or, set_shift}
use Rattle.timetable.proofs.Marks.{Marked}
use Rattle.timetable.proofs.Ranges.{Period}
use Rattle.timetable.specs.Marks.{WORD, WORDS, Marks, is_marked, is_set, AreSlots, FreeUpTo}

-- ---- the highest free slot of a word

-- The free ones are those that are not marked, shifted.
pub free_shifted : (marks top : ℕ) → marks < 2 ^ WORD → top < WORD → FreeUpTo marks top ((2 ^ WORD - 1 - marks) * 2 ^ (WORD - 1 - top) % 2 ^ WORD)
free_shifted marks top fits inside = record {
  free = λ n l.
      let e : n + (WORD - 1 - top) - (WORD - 1 - top) ≡ n = omega arith in
      set_shift WORD (2 ^ WORD - 1 - marks) (WORD - 1 - top) (n + (WORD - 1 - top)) (omega arith)
      ∙ rw (le-leb (WORD - 1 - top) (n + (WORD - 1 - top)) (omega arith), e) (set_not WORD marks n (omega arith) fits);
  none = λ n l. set_shift WORD (2 ^ WORD - 1 - marks) (WORD - 1 - top) n (omega arith) ∙ rw (lt-leb (WORD - 1 - top) n l) refl;
}

module _ (marks top bits : ℕ) (inside : top < WORD) (f : FreeUpTo marks top bits) where
  -- If there is none, all up to the top are taken;
  none_free : bits ≡ 0 → (n : ℕ) → n ≤ top → is_set marks n ≡ true
  none_free z n l = not-false _ (sym (f.free n l) ∙ ap (λ (x : ℕ). is_set x (n + (WORD - 1 - top))) z ∙ set_none (n + (WORD - 1 - top)))

  -- else the highest is as many slots below the top as there are leading zeros.
  some_free : 0 < bits → bits < 2 ^ WORD
      → let o = top - count_leading_zeros WORD bits in
      (count_leading_zeros WORD bits ≤ top) × (is_set marks o ≡ false) × ((n : ℕ) → o < n → n ≤ top → is_set marks n ≡ true)
  some_free p fits = at (highest WORD bits p fits)
    where
      zeros : ℕ
      zeros = count_leading_zeros WORD bits

      at : (j : ℕ) × Highest WORD bits j → (zeros ≤ top) × (is_set marks (top - zeros) ≡ false) × ((n : ℕ) → top - zeros < n → n ≤ top → is_set marks n ≡ true)
      at h =
          let z : zeros + suc h.0 ≡ WORD = h.1.zeros in
          let low : WORD - 1 - top ≤ h.0 = at_least (dec_le (WORD - 1 - top) h.0) in
          let e : top - zeros + (WORD - 1 - top) ≡ h.0 = omega arith in (
            omega arith,
            not-true _ (sym (f.free (top - zeros) (omega arith)) ∙ ap (is_set bits) e ∙ h.1.here),
            λ n l m. not-false _ (sym (f.free n m) ∙ h.1.above (n + (WORD - 1 - top)) (omega arith)),
          )
        where
          at_least : Dec (WORD - 1 - top ≤ h.0) → WORD - 1 - top ≤ h.0
          at_least (yes l) = l
          at_least (no l) = absurd (true_false h.1.here (f.none h.0 (omega arith)))

-- ---- the search

-- The search down from the last offset has come to the slots below i.
abbrev pub Passed : Marks → ℕ → ℕ → Type 0
Passed table last i = (ps : List Place) → Says table ps → last_clear ps (last + 1) ≡ last_clear ps i

-- The largest free slot does not lie among taken ones.
clear_over : (ps : List Place) (m d : ℕ) → ((n : ℕ) → m ≤ n → n < m + d → is_taken ps n ≡ true) → last_clear ps (m + d) ≡ last_clear ps m
unfolding last_clear
clear_over ps m zero h = ap (last_clear ps) (add-zero m)
clear_over ps m (suc d) h =
    ap (last_clear ps) (add-suc m d) ∙ rw (last_clear, h (m + d) (omega arith) (omega arith)) (clear_over ps m d (λ n l k. h n l (omega arith)))

module _ (table : Marks) (last left : ℕ) (passed : Passed table last left) (inside : left ≤ WHOLE) where
  -- Taken slots are passed over,
  passed_on : (i : ℕ) → i ≤ left → ((n : ℕ) → i ≤ n → n < left → is_marked table n ≡ true) → Passed table last i
  passed_on i l h ps s =
      let e : i + (left - i) ≡ left = omega arith in
      passed ps s ∙ ap (last_clear ps) (sym e) ∙ clear_over ps i (left - i) (λ n k m. sym (s.slot n (omega arith)) ∙ h n k (omega arith))

  -- and past the first slot there is none.
  pub passed_all : left ≡ 0 → Finds table last None
  unfolding last_clear
  passed_all e ps s = sym (passed ps s ∙ rw e refl)

  -- What the word of the top slot tells of those left.
  module _ (top : ℕ) (e : left ≡ top + 1) (bits : ℕ) (f : FreeUpTo (get_or table (top / WORD) 0) (top % WORD) bits) where
    bit_of : (n : ℕ) → top / WORD * WORD ≤ n → n ≤ top → is_marked table n ≡ is_set (get_or table (top / WORD) 0) (n % WORD)
    unfolding is_marked
    bit_of n l h = let d : n / WORD ≡ top / WORD = omega arith in ap (λ (x : ℕ). is_set (get_or table x 0) (n % WORD)) d

    -- A word without a free slot is passed over,
    pub passed_word : bits ≡ 0 → Passed table last (top / WORD * WORD)
    passed_word z =
        passed_on (top / WORD * WORD) (omega arith)
        (λ n l h. bit_of n l (omega arith) ∙ none_free (get_or table (top / WORD) 0) (top % WORD) bits (omega arith) f z (n % WORD) (omega arith))

    -- and one with a free slot ends it at the highest.
    pub passed_free : 0 < bits → bits < 2 ^ WORD → (count_leading_zeros WORD bits ≤ top) × Finds table last (Some (top - count_leading_zeros WORD bits))
    unfolding last_clear
    passed_free p fits = (omega (arith, t.0), ends)
      where
        zeros : ℕ
        zeros = count_leading_zeros WORD bits

        word : ℕ
        word = get_or table (top / WORD) 0

        t : (zeros ≤ top % WORD) × (is_set word (top % WORD - zeros) ≡ false) × ((n : ℕ) → top % WORD - zeros < n → n ≤ top % WORD → is_set word n ≡ true)
        t = some_free word (top % WORD) bits (omega arith) f p fits

        free : is_marked table (top - zeros) ≡ false
        free =
            let d : (top - zeros) % WORD ≡ top % WORD - zeros = omega (arith, t.0) in
            bit_of (top - zeros) (omega (arith, t.0)) (omega arith) ∙ ap (is_set word) d ∙ t.1

        over : Passed table last (top - zeros + 1)
        over =
            passed_on (top - zeros + 1) (omega arith)
            (λ n l h. bit_of n (omega (arith, t.0)) (omega arith) ∙ t.2 (n % WORD) (omega (arith, t.0)) (omega (arith, t.0)))

        ends : Finds table last (Some (top - zeros))
        ends ps s =
            let k : is_taken ps (top - zeros) ≡ false = sym (s.slot (top - zeros) (omega arith)) ∙ free in
            sym (over ps s ∙ rw (add-one (top - zeros), last_clear, k) refl)

-- What is found lies below the end.
abbrev Within : ℕ → Answer ℕ → Type 0
Within n (Some o) = o < n
Within n None = Unit {0}

within : (ps : List Place) (n : ℕ) → Within n (last_clear ps n)
unfolding last_clear
within ps zero = tt
within ps (suc n) = at (is_taken ps n) (last_clear ps n) (within ps n)
  where
    at : (b : Bool) (f : Answer ℕ) → Within n f → Within (suc n) (elim b [ true ↦ f | false ↦ Some n ])
    at true (Some o) h = omega arith
    at true None h = tt
    at false f h = omega arith

pub clear_below : (ps : List Place) (n o : ℕ) → last_clear ps n ≡ Some o → o < n
clear_below ps n o e = subst (Within n) e (within ps n)

-- ---- the marks

-- A number in whole parts of p, and what is left of it.
left_of : (n p q x : ℕ) → n ≡ q * p + x → x < p → n % p ≡ x
left_of n p q x e l = ap (λ (y : ℕ). y % p) e ∙ mul-add-mod_self_right q p x ∙ mod-eq_of_lt l

-- The slots of half a period are those of the period and, half of it on, as many again.
module _ (half o n : ℕ) (l : o < half) where
  again : (q m : ℕ) → n ≡ q * (half * 2) + m → m < half → leb half n && eqb ((n - half) % (half * 2)) o ≡ false
  again zero m e d = rw (lt-leb half n (omega arith)) refl
  again (suc q) m e d =
      let f : n ≡ q * (half * 2) + half * 2 + m = e ∙ ap (λ (x : ℕ). x + m) (suc-mul q (half * 2)) in
      let r : (n - half) % (half * 2) ≡ half + m = left_of (n - half) (half * 2) q (half + m) (omega arith) (omega arith) in
      rw (r, le-leb half n (omega arith)) (ne_eqb (half + m) o (λ h. omega arith))

  half_slots : eqb (n % (half * 2)) o || (leb half n && eqb ((n - half) % (half * 2)) o) ≡ eqb (n % half) o
  half_slots = at (n / (half * 2)) (n % (half * 2)) (sym (div-add-mod' n (half * 2))) (mod-lt n {m = half * 2} (omega arith)) (dec_lt (n % (half * 2)) half)
    where
      at : (q m : ℕ) → n ≡ q * (half * 2) + m → m < half * 2 → Dec (m < half) → eqb (n % (half * 2)) o || (leb half n && eqb ((n - half) % (half * 2)) o) ≡ eqb (n % half) o
      at q m e k d = by d
        where
          twice : q * 2 * half ≡ q * (half * 2)
          twice = mul_assoc q 2 half ∙ ap (λ (x : ℕ). q * x) (mul_comm 2 half)

          whole : n % (half * 2) ≡ m
          whole = left_of n (half * 2) q m e k

          by : Dec (m < half) → eqb (n % (half * 2)) o || (leb half n && eqb ((n - half) % (half * 2)) o) ≡ eqb (n % half) o
          by (yes h) =
              let r : n % half ≡ m = left_of n half (q * 2) m (omega (arith, twice)) h in
              rw (again q m e h, whole, r) (or-false (eqb m o))
          by (no h) =
              let f : suc (q * 2) * half ≡ q * 2 * half + half = suc-mul (q * 2) half in
              let r : n % half ≡ m - half = left_of n half (suc (q * 2)) (m - half) (omega (arith, twice)) (omega arith) in
              let s : (n - half) % (half * 2) ≡ m - half = left_of (n - half) (half * 2) q (m - half) (omega arith) (omega arith) in
              rw (whole, r, s, le-leb half n (omega arith), ne_eqb m o (λ g. omega arith)) refl

-- The bits are those of the slots that stand so far apart, from the offset on: a word, or half as far and so on down to the period.
pub record Halved (period offset slots apart : ℕ) : Type 0 where
  pub power : ℕ
  pub small : power ≤ 6
  pub far : apart ≡ 2 ^ power
  pub enough : (apart ≡ WORD) ⊎ (period ≤ apart)
  pub bit : (n : ℕ) → n < WORD → is_set slots n ≡ eqb (n % apart) (offset % WORD)

module _ (period offset : ℕ) (range : Period period) (inside : offset < period) where
  -- A word apart there is one,
  pub halved_none : Halved period offset (1 * 2 ^ (offset % WORD) % 2 ^ WORD) WORD
  halved_none = record {
    power = 6;
    small = omega arith;
    far = refl;
    enough = inl refl;
    bit = λ n k. set_one WORD (offset % WORD) n k ∙ ap (λ (x : ℕ). eqb x (offset % WORD)) (sym (mod-eq_of_lt k));
  }

  -- half as far apart there are twice as many,
  pub halved_more : (slots apart : ℕ) → period < apart → Halved period offset slots apart → Halved period offset (bit_or slots (slots * 2 ^ (apart / 2) % 2 ^ WORD)) (apart / 2)
  halved_more slots apart l h = record {
    power = h.power - 1;
    small = omega (arith, h.small);
    far = half;
    enough = inr small;
    bit = λ n k.
        set_or slots (slots * 2 ^ (apart / 2) % 2 ^ WORD) n
        ∙ ap₂ ◌||◌ (h.bit n k ∙ at n) (set_shift WORD slots (apart / 2) n k ∙ ap (λ (b : Bool). leb (apart / 2) n && b) (h.bit (n - apart / 2) (omega arith) ∙ at (n - apart / 2)))
        ∙ half_slots (apart / 2) (offset % WORD) n (omega (arith, small, mod-le offset WORD));
  }
    where
      above : range.k < h.power
      above = at (dec_le h.power range.k)
        where
          at : Dec (h.power ≤ range.k) → range.k < h.power
          at (yes k) = absurd (omega (arith, l, h.far, range.power, pow_mono k))
          at (no k) = omega arith

      twice : apart ≡ 2 ^ (h.power - 1) * 2
      twice = let e : h.power ≡ suc (h.power - 1) = omega (arith, above) in h.far ∙ ap (λ (x : ℕ). 2 ^ x) e ∙ pow-suc 2 (h.power - 1)

      half : apart / 2 ≡ 2 ^ (h.power - 1)
      half = omega (arith, twice)

      small : period ≤ apart / 2
      small = omega (arith, half, range.power, pow_mono {i = range.k} {j = h.power - 1} (omega (arith, above)))

      at : (n : ℕ) → eqb (n % apart) (offset % WORD) ≡ eqb (n % (apart / 2 * 2)) (offset % WORD)
      at n = let e : apart ≡ apart / 2 * 2 = omega (arith, twice) in ap (λ (x : ℕ). eqb (n % x) (offset % WORD)) e

  -- and a period apart, or in a longer period, they are all.
  pub halved_all : (slots apart : ℕ) → apart ≤ period → Halved period offset slots apart → AreSlots period offset slots
  halved_all slots apart l h n k = h.bit n k ∙ ap (λ (x : ℕ). eqb x (offset % WORD)) (at h.enough)
    where
      at : (apart ≡ WORD) ⊎ (period ≤ apart) → n % apart ≡ n % period
      at (inl e) =
          let a : n < apart = omega (arith, e) in
          let b : n < period = omega (arith, e) in
          mod-eq_of_lt a ∙ sym (mod-eq_of_lt b)
      at (inr m) = let e : apart ≡ period = omega arith in ap (λ (x : ℕ). n % x) e

-- Past the last word the table says what the places and one more say.
pub marked_all : (before : Marks) (period offset : ℕ) (after : Marks) (word : ℕ) → WORDS ≤ word → Marked before period offset after word → TakenToo before period offset after
unfolding is_taken
marked_all before period offset after word l m ps s i = record {
  size = m.size s.size;
  slot = λ n k. m.slot s.size n k (omega arith) ∙ ap (λ (b : Bool). eqb (n % period) offset || b) (s.slot n k);
}
