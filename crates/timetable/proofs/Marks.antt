-- One word of marks, and the slots of an offset marked word after word. Assumes nothing.
use borrow.Author.Tests.{eq-eqb, ne_eqb}
use lib.Arith.{digits_div, mod-mul}
use lib.Bits.{and_comm, and_le_r, bit_and, bit_or}
use lib.Dec.{eqb}
use lib.ListN.{get_or, get_or-replicate, length-replicate, length-set}
use lib.Pow.{pow-add, pow_mono, pow_pos}
use lib.Seq.{get_or-set_same, get_or-set_other}
use mathlib.Core.Bool.{Bool, true, false, ◌&&◌, ◌||◌, or_comm}
use mathlib.Core.Logic.{◌≢◌}
use mathlib.Core.Path.{◌≡◌, refl, sym, ap, ap₂, ◌∙◌}
use native.Mathlib.Decide.{ℕ_discrete, dec_le, dec_lt}
use native.Mathlib.Nat.{add-mod_right, div-add-mod', mod-eq_of_lt, mod-mod_of_dvd, mod-one, mul-le-mul_right, sub-add_cancel}
use native.Mathlib.Omega.{arith}
use Prim.Native.Nat.{ℕ, suc, ◌+◌, ◌-◌, ◌*◌, ◌/◌, ◌%◌, ◌^◌, ◌≤◌, ◌<◌, ◌∣◌}
use Rattle.slots.proofs.Below.{and_both}
use Rattle.slots.specs.Limits.{WHOLE}
use Rattle.timetable.proofs.Bits.{highest, set_and, set_none, set_or}
use Rattle.timetable.proofs.Ranges.{Period, period_dvd}
use Rattle.timetable.specs.Marks.{WORD, WORDS, Marks, OfCycle, is_marked, is_set, no_marks, with_bits, AreSlots}
pub use Rattle.timetable.specs.Marks.{stride}

-- ---- one word

-- The marks of a cycle without any.
pub none_size : OfCycle no_marks
unfolding OfCycle no_marks
none_size = length-replicate {A = ℕ} WORDS 0

pub none_marked : (n : ℕ) → n < WHOLE → is_marked no_marks n ≡ false
unfolding is_marked no_marks
none_marked n k = ap (λ (w : ℕ). is_set w (n % WORD)) (get_or-replicate WORDS (n / WORD) 0 0 (omega arith)) ∙ set_none (n % WORD)

-- Bits of one word are marked, and no other slot.
module _ (marks : Marks) (word bits : ℕ) where
  bits_size : OfCycle marks → OfCycle (with_bits word bits marks)
  unfolding OfCycle with_bits
  bits_size c = length-set marks word (bit_or (get_or marks word 0) bits) ∙ c

  bits_here : OfCycle marks → word < WORDS → (n : ℕ) → n / WORD ≡ word → is_marked (with_bits word bits marks) n ≡ is_set bits (n % WORD) || is_marked marks n
  unfolding OfCycle is_marked with_bits
  bits_here c k n e =
      let w : get_or (with_bits word bits marks) (n / WORD) 0 ≡ bit_or (get_or marks (n / WORD) 0) bits =
      rw e (get_or-set_same marks word (bit_or (get_or marks word 0) bits) 0 (omega (arith, c))) in
      ap (λ (x : ℕ). is_set x (n % WORD)) w ∙ set_or (get_or marks (n / WORD) 0) bits (n % WORD) ∙ or_comm (is_set (get_or marks (n / WORD) 0) (n % WORD)) (is_set bits (n % WORD))

  bits_other : (n : ℕ) → n / WORD ≢ word → is_marked (with_bits word bits marks) n ≡ is_marked marks n
  unfolding is_marked with_bits
  bits_other n ne = ap (λ (x : ℕ). is_set x (n % WORD)) (get_or-set_other marks word (n / WORD) (bit_or (get_or marks word 0) bits) 0 ne)

-- Whether a word and bits share a slot.
module _ (marks : Marks) (word bits : ℕ) where
  pub shares_none : bit_and (get_or marks word 0) bits ≡ 0 → (n : ℕ) → n / WORD ≡ word → is_set bits (n % WORD) && is_marked marks n ≡ false
  unfolding is_marked
  shares_none z n e =
      ap (λ (x : ℕ). is_set bits (n % WORD) && is_set (get_or marks x 0) (n % WORD)) e
      ∙ sym (set_and bits (get_or marks word 0) (n % WORD)) ∙ ap (λ (x : ℕ). is_set x (n % WORD)) (and_comm bits (get_or marks word 0) ∙ z) ∙ set_none (n % WORD)

  pub shares_some : 0 < bit_and (get_or marks word 0) bits → bits < 2 ^ WORD
      → (n : ℕ) × (n / WORD ≡ word) × (is_set bits (n % WORD) ≡ true) × (is_marked marks n ≡ true)
  unfolding is_marked
  shares_some p h =
      let t = highest WORD (bit_and (get_or marks word 0) bits) p (omega (arith, and_le_r (get_or marks word 0) bits)) in
      let j : t.0 < WORD = omega (arith, t.1.zeros) in
      let n : ℕ = word * WORD + t.0 in
      let d : n / WORD ≡ word = omega arith in
      let r : n % WORD ≡ t.0 = omega arith in
      let b = and_both _ _ (sym (set_and (get_or marks word 0) bits t.0) ∙ t.1.here) in
      (n, d, ap (is_set bits) r ∙ b.1, ap₂ (λ (x y : ℕ). is_set (get_or marks x 0) y) d r ∙ b.0)

-- ---- the words of an offset

-- Two digits are the same as two others exactly if each is.
same_digits : (a b c d : ℕ) → b < WORD → d < WORD → eqb (a * WORD + b) (c * WORD + d) ≡ eqb a c && eqb b d
same_digits a b c d l m = at (ℕ_discrete a c) (ℕ_discrete b d)
  where
    at : Dec (a ≡ c) → Dec (b ≡ d) → eqb (a * WORD + b) (c * WORD + d) ≡ eqb a c && eqb b d
    at (yes e) (yes f) = rw (eq-eqb a c e, eq-eqb b d f) (eq-eqb (a * WORD + b) (c * WORD + d) (omega arith))
    at (yes e) (no f) = rw (eq-eqb a c e, ne_eqb b d f) (ne_eqb (a * WORD + b) (c * WORD + d) (λ g. f (omega arith)))
    at (no e) f = rw (ne_eqb a c e) (ne_eqb (a * WORD + b) (c * WORD + d) (λ g. e (omega arith)))

-- Two words of one turn are a stride apart.
apart : (p o a n : ℕ) → a % p ≡ o → n % p ≡ o → a < n → n < a + p → ⊥
apart p o a n e f l h = at (dec_le (n / p) (a / p))
  where
    at : Dec (n / p ≤ a / p) → ⊥
    at (yes k) = omega (arith, div-add-mod' a p, div-add-mod' n p, mul-le-mul_right p k)
    at (no k) =
        let m : suc (a / p) ≤ n / p = omega arith in
        let q : suc (a / p) * p ≡ a / p * p + p = omega arith in
        omega (arith, div-add-mod' a p, div-add-mod' n p, mul-le-mul_right p m)

module _ (period offset : ℕ) (range : Period period) (inside : offset < period) where
  -- A slot is the offset's exactly if it stands in one of its words, at one of its bits. (A word is 2^6 slots.)
  slot_bit : (n : ℕ) → eqb (n % period) offset ≡ eqb (n / WORD % stride period) (offset / WORD) && eqb (n % WORD % period) (offset % WORD)
  slot_bit n = at (dec_le range.k 6)
    where
      at : Dec (range.k ≤ 6) → eqb (n % period) offset ≡ eqb (n / WORD % stride period) (offset / WORD) && eqb (n % WORD % period) (offset % WORD)
      at (yes l) =
          let h : period ≤ WORD = omega (arith, range.power, pow_mono l) in
          let d : period ∣ WORD = period_dvd period WORD range (record { k = 6; small = omega arith; power = refl }) h in
          let one : stride period ≡ 1 = omega arith in
          let z : offset / WORD ≡ 0 = omega arith in
          let o : offset % WORD ≡ offset = omega arith in
          rw (one, z, o, mod-one (n / WORD), mod-mod_of_dvd period n d) refl
      at (no l) =
          let m : ℕ = 2 ^ (range.k - 6) in
          let e : period ≡ m * WORD = range.power ∙ ap (λ (x : ℕ). 2 ^ x) (sym (sub-add_cancel (omega arith))) ∙ pow-add 2 (range.k - 6) 6 in
          let s : stride period ≡ m = ap (λ (x : ℕ). (x + (WORD - 1)) / WORD) e ∙ digits_div m (omega arith) in
          let r : n % period ≡ n / WORD % m * WORD + n % WORD = ap (λ (x : ℕ). n % x) e ∙ mod-mul n (pow_pos (range.k - 6)) (omega arith) in
          let o : offset ≡ offset / WORD * WORD + offset % WORD = omega arith in
          let q : n % WORD % period ≡ n % WORD = mod-eq_of_lt (omega (arith, e, pow_pos (range.k - 6))) in
          ap₂ eqb r o ∙ same_digits (n / WORD % m) (n % WORD) (offset / WORD) (offset % WORD) (omega arith) (omega arith) ∙ rw (s, q) refl

  -- A word that is none of the offset's has none of its slots:
  no_slot : (n : ℕ) → n / WORD % stride period ≢ offset / WORD → eqb (n % period) offset ≡ false
  no_slot n ne = slot_bit n ∙ ap (λ (b : Bool). b && eqb (n % WORD % period) (offset % WORD)) (ne_eqb _ _ ne)

  -- none before the first,
  pub none_before : (n : ℕ) → n / WORD < offset / WORD → eqb (n % period) offset ≡ false
  none_before n l =
      let small : n / WORD < stride period = omega arith in
      no_slot n (λ e. omega (arith, e, mod-eq_of_lt small))

  -- and none between two that are a stride apart.
  pub none_between : (word n : ℕ) → word % stride period ≡ offset / WORD → word < n / WORD → n / WORD < word + stride period → eqb (n % period) offset ≡ false
  none_between word n turn l h = no_slot n (λ e. apart (stride period) (offset / WORD) word (n / WORD) turn e l h)

  -- In one of its words its slots are the bits.
  pub slots_here : (bits : ℕ) → AreSlots period offset bits → (word : ℕ) → word % stride period ≡ offset / WORD
      → (n : ℕ) → n / WORD ≡ word → is_set bits (n % WORD) ≡ eqb (n % period) offset
  slots_here bits slots word turn n e =
      slots (n % WORD) (omega arith)
      ∙ sym (slot_bit n ∙ ap (λ (b : Bool). b && eqb (n % WORD % period) (offset % WORD)) (eq-eqb _ _ (ap (λ (x : ℕ). x % stride period) e ∙ turn)))

-- ---- the marks of an offset

-- The slots of an offset are marked in the words below the word, which is the next that has any; no other mark has changed.
pub record Marked (before : Marks) (period offset : ℕ) (after : Marks) (word : ℕ) : Type 0 where
  pub size : OfCycle before → OfCycle after
  pub turn : word % stride period ≡ offset / WORD
  pub slot : OfCycle before → (n : ℕ) → n < WHOLE → n / WORD < word → is_marked after n ≡ eqb (n % period) offset || is_marked before n
  pub rest : (n : ℕ) → word ≤ n / WORD → is_marked after n ≡ is_marked before n

module _ (before : Marks) (period offset : ℕ) (range : Period period) (inside : offset < period) where
  -- Before the first word
  pub marked_none : Marked before period offset before (offset / WORD)
  marked_none = record {
    size = λ c. c;
    turn = let small : offset / WORD < stride period = omega arith in mod-eq_of_lt small;
    slot = λ c n k l. sym (ap (λ (b : Bool). b || is_marked before n) (none_before period offset range inside n l));
    rest = λ n l. refl;
  }

  -- each word of the offset has its bits marked.
  pub marked_more : (bits : ℕ) → AreSlots period offset bits → (after : Marks) (word : ℕ) → word < WORDS → Marked before period offset after word
      → Marked before period offset (with_bits word bits after) (word + stride period)
  marked_more bits slots after word l m = record {
    size = λ c. bits_size after word bits (m.size c);
    turn = add-mod_right word (stride period) ∙ m.turn;
    slot = λ c n k h. slot c n k h (ℕ_discrete (n / WORD) word) (dec_lt (n / WORD) word);
    rest = λ n h. bits_other after word bits n (λ e. omega arith) ∙ m.rest n (omega arith);
  }
    where
      slot : OfCycle before → (n : ℕ) → n < WHOLE → n / WORD < word + stride period → Dec (n / WORD ≡ word) → Dec (n / WORD < word)
          → is_marked (with_bits word bits after) n ≡ eqb (n % period) offset || is_marked before n
      slot c n k h (yes e) d =
          bits_here after word bits (m.size c) l n e ∙ ap₂ ◌||◌ (slots_here period offset range inside bits slots word m.turn n e) (m.rest n (omega (arith, e)))
      slot c n k h (no e) (yes d) = bits_other after word bits n e ∙ m.slot c n k d
      slot c n k h (no e) (no d) =
          bits_other after word bits n e ∙ m.rest n (omega arith)
          ∙ sym (ap (λ (b : Bool). b || is_marked before n) (none_between period offset range inside word n m.turn (omega arith) h))
