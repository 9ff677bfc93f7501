-- Whether entries share a cyclic slot, by taking the slots of one after the other in a table of one cycle. Assumes nothing.
use borrow.Author.Tests.{le-leb, le-ltb, lt-leb, lt-ltb, ltb-true, ne_eqb, not-true}
use lib.Bits.{bit_and, bit_or}
use lib.Dec.{eqb, leb, ltb}
use lib.ListN.{get_or}
use mathlib.Core.Bool.{Bool, true, false, not, ◌&&◌, ◌||◌, or-false}
use mathlib.Core.List.{List}
use mathlib.Core.Path.{◌≡◌, refl, sym, ap, ap₂, ◌∙◌}
use native.Mathlib.Decide.{ℕ_discrete, dec_lt}
use native.Mathlib.Nat.{add-mul-mod_self_right, mod-eq_of_lt, mod-le, mul_right_comm, sub-add_cancel}
use native.Mathlib.Numerals.{add-one}
use native.Mathlib.Omega.{arith}
use Prim.Native.Nat.{ℕ, ◌+◌, ◌-◌, ◌*◌, ◌/◌, ◌%◌, ◌^◌, ◌≤◌, ◌<◌}
use Rattle.slots.proofs.Below.{every_all, every_at, every_fails, every_not, true_false}
use Rattle.slots.specs.Below.{every}
use Rattle.slots.specs.Limits.{WHOLE}
use Rattle.timetable.proofs.EntryLaws.{cyclic_none, cyclic_test}
use Rattle.timetable.proofs.Bits.{set_one, set_or, set_shift}
use Rattle.timetable.proofs.Marks.{Marked, marked_more, marked_none, none_before, none_between, none_marked, shares_none, shares_some, slots_here, stride}
use Rattle.timetable.proofs.Ranges.{Period}
use Rattle.timetable.proofs.Sound.{cyclic_listed}
use Rattle.timetable.specs.declared.Entry.{Entry}
use Rattle.timetable.specs.Marks.{WORD, WORDS, Marks, OfCycle, is_marked, is_set, no_marks, with_bits, AreSlots}
use Rattle.timetable.specs.Sound.{share_none}
use Rattle.timetable.specs.Taken.{Takes, are_free}
use Rattle.timetable.specs.Timetable.{cyclic, entry_of, is_listed}

-- Two tests that pass together are the same.
same : (a b : Bool) → (a ≡ true → b ≡ true) → (b ≡ true → a ≡ true) → a ≡ b
same true b f g = sym (f refl)
same false true f g = g refl
same false false f g = refl

-- ---- one entry

module _ (before : Marks) (e : Entry) where
  -- An entry that is not listed takes nothing.
  pub takes_none : e.period ≡ 0 → Takes before e true before
  unfolding are_free
  takes_none h = record {
    free = sym (every_all _ WHOLE (λ n k. ap (λ (b : Bool). not (b && is_marked before n)) (cyclic_none e n h)));
    size = λ c. c;
    slot = λ a n k. sym (ap (λ (b : Bool). b || is_marked before n) (cyclic_none e n h));
  }

  -- A slot of the entry that is taken.
  pub not_free : (n : ℕ) → n < WHOLE → cyclic e n ≡ true → is_marked before n ≡ true → are_free before e ≡ false
  unfolding are_free
  not_free n k c b = every_not _ WHOLE n k (ap not (ap₂ ◌&&◌ c b))

-- ---- the slots of an offset in one word

-- The bits are those of the slots as far as they reach, some whole periods.
pub record Reaches (period offset bits reach : ℕ) : Type 0 where
  pub periods : ℕ
  pub whole : reach ≡ periods * period
  pub some : 0 < reach
  pub bit : (n : ℕ) → n < WORD → is_set bits n ≡ ltb n reach && eqb (n % period) (offset % WORD)

module _ (period offset : ℕ) (inside : offset < period) where
  -- The first slot reaches one period,
  pub reaches_first : Reaches period offset (1 * 2 ^ (offset % WORD) % 2 ^ WORD) period
  reaches_first = record {
    periods = 1;
    whole = omega arith;
    some = omega arith;
    bit = λ n k. set_one WORD (offset % WORD) n k ∙ at n (dec_lt n period);
  }
    where
      at : (n : ℕ) → Dec (n < period) → eqb n (offset % WORD) ≡ ltb n period && eqb (n % period) (offset % WORD)
      at n (yes l) = rw (lt-ltb n period l, mod-eq_of_lt l) refl
      at n (no l) = rw (le-ltb n period (omega arith)) (ne_eqb n (offset % WORD) (λ e. omega (arith, mod-le offset WORD)))

  -- those so far, and as many again beyond them, reach twice as far,
  pub reaches_twice : (bits reach : ℕ) → Reaches period offset bits reach → Reaches period offset (bit_or bits (bits * 2 ^ reach % 2 ^ WORD)) (reach * 2)
  reaches_twice bits reach r = record {
    periods = r.periods * 2;
    whole = rw r.whole (mul_right_comm r.periods period 2);
    some = omega (arith, r.some);
    bit = λ n k. set_or bits (bits * 2 ^ reach % 2 ^ WORD) n ∙ ap₂ ◌||◌ (r.bit n k) (set_shift WORD bits reach n k) ∙ at n k (dec_lt n reach);
  }
    where
      at : (n : ℕ) → n < WORD → Dec (n < reach)
          → (ltb n reach && eqb (n % period) (offset % WORD)) || (leb reach n && is_set bits (n - reach)) ≡ ltb n (reach * 2) && eqb (n % period) (offset % WORD)
      at n k (yes l) = rw (lt-ltb _ _ l, lt-leb reach n l, lt-ltb n (reach * 2) (omega arith)) (or-false (eqb (n % period) (offset % WORD)))
      at n k (no l) =
          let h : reach ≤ n = omega arith in
          let m : (n - reach) % period ≡ n % period =
          sym (add-mul-mod_self_right (n - reach) r.periods period) ∙ ap (λ (x : ℕ). x % period) (ap (λ (x : ℕ). n - reach + x) (sym r.whole) ∙ sub-add_cancel h) in
          let t : ltb (n - reach) reach ≡ ltb n (reach * 2) =
          same _ _ (λ x. lt-ltb n (reach * 2) (omega (arith, ltb-true (n - reach) reach x))) (λ x. lt-ltb (n - reach) reach (omega (arith, ltb-true n (reach * 2) x))) in
          rw (le-ltb n reach h, le-leb reach n h, r.bit (n - reach) (omega arith), m, t) refl

  -- and past the word's end they are all.
  pub reaches_all : (bits reach : ℕ) → WORD ≤ reach → Reaches period offset bits reach → AreSlots period offset bits
  reaches_all bits reach l r n k = r.bit n k ∙ ap (λ (b : Bool). b && eqb (n % period) (offset % WORD)) (lt-ltb n reach (omega arith))

-- ---- the slots of an entry, word by word

-- The slots of an offset in the words below the word, its next, were free and are taken; nothing else has changed.
pub record Taking (before : Marks) (period offset : ℕ) (after : Marks) (word : ℕ) : Type 0 where
  pub marked : Marked before period offset after word
  pub clear : (n : ℕ) → n / WORD < word → eqb (n % period) offset && is_marked before n ≡ false

module _ (before : Marks) (e : Entry) (range : Period e.period) (inside : e.offset < e.period) where
  class : (n : ℕ) → cyclic e n ≡ eqb (n % e.period) e.offset
  class n = cyclic_test e n (λ h. omega arith)

  -- Before the first word
  pub taking_none : Taking before e.period e.offset before (e.offset / WORD)
  taking_none = record {
    marked = marked_none before e.period e.offset range inside;
    clear = λ n l. ap (λ (b : Bool). b && is_marked before n) (none_before e.period e.offset range inside n l);
  }

  module _ (bits : ℕ) (slots : AreSlots e.period e.offset bits) (after : Marks) (word : ℕ) (l : word < WORDS)
      (t : Taking before e.period e.offset after word) where
    -- the slots of a word are as they were,
    here : (n : ℕ) → n / WORD ≡ word → (is_set bits (n % WORD) ≡ eqb (n % e.period) e.offset) × (is_marked after n ≡ is_marked before n)
    here n h = (slots_here e.period e.offset range inside bits slots word t.marked.turn n h, t.marked.rest n (omega (arith, h)))

    -- are taken if they are all free,
    pub taking_more : bit_and (get_or after word 0) bits ≡ 0 → Taking before e.period e.offset (with_bits word bits after) (word + stride e.period)
    taking_more z = record {
      marked = marked_more before e.period e.offset range inside bits slots after word l t.marked;
      clear = λ n h. clear n h (ℕ_discrete (n / WORD) word) (dec_lt (n / WORD) word);
    }
      where
        clear : (n : ℕ) → n / WORD < word + stride e.period → Dec (n / WORD ≡ word) → Dec (n / WORD < word) → eqb (n % e.period) e.offset && is_marked before n ≡ false
        clear n h (yes k) d = ap₂ ◌&&◌ (sym (here n k).0) (sym (here n k).1) ∙ shares_none after word bits z n k
        clear n h (no k) (yes d) = t.clear n d
        clear n h (no k) (no d) = ap (λ (b : Bool). b && is_marked before n) (none_between e.period e.offset range inside word n t.marked.turn (omega arith) h)

    -- and stop it where one is taken.
    pub taking_stops : 0 < bit_and (get_or after word 0) bits → bits < 2 ^ WORD → Takes before e false after
    taking_stops p h =
        let s = shares_some after word bits p h in
        let k = here s.0 s.1 in
        record {
          free = sym (not_free before e s.0 (omega (arith, s.1)) (class s.0 ∙ sym k.0 ∙ s.2) (sym k.1 ∙ s.3));
          size = t.marked.size;
          slot = λ a. absurd (true_false a refl);
        }

  -- Past the last word all are taken.
  pub taking_all : (after : Marks) (word : ℕ) → WORDS ≤ word → OfCycle before → Taking before e.period e.offset after word → Takes before e true after
  unfolding are_free
  taking_all after word l size t = record {
    free = sym (every_all _ WHOLE (λ n k. ap not (ap (λ (b : Bool). b && is_marked before n) (class n) ∙ t.clear n (omega arith))));
    size = t.marked.size;
    slot = λ a n k. t.marked.slot size n k (omega arith) ∙ ap (λ (b : Bool). b || is_marked before n) (sym (class n));
  }

-- ---- the entries, ids rising

module _ (es : List Entry) where
  -- A slot is none of an id's.
  abbrev misses : ℕ → ℕ → Bool
  misses n j = not (cyclic (entry_of es j) n)

  -- The table says which slots of the cycle the ids below i have.
  abbrev pub Says : Marks → ℕ → Type 0
  Says taken i = (n : ℕ) → n < WHOLE → is_marked taken n ≡ not (every i (misses n))

  -- No id has any yet.
  pub says_none : Says no_marks 0
  unfolding every
  says_none n k = none_marked n k

  -- One id more.
  pub says_more : (taken after : Marks) (i : ℕ) → Says taken i → Takes taken (entry_of es i) true after → Says after (i + 1)
  unfolding every
  says_more taken after i s t n k = t.slot refl n k ∙ rw (add-one, s n k) (at (cyclic (entry_of es i) n) (every i (misses n)))
    where
      at : (c m : Bool) → c || not m ≡ not (m && not c)
      at true true = refl
      at true false = refl
      at false true = refl
      at false false = refl

  -- Two ids share no slot, as the definition asks.
  abbrev pub pair_test : ℕ → ℕ → Bool
  pair_test i j = not (is_listed (entry_of es i) && is_listed (entry_of es j)) || share_none (entry_of es i) (entry_of es j)

  abbrev pub id_test : ℕ → Bool
  id_test i = every i (pair_test i)

  -- Its slots are free exactly if an id shares none with a lower one.
  pub free_apart : (taken : Marks) (i : ℕ) → Says taken i → are_free taken (entry_of es i) ≡ id_test i
  unfolding are_free share_none
  free_apart taken i s = same _ _ (λ h. every_all _ i (λ j k. into h j k)) (λ h. every_all _ WHOLE (λ n k. back h n k))
    where
      e : ℕ → Entry
      e j = entry_of es j

      into : are_free taken (e i) ≡ true → (j : ℕ) → j < i → pair_test i j ≡ true
      into h j k = at (is_listed (e i) && is_listed (e j)) (every_all _ WHOLE (λ n l. both n l (cyclic (e i) n) (cyclic (e j) n) refl refl))
        where
          both : (n : ℕ) → n < WHOLE → (a b : Bool) → cyclic (e i) n ≡ a → cyclic (e j) n ≡ b → not (cyclic (e i) n && cyclic (e j) n) ≡ true
          both n l false b p q = rw p refl
          both n l true false p q = rw (p, q) refl
          both n l true true p q =
              let t : is_marked taken n ≡ true = s n l ∙ ap not (every_not (misses n) i j k (ap not q)) in
              absurd (true_false (ap₂ ◌&&◌ p t) (not-true _ (every_at _ WHOLE h n l)))

          at : (b : Bool) → share_none (e i) (e j) ≡ true → not b || share_none (e i) (e j) ≡ true
          at true x = x
          at false x = refl

      back : id_test i ≡ true → (n : ℕ) → n < WHOLE → not (cyclic (e i) n && is_marked taken n) ≡ true
      back h n k = at (cyclic (e i) n) (every i (misses n)) refl refl
        where
          unmissed : (b : Bool) → not b ≡ false → b ≡ true
          unmissed true h = refl
          unmissed false h = absurd (true_false refl h)

          listed_both : (a b : Bool) → a ≡ true → not a || b ≡ true → b ≡ true
          listed_both true b x y = y
          listed_both false b x y = absurd (true_false x refl)

          at : (a m : Bool) → cyclic (e i) n ≡ a → every i (misses n) ≡ m → not (cyclic (e i) n && is_marked taken n) ≡ true
          at false m p q = rw p refl
          at true true p q = rw (p, s n k, q) refl
          at true false p q =
              let w = every_fails (misses n) i q in
              let c : cyclic (e w.0) n ≡ true = unmissed _ w.2 in
              let l = ap₂ ◌&&◌ (cyclic_listed (e i) n p) (cyclic_listed (e w.0) n c) in
              let x : share_none (e i) (e w.0) ≡ true = listed_both _ _ l (every_at (pair_test i) i h w.0 w.1) in
              absurd (true_false (ap₂ ◌&&◌ p c) (not-true _ (every_at _ WHOLE x n k)))
