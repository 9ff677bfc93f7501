-- Helpers of the contracts here and in the placement: the marks of the slots of one cycle, as a table of the code holds them, one bit a slot. How a slot's mark is held is known here, in the laws
-- of marking (proofs/Marks.antt), and where the code reads or writes one.
use Rattle.std.specs.Int.Bits.{bit_or}
use Rattle.std.specs.Prelude.{eqb, get_or, length, replicate, set, Bool, false, not, List, ◌≡◌, ℕ, ◌+◌, ◌-◌, ◌/◌, ◌%◌, ◌^◌, ◌≤◌, ◌<◌}

-- A word marks this many slots, one bit each.
abbrev pub WORD : ℕ
WORD = 64

-- This many words mark the slots of one whole cycle.
abbrev pub WORDS : ℕ
WORDS = 4

-- The marks, word by word.
abbrev pub Marks : Type 0
Marks = List ℕ

-- They are those of one whole cycle.
unfoldable pub OfCycle : Marks → Type 0
OfCycle marks = length marks ≡ WORDS

-- Whether bit n of a word is set; bit 0 is the lowest.
unfoldable pub is_set : ℕ → ℕ → Bool
is_set word n = eqb (word / 2 ^ n % 2) 1

-- Whether slot n is marked: bit n % 64 of word n / 64.
unfoldable pub is_marked : Marks → ℕ → Bool
is_marked marks n = is_set (get_or marks (n / WORD) 0) (n % WORD)

-- No slot is marked.
unfoldable pub no_marks : Marks
no_marks = replicate WORDS 0

-- The bits are marked too in one word.
unfoldable pub with_bits : ℕ → ℕ → Marks → Marks
with_bits word bits marks = set marks word (bit_or (get_or marks word 0) bits)

-- The bits are the slots of an offset in a word that has any of them.
abbrev pub AreSlots : ℕ → ℕ → ℕ → Type 0
AreSlots period offset bits = (n : ℕ) → n < WORD → is_set bits n ≡ eqb (n % period) (offset % WORD)

-- The words that have any of an offset's slots are this many apart.
abbrev pub stride : ℕ → ℕ
stride period = (period + (WORD - 1)) / WORD

-- The bits are the free slots of a word up to the top one, each as far below the highest bit as its slot is below the top.
pub record FreeUpTo (marks top bits : ℕ) : Type 0 where
  pub free : (n : ℕ) → n ≤ top → is_set bits (n + (WORD - 1 - top)) ≡ not (is_set marks n)
  pub none : (n : ℕ) → n < WORD - 1 - top → is_set bits n ≡ false
