-- The bits of a word, and what the operations on words make of them. Assumes nothing.
use borrow.Author.Tests.{eq-eqb, le-leb, lt-leb, ne_eqb}
use lib.Bits.{and_le_l, and_le_r, and_mod, and_shr, bit_and, bit_or, bit_xor, or_add_and, or_mod, or_shr, xor_add_and, xor_self}
use lib.Count.{count_leading_zeros, leading_top}
use lib.Dec.{eqb, leb}
use lib.Pow.{field, pow-add, pow-lt, pow_mono, pow_pos, shl-shr}
use mathlib.Core.Bool.{Bool, true, false, not, ◌&&◌, ◌||◌}
use mathlib.Core.Path.{◌≡◌, refl, sym, ap, ◌∙◌}
use native.Mathlib.Decide.{ℕ_discrete, dec_le}
use native.Mathlib.Nat.{div-div-eq-div-mul, div-eq_of_lt, div-eq_of_lt-le, dvd-mul_right, mod-mod_of_dvd, mul_assoc, mul_comm, mul-div-mul_right, mul-mod_left, pow-suc, sub-add_cancel, zero-div}
use native.Mathlib.Omega.{arith}
use Prim.Native.Nat.{ℕ, zero, suc, ◌+◌, ◌-◌, ◌*◌, ◌/◌, ◌%◌, ◌^◌, ◌≤◌, ◌<◌, ◌∣◌}
use Rattle.timetable.specs.Marks.{is_set}

-- ---- the operations, bit by bit

-- An operation that works on the bits apart, and on two single bits as a test says, works so on each two of them.
module _ (op : ℕ → ℕ → ℕ) (test : Bool → Bool → Bool)
    (high : (a b k : ℕ) → op a b / 2 ^ k ≡ op (a / 2 ^ k) (b / 2 ^ k))
    (low : (a b k : ℕ) → op a b % 2 ^ k ≡ op (a % 2 ^ k) (b % 2 ^ k))
    (zero-zero : eqb (op 0 0) 1 ≡ test false false)
    (zero_one : eqb (op 0 1) 1 ≡ test false true)
    (one-zero : eqb (op 1 0) 1 ≡ test true false)
    (one-one : eqb (op 1 1) 1 ≡ test true true) where
  single : (a b : ℕ) → a < 2 → b < 2 → eqb (op a b) 1 ≡ test (eqb a 1) (eqb b 1)
  single zero zero l m = zero-zero
  single zero (suc zero) l m = zero_one
  single zero (suc (suc b)) l m = absurd (omega arith)
  single (suc zero) zero l m = one-zero
  single (suc zero) (suc zero) l m = one-one
  single (suc zero) (suc (suc b)) l m = absurd (omega arith)
  single (suc (suc a)) b l m = absurd (omega arith)

  each : (a b n : ℕ) → is_set (op a b) n ≡ test (is_set a n) (is_set b n)
  unfolding is_set
  each a b n =
      ap (λ (x : ℕ). eqb (x % 2) 1) (high a b n) ∙ ap (λ (x : ℕ). eqb x 1) (low (a / 2 ^ n) (b / 2 ^ n) 1)
      ∙ single (a / 2 ^ n % 2) (b / 2 ^ n % 2) (omega arith) (omega arith)

pub set_or : (a b n : ℕ) → is_set (bit_or a b) n ≡ is_set a n || is_set b n
set_or = each bit_or ◌||◌ or_shr or_mod refl refl refl refl

pub set_and : (a b n : ℕ) → is_set (bit_and a b) n ≡ is_set a n && is_set b n
set_and = each bit_and ◌&&◌ and_shr and_mod refl refl refl refl

-- No bit of two numbers together is set exactly if none of either is,
pub none_more : (a b : ℕ) → eqb (bit_or a b) 0 ≡ eqb a 0 && eqb b 0
none_more a b = at (ℕ_discrete a 0) (ℕ_discrete b 0)
  where
    at : Dec (a ≡ 0) → Dec (b ≡ 0) → eqb (bit_or a b) 0 ≡ eqb a 0 && eqb b 0
    at (yes p) (yes q) = rw (p, q) refl
    at (yes p) (no q) = rw (eq-eqb a 0 p, ne_eqb b 0 q) (ne_eqb (bit_or a b) 0 (λ z. omega (arith, or_add_and a b, and_le_l a b)))
    at (no p) q = rw (ne_eqb a 0 p) (ne_eqb (bit_or a b) 0 (λ z. omega (arith, or_add_and a b, and_le_r a b)))

-- and none differs exactly if they are the same.
pub none_differs : (a b : ℕ) → eqb (bit_xor a b) 0 ≡ eqb a b
none_differs a b = at (ℕ_discrete a b)
  where
    at : Dec (a ≡ b) → eqb (bit_xor a b) 0 ≡ eqb a b
    at (yes p) = rw p (eq-eqb (bit_xor b b) 0 (xor_self b) ∙ sym (eq-eqb b b refl))
    at (no p) =
        ne_eqb (bit_xor a b) 0 (λ z. omega (arith, xor_add_and a b, and_le_l a b, and_le_r a b)) ∙ sym (ne_eqb a b p)

-- No bit of 0 is set.
pub set_none : (n : ℕ) → is_set 0 n ≡ false
unfolding is_set
set_none n = rw (zero-div (2 ^ n)) refl

-- Halving moves every bit one place down.
set_half : (a n : ℕ) → is_set a (suc n) ≡ is_set (a / 2) n
unfolding is_set
set_half a n = ap (λ (x : ℕ). eqb (x % 2) 1) (ap (λ (x : ℕ). a / x) (pow-suc 2 n ∙ mul_comm (2 ^ n) 2) ∙ sym (div-div-eq-div-mul a 2 (2 ^ n)))

-- The complement in k bits sets those that are not set.
pub set_not : (k a n : ℕ) → n < k → a < 2 ^ k → is_set (2 ^ k - 1 - a) n ≡ not (is_set a n)
unfolding is_set
set_not zero a n l h = absurd (omega arith)
set_not (suc k) a zero l h = at (a / 1 % 2) ((2 ^ suc k - 1 - a) / 1 % 2) (omega (arith, pow-suc 2 k))
  where
    at : (x y : ℕ) → x + y ≡ 1 → eqb y 1 ≡ not (eqb x 1)
    at zero zero e = absurd (omega arith)
    at zero (suc zero) e = refl
    at zero (suc (suc y)) e = absurd (omega arith)
    at (suc zero) zero e = refl
    at (suc zero) (suc y) e = absurd (omega arith)
    at (suc (suc x)) y e = absurd (omega arith)
set_not (suc k) a (suc n) l h =
    let half : (2 ^ suc k - 1 - a) / 2 ≡ 2 ^ k - 1 - a / 2 = omega (arith, pow-suc 2 k) in
    set_half (2 ^ suc k - 1 - a) n ∙ ap (λ (x : ℕ). is_set x n) half
    ∙ set_not k (a / 2) n (omega arith) (omega (arith, pow-suc 2 k)) ∙ ap not (sym (set_half a n))

-- Cut to k bits, a number keeps them.
set_cut : (k a n : ℕ) → n < k → is_set (a % 2 ^ k) n ≡ is_set a n
unfolding is_set
set_cut k a n l =
    let e : k ≡ suc (k - n - 1) + n = omega arith in
    let f : a % 2 ^ k / 2 ^ n ≡ a / 2 ^ n % 2 ^ suc (k - n - 1) = ap (λ (x : ℕ). a % 2 ^ x / 2 ^ n) e ∙ field a (suc (k - n - 1)) n in
    ap (λ (x : ℕ). eqb (x % 2) 1) f ∙ ap (λ (x : ℕ). eqb x 1) (mod-mod_of_dvd 2 (a / 2 ^ n) (even (k - n - 1)))
  where
    even : (d : ℕ) → 2 ∣ 2 ^ suc d
    even d = rw (pow-suc 2 d, mul_comm (2 ^ d) 2) (dvd-mul_right 2 (2 ^ d))

-- A shift moves every bit of a word of k bits some places up; those that pass the top are gone.
pub set_shift : (k a s n : ℕ) → n < k → is_set (a * 2 ^ s % 2 ^ k) n ≡ leb s n && is_set a (n - s)
unfolding is_set
set_shift k a s n l = set_cut k (a * 2 ^ s) n l ∙ at (dec_le s n)
  where
    at : Dec (s ≤ n) → is_set (a * 2 ^ s) n ≡ leb s n && is_set a (n - s)
    at (yes h) =
        let e : 2 ^ n ≡ 2 ^ (n - s) * 2 ^ s = ap (λ (x : ℕ). 2 ^ x) (sym (sub-add_cancel h)) ∙ pow-add 2 (n - s) s in
        let q : a * 2 ^ s / 2 ^ n ≡ a / 2 ^ (n - s) = ap (λ (x : ℕ). a * 2 ^ s / x) e ∙ mul-div-mul_right a (2 ^ (n - s)) (pow_pos s) in
        rw (le-leb s n h, q) refl
    at (no h) =
        let d : ℕ = s - n - 1 in
        let e : s ≡ suc d + n = omega arith in
        let p : a * 2 ^ s ≡ a * 2 ^ d * 2 * 2 ^ n =
        ap (λ (x : ℕ). a * 2 ^ x) e ∙ ap (λ (x : ℕ). a * x) (pow-add 2 (suc d) n ∙ ap (λ (x : ℕ). x * 2 ^ n) (pow-suc 2 d))
        ∙ sym (mul_assoc a (2 ^ d * 2) (2 ^ n)) ∙ ap (λ (x : ℕ). x * 2 ^ n) (sym (mul_assoc a (2 ^ d) 2)) in
        let z : a * 2 ^ s / 2 ^ n % 2 ≡ 0 = ap (λ (x : ℕ). x / 2 ^ n % 2) p ∙ ap (λ (x : ℕ). x % 2) (shl-shr (a * 2 ^ d * 2) n) ∙ mul-mod_left (a * 2 ^ d) 2 in
        rw (lt-leb s n (omega arith), z) refl

-- One alone is set once 1 is shifted.
pub set_one : (k s n : ℕ) → n < k → is_set (1 * 2 ^ s % 2 ^ k) n ≡ eqb n s
unfolding is_set
set_one k s n l = set_shift k 1 s n l ∙ at (dec_le s n) (ℕ_discrete n s)
  where
    at : Dec (s ≤ n) → Dec (n ≡ s) → leb s n && is_set 1 (n - s) ≡ eqb n s
    at (yes h) (yes e) = let z : n - s ≡ 0 = omega arith in rw (le-leb s n h, z, eq-eqb n s e) refl
    at (yes h) (no e) =
        let q : 1 / 2 ^ (n - s) ≡ 0 = div-eq_of_lt (pow-lt {i = 0} {j = n - s} (omega arith)) in
        rw (le-leb s n h, q, ne_eqb n s e) refl
    at (no h) e = rw (lt-leb s n (omega arith)) (sym (ne_eqb n s (λ f. omega arith)))

-- ---- the highest bit that is set

-- Below the leading zeros of a word of k bits that is not 0 stands the highest bit that is set.
pub record Highest (k a j : ℕ) : Type 0 where
  pub zeros : count_leading_zeros k a + suc j ≡ k
  pub here : is_set a j ≡ true
  pub above : (n : ℕ) → j < n → is_set a n ≡ false

pub highest : (k a : ℕ) → 0 < a → a < 2 ^ k → (j : ℕ) × Highest k a j
unfolding is_set
highest k a p h =
    let t = leading_top k a p h in
    let q : a / 2 ^ t.0 ≡ 1 = div-eq_of_lt-le (2 ^ t.0) {m = a} (omega (arith, t.2)) (omega (arith, t.3, pow-suc 2 t.0)) in (
      t.0,
      record { zeros = t.1; here = rw q refl; above = λ n l. rw (div-eq_of_lt {n = a} {m = 2 ^ n} (omega (arith, t.3, pow_mono {i = suc t.0} {j = n} l))) refl },
    )
