-- A text put into a buffer, one after another; the digits that `io` writes; a line from its numbers. Assumes nothing.
use borrow.Author.Tests.{le-ltb, lt-ltb}
use lib.ListN.{length, length-append}
use lib.Seq.{length-sets, sets}
use mathlib.Core.List.{List, [], ◌∷◌, ◌++◌, append_assoc}
use mathlib.Core.Path.{◌≡◌, refl, sym, ap, ◌∙◌}
use native.Mathlib.Nat.{lt_of_not-le, one-le-pow, pow-le-pow_right, pow-succ'}
use native.Mathlib.Omega.{arith}
use Prim.Native.Nat.{ℕ, zero, suc, ◌-◌, ◌*◌, ◌/◌, ◌%◌, ◌^◌, ◌≤◌, ◌<◌}
use Rattle.frames.specs.Coded.{Puts}
use Rattle.frames.specs.Program.{decimal, digits, line_of}
use Rattle.io.specs.Digits.{IsDigitCount, last_digits as io-digits}
use Rattle.records.proofs.SetsLaws.{sets_then}

-- The digits that `io` writes, the fewest of them, are those of a line.
pub digits_io : (most k n : ℕ) → k ≤ most → IsDigitCount 10 1 n k → digits most n ≡ io-digits 10 k n
unfolding digits
digits_io most zero n h f = absurd (omega (arith, f.0))
digits_io zero (suc k) n h f = absurd (omega arith)
digits_io (suc most) (suc zero) n h f =
    let m : n % 10 ≡ n = omega (arith, f.1) in
    let e = lt-ltb n 10 (omega (arith, f.1)) in
    rw (e, digits) (rw m (rw e refl))
digits_io (suc most) (suc (suc k)) n h f =
    let p : 10 ^ suc (suc k) ≡ 10 * 10 ^ suc k = pow-succ' 10 (suc k) in
    let q : 10 ^ suc k ≡ 10 * 10 ^ k = pow-succ' 10 k in
    let u : suc (suc k) - 1 ≡ suc k = omega arith in
    let v : suc k - 1 ≡ k = omega arith in
    let big : 10 ^ suc k ≤ n = rw u at (f.2 (omega arith)) in
    let some : 1 ≤ 10 ^ k = one-le-pow k 10 (omega arith) in
    let few : IsDigitCount 10 1 (n / 10) (suc k) = (omega arith, omega (arith, f.1), λ _. rw v (omega arith)) in
    let e = le-ltb n 10 (omega arith) in
    let d = lt-ltb (n % 10) 10 (omega arith) in
    rw (e, digits) (rw (d, digits_io most (suc k) (n / 10) (omega arith) few) refl)

-- A number of 64 bits has at most 20 of them.
pub few_digits : (n k : ℕ) → n < 2 ^ 64 → IsDigitCount 10 1 n k → k ≤ 20
few_digits n k h f = omega (arith, lt_of_not-le {n = 21} {m = k} long)
  where
    long : 21 ≤ k → ⊥
    long g =
        let big = f.2 (omega arith) in
        let p : 10 ^ 20 ≤ 10 ^ (k - 1) = pow-le-pow_right {n = 10} (omega arith) {i = 20} {j = k - 1} (omega arith) in
        omega arith

-- A text put behind a text makes one text.
put_more : (l : List ℕ) (at : ℕ) (a m : List ℕ) (p : ℕ) → Puts l at a m p → (b n : List ℕ) (r : ℕ) → Puts m p b n r → Puts l at (a ++ b) n r
put_more l at a m p f b n r g =
    record {
      end = g.end ∙ simp length-append (omega (arith, f.end));
      bytes = g.bytes ∙ ap (λ (x : List ℕ). sets x p b) f.bytes ∙ sets_then l at p a b f.end;
    }

-- A buffer keeps its length where a text is put into it.
pub puts_length : (l : List ℕ) (at : ℕ) (text m : List ℕ) (p : ℕ) → Puts l at text m p → length m ≡ length l
puts_length l at text m p f = ap length f.bytes ∙ length-sets l at text

-- The digits of a number and the byte behind them were put.
pub put_number : (l : List ℕ) (at n k x : ℕ) (text m : List ℕ) (p : ℕ) → k ≤ 20 → IsDigitCount 10 1 n k → text ≡ io-digits 10 k n → Puts l at text m p
    → (m' : List ℕ) (p' : ℕ) → Puts m p (x ∷ []) m' p' → Puts l at (decimal n ++ (x ∷ [])) m' p'
unfolding decimal
put_number l at n k x text m p few fewest e f m' p' g =
    let t : digits 20 n ≡ text = digits_io 20 k n few fewest ∙ sym e in
    rw t (put_more l at text m p f (x ∷ []) m' p' g)

-- A space behind a text or before the next one.
next : (a b t : List ℕ) → a ++ (32 ∷ []) ++ (b ++ t) ≡ a ++ (32 ∷ b) ++ t
next a b t = append_assoc a (32 ∷ []) (b ++ t) ∙ sym (append_assoc a (32 ∷ b) t)

module _ (ordinal number place tries size : ℕ) where
  -- A line is five numbers, each with the byte behind it.
  numbers : decimal ordinal ++ (32 ∷ []) ++ (decimal number ++ (32 ∷ [])) ++ (decimal place ++ (32 ∷ [])) ++ (decimal tries ++ (32 ∷ [])) ++ (decimal size ++ (10 ∷ []))
      ≡ line_of ordinal number place tries size
  unfolding line_of
  numbers =
      let o = decimal ordinal in
      let n = o ++ (32 ∷ decimal number) in
      let p = n ++ (32 ∷ decimal place) in
      rw (next o (decimal number) (32 ∷ []), next n (decimal place) (32 ∷ []), next p (decimal tries) (32 ∷ []), next (p ++ (32 ∷ decimal tries)) (decimal size) (10 ∷ [])) refl

  -- Five numbers put one behind another are the line.
  pub put_line : (l : List ℕ) (at : ℕ)
      → (l1 : List ℕ) (p1 : ℕ) → Puts l at (decimal ordinal ++ (32 ∷ [])) l1 p1
      → (l2 : List ℕ) (p2 : ℕ) → Puts l1 p1 (decimal number ++ (32 ∷ [])) l2 p2
      → (l3 : List ℕ) (p3 : ℕ) → Puts l2 p2 (decimal place ++ (32 ∷ [])) l3 p3
      → (l4 : List ℕ) (p4 : ℕ) → Puts l3 p3 (decimal tries ++ (32 ∷ [])) l4 p4
      → (l5 : List ℕ) (p5 : ℕ) → Puts l4 p4 (decimal size ++ (10 ∷ [])) l5 p5
      → Puts l at (line_of ordinal number place tries size) l5 p5
  put_line l at l1 p1 e1 l2 p2 e2 l3 p3 e3 l4 p4 e4 l5 p5 e5 =
      let two = put_more l at _ l1 p1 e1 _ l2 p2 e2 in
      let three = put_more l at _ l2 p2 two _ l3 p3 e3 in
      let four = put_more l at _ l3 p3 three _ l4 p4 e4 in
      rw numbers at (put_more l at _ l4 p4 four _ l5 p5 e5)
