-- A number that is read byte by byte, one byte more, and how large it grows; and one that is stored from its low byte up. Assumes nothing.
use lib.ListN.{drop, get_or, length, set, take}
use lib.Seq.{get_or-drop, sets}
use Rattle.std.proofs.lemmas.List.{get_or-take, length-take}
use mathlib.Core.List.{List}
use mathlib.Core.Path.{◌≡◌, ◌∙◌}
use native.Mathlib.Nat.{pow-suc, pow-le-pow_right}
use native.Mathlib.Numerals.{add-one, unary_clauses}
use native.Mathlib.Omega.{arith}
use Prim.Native.Nat.{ℕ, zero, suc, ◌+◌, ◌-◌, ◌*◌, ◌/◌, ◌%◌, ◌^◌, ◌<◌}
use Rattle.records.proofs.FieldStands.{number_length}
use Rattle.records.proofs.SetsLaws.{set_then, sets_behind}
use Rattle.records.specs.Reads.{Bytes}
use Rattle.records.specs.Request.{number_at}
use Rattle.records.specs.Written.{number_bytes}

module _ (s : List ℕ) (from : ℕ) where
  -- One byte more.
  pub number_next : (n : ℕ) → number_at s from (n + 1) ≡ 256 * number_at s from n + get_or s (from + n) 0
  unfolding number_at
  number_next n = rw (add-one n)

  module _ (bytes : Bytes s) where
    -- A number of n bytes is below 256^n.
    number_below : (n : ℕ) → number_at s from n < 256 ^ n
    unfolding number_at
    number_below zero = omega arith
    number_below (suc n) = omega (arith, pow-suc 256 n, number_below n, bytes (from + n))

    -- While fewer than 8 bytes are read, one more still fits 64 bits.
    pub number_room : (n : ℕ) → n < 8 → 256 * number_at s from n + 255 < 2 ^ 64
    number_room n h = omega (arith, number_below n, pow-le-pow_right {n = 256} (omega arith) {i = n} {j = 7} (omega arith))

-- A byte of the run from one place to another is one of the list.
pub byte_of : (s : List ℕ) (from count n : ℕ) → n < length (take (from + count - from) (drop from s))
    → (n < count) × (get_or (take (from + count - from) (drop from s)) n 0 ≡ get_or s (from + n) 0)
byte_of s from count n h =
    let m : from + count - from ≡ count = omega arith in
    let k : n < count = omega (arith, length-take (from + count - from) (drop from s)) in
    (k, get_or-take (from + count - from) (drop from s) n 0 (omega arith) ∙ get_or-drop from s n 0)

-- The low byte of a number, then the bytes above it.
pub number_put : (l : List ℕ) (at m v : ℕ) → 0 < m
    → sets (set l (at + (m - 1)) (v % 256)) at (number_bytes (v / 256) (m - 1)) ≡ sets l at (number_bytes v m)
unfolding number_bytes
number_put l at zero v h = absurd (omega arith)
number_put l at (suc n) v h =
    let e = number_length (v / 256) n in
    simp unary_clauses
    (sets_behind l at (at + n) (number_bytes (v / 256) n) (v % 256) (omega arith)
    ∙ set_then l at (at + n) (number_bytes (v / 256) n) (v % 256) (omega arith))
