-- A field that is written at a place stands there and is read back: its tag, its length, its content and what follows. Assumes nothing.
use borrow.Author.Tests.{eq-eqb, le-leb}
use lib.ListN.{drop, get_or, length, length-append, length-drop, get_or-append}
use lib.Seq.{drop-append_seam, drop-drop, get_or_at, get_or-drop}
use mathlib.Core.Bool.{Bool, true, false, ◌&&◌}
use mathlib.Core.List.{List, [], ◌∷◌, ◌++◌, append_assoc}
use mathlib.Core.Logic.{◌≢◌}
use mathlib.Core.Path.{◌≡◌, refl, sym, ap, ap₂, ◌∙◌}
use native.Mathlib.Nat.{pow-suc}
use native.Mathlib.Omega.{arith}
use Prim.Native.Nat.{ℕ, zero, suc, ◌+◌, ◌/◌, ◌%◌, ◌^◌, ◌≤◌, ◌<◌}
use Rattle.records.proofs.ReadSteps.{field_inside}
use Rattle.records.specs.Answer.{field}
use Rattle.records.specs.Request.{content_at, is_field, length_at, number_at}
use Rattle.records.specs.Written.{number_bytes}

module _ (s : List ℕ) (at tag : ℕ) (content rest : List ℕ) (e : drop at s ≡ field tag content ++ rest) where
  -- Byte n from the place.
  byte : (n : ℕ) → get_or s (at + n) 0 ≡ get_or (field tag content ++ rest) n 0
  byte n = sym (get_or-drop at s n 0) ∙ ap (λ (z : List ℕ). get_or z n 0) e

  -- The field ends inside the record.
  pub stands_inside : at + 3 + length content ≤ length s
  unfolding field
  stands_inside = omega (arith, length-drop at s, ap (λ (z : List ℕ). length z) e, length-append content rest)

  -- It states its content's length.
  stands_length : length_at s at ≡ length content
  unfolding length_at number_at field
  stands_length =
      let a : get_or s (at + 1 + 0) 0 ≡ get_or s (at + 1) 0 = ap (λ (n : ℕ). get_or s n 0) (omega arith) in
      let b : get_or s (at + 1 + 1) 0 ≡ get_or s (at + 2) 0 = ap (λ (n : ℕ). get_or s n 0) (omega arith) in
      omega (arith, byte 1, byte 2)

  -- It is a field of its tag and its content's length.
  pub field_stands : is_field s at tag (length content) ≡ true
  unfolding is_field field
  field_stands =
      let a : get_or s at 0 ≡ get_or s (at + 0) 0 = ap (λ (n : ℕ). get_or s n 0) (omega arith) in
      ap₂ ◌&&◌ (ap₂ ◌&&◌ (le-leb _ _ stands_inside) (eq-eqb _ _ (a ∙ byte 0))) (eq-eqb _ _ stands_length)

  -- It is a field of no other length.
  pub no_other_length : (other size : ℕ) → length content ≢ size → is_field s at other size ≡ false
  no_other_length other size n = is (is_field s at other size) refl
    where
      is : (b : Bool) → is_field s at other size ≡ b → b ≡ false
      is false q = refl
      is true q = absurd (n (sym stands_length ∙ (field_inside s at other size q).2))

  -- Its content stands after its tag and its length.
  pub content_from : drop (at + 3) s ≡ content ++ rest
  unfolding field
  content_from = sym (drop-drop 3 at s) ∙ ap (λ (z : List ℕ). drop 3 z) e

  -- Byte n of its content.
  pub content_stands : (n : ℕ) → n < length content → content_at s at n ≡ get_or content n 0
  unfolding content_at
  content_stands n h =
      sym (get_or-drop (at + 3) s n 0) ∙ ap (λ (z : List ℕ). get_or z n 0) content_from ∙ get_or-append content rest 0 n h

  -- What follows it.
  pub after_stands : (next : ℕ) → next ≡ at + 3 + length content → drop next s ≡ rest
  after_stands next n =
      rw n
      (sym (drop-drop (length content) (at + 3) s) ∙ ap (λ (z : List ℕ). drop (length content) z) content_from
      ∙ drop-append_seam content rest)

-- A number has as many bytes as it is written with.
pub number_length : (v n : ℕ) → length (number_bytes v n) ≡ n
unfolding number_bytes
number_length v zero = refl
number_length v (suc n) = simp length-append (omega (arith, number_length (v / 256) n))

-- A number that n bytes can write is read back from them.
pub number_stands : (s : List ℕ) (at n v : ℕ) (rest : List ℕ) → v < 256 ^ n → drop at s ≡ number_bytes v n ++ rest → number_at s at n ≡ v
unfolding number_bytes number_at
number_stands s at zero v rest h e = omega arith
number_stands s at (suc n) v rest h e =
    let front = number_bytes (v / 256) n in
    let f : drop at s ≡ front ++ (v % 256 ∷ rest) = e ∙ append_assoc front (v % 256 ∷ []) rest in
    let small : v / 256 < 256 ^ n = omega (arith, pow-suc 256 n) in
    let high = number_stands s at n (v / 256) (v % 256 ∷ rest) small f in
    let low = sym (get_or-drop at s n 0) ∙ ap (λ (z : List ℕ). get_or z n 0) f ∙ get_or_at front (v % 256) rest 0 n (number_length (v / 256) n) in
    omega arith
