-- A field that stands at a place is written there: its tag, its length and its content, then what follows. Assumes nothing.
use lib.ListN.{drop, get_or, length, length-append, length-drop, take, take-append-drop}
use lib.Seq.{drop-cons, drop-drop, get_or-drop, take-suc}
use mathlib.Core.Bool.{true}
use mathlib.Core.List.{List, [], ◌∷◌, ◌++◌}
use mathlib.Core.Path.{◌≡◌, refl, ap, ◌∙◌}
use native.Mathlib.Omega.{arith}
use Prim.Native.Nat.{ℕ, zero, suc, ◌+◌, ◌*◌, ◌/◌, ◌%◌, ◌≤◌, ◌<◌}
use Rattle.std.specs.Prelude.{Ok}
use Rattle.records.proofs.FieldLaws.{NumberRead}
use Rattle.records.proofs.ReadSteps.{field_inside}
use Rattle.records.specs.Answer.{field}
use Rattle.records.specs.Reads.{Bytes}
use Rattle.records.specs.Request.{is_field, length_at, number_at}
use Rattle.records.specs.Written.{number_bytes}

-- The n bytes from a place.
unfoldable pub bytes_at : List ℕ → ℕ → ℕ → List ℕ
bytes_at s at zero = []
bytes_at s at (suc n) = bytes_at s at n ++ (get_or s (at + n) 0 ∷ [])

module _ (s : List ℕ) where
  -- There are n of them.
  bytes_length : (at n : ℕ) → length (bytes_at s at n) ≡ n
  unfolding bytes_at
  bytes_length at zero = refl
  bytes_length at (suc n) = simp length-append (omega (arith, bytes_length at n))

  -- They are what stands there, if the record is that long.
  pub bytes_taken : (at n : ℕ) → at + n ≤ length s → take n (drop at s) ≡ bytes_at s at n
  unfolding bytes_at
  bytes_taken at zero h = refl
  bytes_taken at (suc n) h =
      rw (take-suc (drop at s) n 0 (omega (arith, length-drop at s)), get_or-drop at s n 0, bytes_taken at n (omega arith))

  -- They write the number that is read from them.
  bytes_number : Bytes s → (at n : ℕ) → bytes_at s at n ≡ number_bytes (number_at s at n) n
  unfolding bytes_at number_bytes number_at
  bytes_number h at zero = refl
  bytes_number h at (suc n) =
      let q : (256 * number_at s at n + get_or s (at + n) 0) / 256 ≡ number_at s at n = omega (arith, h (at + n)) in
      let r : (256 * number_at s at n + get_or s (at + n) 0) % 256 ≡ get_or s (at + n) 0 = omega (arith, h (at + n)) in
      rw (q, r, bytes_number h at n)

  -- From the place of a field on stands the field, then what follows.
  pub field_cut : (at tag size : ℕ) → size < 256 → is_field s at tag size ≡ true
      → drop at s ≡ field tag (bytes_at s (at + 3) size) ++ drop (at + 3 + size) s
  unfolding field is_field length_at number_at
  field_cut at tag size small e =
      let i = field_inside s at tag size e in
      let l = i.2 in
      let a : get_or s (at + 1 + 0) 0 ≡ get_or s (suc at) 0 = ap (λ (n : ℕ). get_or s n 0) (omega arith) in
      let b : get_or s (at + 1 + 1) 0 ≡ get_or s (suc (suc at)) 0 = ap (λ (n : ℕ). get_or s n 0) (omega arith) in
      let c : length (bytes_at s (at + 3) size) / 256 ≡ get_or s (suc at) 0 = omega (arith, bytes_length (at + 3) size) in
      let d : length (bytes_at s (at + 3) size) % 256 ≡ get_or s (suc (suc at)) 0 = omega (arith, bytes_length (at + 3) size) in
      let f : suc (suc (suc at)) ≡ at + 3 = omega arith in
      rw (c, d, ← bytes_taken (at + 3) size i.0, ← drop-drop size (at + 3) s, take-append-drop size (drop (at + 3) s))
      (rw (drop-cons s at 0 (omega arith), i.1, drop-cons s (suc at) 0 (omega arith), drop-cons s (suc (suc at)) 0 (omega arith), f))

  -- From the place of a field that holds a number on stands the number as it is written, then what follows.
  pub number_cut : Bytes s → (at tag size most : ℕ) {n : ℕ} → size < 256
      → NumberRead s at tag size most (Ok n) → drop at s ≡ field tag (number_bytes n size) ++ drop (at + 3 + size) s
  number_cut h at tag size most small (NumberRead.value p q) =
      field_cut at tag size small p ∙ ap (λ (z : List ℕ). field tag z ++ drop (at + 3 + size) s) (bytes_number h (at + 3) size)
