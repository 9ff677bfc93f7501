-- A request's bytes and how many they are, and an area after its fields are stored one behind the other. Assumes nothing.
use lib.ListN.{length, length-append, set}
use lib.Seq.{sets}
use mathlib.Core.List.{List, [], ◌∷◌, ◌++◌}
use mathlib.Core.Path.{◌≡◌, refl, ◌∙◌}
use native.Mathlib.Numerals.{add-one}
use native.Mathlib.Omega.{arith}
use Prim.Native.Nat.{ℕ, zero, suc, ◌+◌, ◌*◌}
use Rattle.archive.specs.Put.{listing_fields, request_fields}
use Rattle.archive.specs.RequestWrite.{bound_of, id_of, k_of}
use Rattle.records.proofs.FieldStands.{number_length}
use Rattle.records.proofs.SetsLaws.{sets_then}
use Rattle.records.specs.Answer.{field}
use Rattle.records.specs.Written.{number_bytes}
use Rattle.slots.specs.declared.CoreSlot.{CoreSlot}

module _ (listing : List ℕ) where
  -- The fields of the first n entries take six bytes each.
  pub fields_length : (n : ℕ) → length (listing_fields listing n) ≡ 6 * n
  unfolding listing_fields field
  fields_length zero = refl
  fields_length (suc n) = simp length-append (omega (arith, fields_length n))

  -- One entry more is stored behind them.
  pub fields_next : (l m : List ℕ) (n : ℕ)
      → m ≡ sets (sets l 15 (listing_fields listing n)) (15 + 6 * n) (field 3 (id_of listing n ∷ k_of listing n ∷ bound_of listing n ∷ []))
      → m ≡ sets l 15 (listing_fields listing (n + 1))
  unfolding listing_fields
  fields_next l m n e =
      e ∙ rw (add-one n) (sets_then l 15 (15 + 6 * n) (listing_fields listing n) _ (omega (arith, fields_length n)))

module _ (slot : CoreSlot) (limit : ℕ) (listing : List ℕ) (n : ℕ) where
  -- A request takes fifteen bytes for the slot and T, and six for each entry.
  pub request_length : length (request_fields slot limit listing n) ≡ 15 + 6 * n
  unfolding request_fields field
  request_length = simp length-append (omega (arith, number_length slot.0 8, fields_length listing n))

  -- A request's bytes: the field of the slot, the field of T, then the entries' fields.
  pub request_run : request_fields slot limit listing n
      ≡ (1 ∷ 0 ∷ 8 ∷ number_bytes slot.0 8) ++ (2 ∷ 0 ∷ 1 ∷ limit ∷ []) ++ listing_fields listing n
  unfolding request_fields field
  request_run = rw (number_length slot.0 8)

  -- An area in which its fields are stored one behind the other holds the request.
  pub request_stored : (l a b d e : List ℕ) → a ≡ sets l 0 (1 ∷ 0 ∷ 8 ∷ []) → b ≡ sets a 3 (number_bytes slot.0 8)
      → d ≡ sets b 11 (2 ∷ 0 ∷ 1 ∷ []) → e ≡ sets (set d 14 limit) 15 (listing_fields listing n)
      → e ≡ sets l 0 (request_fields slot limit listing n)
  request_stored l a b d e pa pb pd pe =
      let w = number_length slot.0 8 in
      let first : List ℕ = 1 ∷ 0 ∷ 8 ∷ number_bytes slot.0 8 in
      let second : List ℕ = 2 ∷ 0 ∷ 1 ∷ limit ∷ [] in
      let x : b ≡ sets l 0 first = pb ∙ rw pa (sets_then l 0 3 (1 ∷ 0 ∷ 8 ∷ []) (number_bytes slot.0 8) refl) in
      let y : set d 14 limit ≡ sets l 0 (first ++ second) = rw (pd, x) (sets_then l 0 11 first second (omega arith)) in
      pe ∙ rw (y, request_run) (sets_then l 0 15 (first ++ second) (listing_fields listing n) (omega (arith, length-append first second)))
