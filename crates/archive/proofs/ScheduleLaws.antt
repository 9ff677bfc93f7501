-- A schedule's parts: the owners of a record one by one, what is said of an id, and the schedule of a timetable. Assumes nothing.
use borrow.Author.Tests.{le-ltb, lt-ltb}
use lib.ListN.{drop, get_or, get_or-replicate, length, length-append, length-drop, length-replicate, get_or-append, get_or-map, replicate, take}
use lib.Seq.{ext_get_or, get_or_at, get_or-append-add, get_or-drop, get_or-take}
use mathlib.Core.List.{List, [], ◌∷◌, ◌++◌, map}
use mathlib.Core.Path.{◌≡◌, refl, sym, ap, ◌∙◌}
use native.Mathlib.Decide.{ℕ_discrete, dec_lt}
use native.Mathlib.Omega.{arith}
use Prim.Native.Nat.{ℕ, zero, suc, ◌+◌, ◌-◌, ◌≤◌, ◌<◌}
use Rattle.archive.specs.AnswerRead.{told_owner, owners_below, entry_offset, id_offset, told_length}
use Rattle.records.specs.Request.{content_at}
use Rattle.std.proofs.lemmas.List.{length-take}
use Rattle.slots.specs.Limits.{LONGEST}
use Rattle.timetable.specs.declared.Entry.{Entry}
use Rattle.timetable.specs.Timetable.{entry_of, no_entry}

module _ (s : List ℕ) where
  -- The owners of n slots are n.
  pub owners_length : (n : ℕ) → length (owners_below s n) ≡ n
  unfolding owners_below
  owners_length zero = refl
  owners_length (suc n) = simp length-append (omega (arith, owners_length n))

  -- Owner k of them.
  pub owner_below : (n k : ℕ) → k < n → get_or (owners_below s n) k 0 ≡ told_owner s k
  unfolding owners_below
  owner_below zero k h = elim h [ ]
  owner_below (suc n) k h = by (ℕ_discrete k n) (owner_below n k)
    where
      by : Dec (k ≡ n) → (k < n → get_or (owners_below s n) k 0 ≡ told_owner s k) → get_or (owners_below s n ++ (told_owner s n ∷ [])) k 0 ≡ told_owner s k
      by (yes e) rest = rw e (get_or_at (owners_below s n) (told_owner s n) [] 0 n (owners_length n))
      by (no e) rest = get_or-append (owners_below s n) _ 0 k (omega (arith, owners_length n)) ∙ rest (omega arith)

  -- A list of n numbers that are the owners is the owners.
  pub owners_are : (n : ℕ) (l : List ℕ) → length l ≡ n → ((k : ℕ) → k < n → get_or l k 0 ≡ told_owner s k) → l ≡ owners_below s n
  owners_are n l e h =
      ext_get_or 0 l (owners_below s n) (e ∙ sym (owners_length n)) (λ k b. h k (omega (arith, e)) ∙ sym (owner_below n k (omega (arith, e))))

  -- Owners that were copied to the front of zeros are the owners.
  pub owners_copied : (n : ℕ) → n ≡ told_length s → n ≤ LONGEST → 7 + n ≤ length s
      → take (7 + n - 7) (drop 7 s) ++ drop n (replicate LONGEST 0) ≡ owners_below s LONGEST
  unfolding told_owner content_at
  owners_copied n e b h = owners_are LONGEST front_and_zeros count (λ k l. by k l (dec_lt k n))
    where
      front : List ℕ
      front = take (7 + n - 7) (drop 7 s)

      zeros : List ℕ
      zeros = drop n (replicate LONGEST 0)

      front_and_zeros : List ℕ
      front_and_zeros = front ++ zeros

      front_count : length front ≡ n
      front_count = omega (arith, length-take (7 + n - 7) (drop 7 s), length-drop 7 s)

      count : length front_and_zeros ≡ LONGEST
      count = omega (arith, length-append front zeros, front_count, length-drop {A = ℕ} n (replicate LONGEST 0), length-replicate {A = ℕ} LONGEST 0)

      by : (k : ℕ) → k < LONGEST → Dec (k < n) → get_or front_and_zeros k 0 ≡ told_owner s k
      by k l (yes d) =
          get_or-append front zeros 0 k (omega (arith, front_count))
          ∙ get_or-take (7 + n - 7) (drop 7 s) k 0 (omega arith) ∙ get_or-drop 7 s k 0 ∙ rw (lt-ltb k (told_length s) (omega arith))
      by k l (no d) =
          let m : k ≡ length front + (k - n) = omega (arith, front_count) in
          let j : n + (k - n) ≡ k = omega arith in
          rw (le-ltb k (told_length s) (omega arith))
          (ap (λ (x : ℕ). get_or front_and_zeros x 0) m ∙ get_or-append-add front zeros (k - n) 0 ∙ get_or-drop n (replicate LONGEST 0) (k - n) 0
          ∙ ap (λ (x : ℕ). get_or (replicate LONGEST 0) x 0) j ∙ get_or-replicate LONGEST k 0 0 l)

  -- Where the transition has no slot, the owners are zeros.
  pub owners_none : told_length s ≡ 0 → replicate LONGEST 0 ≡ owners_below s LONGEST
  unfolding told_owner
  owners_none e =
      owners_are LONGEST (replicate LONGEST 0) (length-replicate {A = ℕ} LONGEST 0)
      (λ k h. get_or-replicate LONGEST k 0 0 h ∙ sym (rw (le-ltb k (told_length s) (omega arith)) refl))

-- What is said of id i is what its entry says.
pub placed_map : (es : List Entry) (i : ℕ) → id_offset (map entry_offset es) i ≡ entry_offset (entry_of es i)
placed_map es i = get_or-map entry_offset es i no_entry
