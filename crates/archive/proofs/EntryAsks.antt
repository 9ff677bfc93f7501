-- What the entries of a listing ask: one ask for each id, in range, what its entry says or nothing; and it is written as their fields. Assumes nothing.
use borrow.Author.Tests.{lt-ltb, ne_eqb}
use lib.ListN.{length, length-set}
use lib.Pow.{pow_pos}
use lib.Seq.{get_or-set_other, get_or-set_same}
use mathlib.Core.List.{List, [], ◌∷◌, ◌++◌}
use mathlib.Core.Logic.{◌⊎◌, ◌≢◌, inl, inr}
use mathlib.Core.Path.{◌≡◌, refl, sym, ap₂, ◌∙◌}
use native.Mathlib.Decide.{ℕ_discrete}
use native.Mathlib.Omega.{arith}
use Prim.Native.Nat.{ℕ, zero, suc, ◌<◌}
use Rattle.archive.proofs.WriterLaws.{asks_of, floor_of, rise_below, rise_floor, rise_less}
use Rattle.archive.specs.Put.{listing_fields}
use Rattle.archive.specs.RequestWrite.{ask_at, bound_of, id_of, k_of}
use Rattle.archive.specs.Writes.{EntriesRise, EntryRange}
use Rattle.records.proofs.OneForm.{Fresh, exponent_power, fresh_above, listing_above, nothing_listed}
use Rattle.records.proofs.ReadLaws.{AskRange, AsksRange, no_ask_lem}
use Rattle.records.specs.Answer.{field}
use Rattle.records.specs.Request.{ask_of, no_ask}
use Rattle.records.specs.Written.{listed_bytes, listing_bytes}
use Rattle.slots.specs.Limits.{IDS}

module _ (listing : List ℕ) where
  -- An entry in range is written in full.
  entry_bytes_lem : (n : ℕ) → EntryRange listing n
      → listed_bytes (id_of listing n) (ask_at listing n) ≡ field 3 (id_of listing n ∷ k_of listing n ∷ bound_of listing n ∷ [])
  unfolding listed_bytes
  entry_bytes_lem n r = rw (ne_eqb (bound_of listing n) 0 (λ z. omega (arith, r.low)), exponent_power (k_of listing n) r.k)

  -- The asks of entries are one for each id,
  asks_count : (n : ℕ) → length (asks_of listing n) ≡ IDS
  unfolding asks_of
  asks_count zero = refl
  asks_count (suc n) = length-set (asks_of listing n) (id_of listing n) (ask_at listing n) ∙ asks_count n

  -- from the next floor on nothing is asked,
  asks_fresh : (n : ℕ) → EntriesRise listing n → Fresh (floor_of listing n) (asks_of listing n)
  unfolding asks_of floor_of
  asks_fresh zero r = λ i h. no_ask_lem i
  asks_fresh (suc n) r =
      let f = asks_fresh n (rise_less listing n r (omega arith)) in
      fresh_above (asks_of listing n) (id_of listing n) (ask_at listing n) (λ i h. f i (omega (arith, rise_floor listing n r)))

  -- and they are written as the entries' fields.
  pub asks_bytes : (n : ℕ) → EntriesRise listing n → listing_bytes (asks_of listing n) IDS ≡ listing_fields listing n
  unfolding asks_of listing_fields
  asks_bytes zero r = nothing_listed
  asks_bytes (suc n) r =
      let e = r.range n (omega arith) in
      let f = asks_fresh n (rise_less listing n r (omega arith)) in
      listing_above (asks_of listing n) (id_of listing n) (ask_at listing n) (omega (arith, asks_count n, e.id)) (lt-ltb _ _ (pow_pos (k_of listing n)))
      (λ i h. f i (omega (arith, rise_floor listing n r))) IDS e.id
      ∙ ap₂ ◌++◌ (asks_bytes n (rise_less listing n r (omega arith))) (entry_bytes_lem n e)

  -- What an entry says is asked for its id,
  pub ask_listed : (n m : ℕ) → EntriesRise listing n → m < n → ask_of (asks_of listing n) (id_of listing m) ≡ ask_at listing m
  unfolding asks_of
  ask_listed zero m r h = elim h [ ]
  ask_listed (suc n) m r h = at (ℕ_discrete m n) (ask_listed n m (rise_less listing n r (omega arith)))
    where
      at : Dec (m ≡ n) → (m < n → ask_of (asks_of listing n) (id_of listing m) ≡ ask_at listing m)
          → ask_of (asks_of listing (suc n)) (id_of listing m) ≡ ask_at listing m
      at (yes q) ih =
          rw q
          (get_or-set_same (asks_of listing n) (id_of listing n) (ask_at listing n) no_ask
          (omega (arith, asks_count n, (r.range n (omega arith)).id)))
      at (no q) ih =
          let b = rise_below listing n m (rise_less listing n r (omega arith)) (omega arith) in
          get_or-set_other (asks_of listing n) (id_of listing n) (id_of listing m) (ask_at listing n) no_ask (omega (arith, b, rise_floor listing n r))
          ∙ ih (omega arith)

  -- and nothing for an id that no entry has.
  pub ask_none : (n i : ℕ) → ((m : ℕ) → m < n → id_of listing m ≢ i) → ask_of (asks_of listing n) i ≡ no_ask
  unfolding asks_of
  ask_none zero i f = no_ask_lem i
  ask_none (suc n) i f =
      get_or-set_other (asks_of listing n) (id_of listing n) i (ask_at listing n) no_ask (λ e. f n (omega arith) (sym e))
      ∙ ask_none n i (λ m h. f m (omega arith))

  -- An id is that of an entry, or of none.
  found : (n i : ℕ) → ((m : ℕ) × (m < n) × (id_of listing m ≡ i)) ⊎ ((m : ℕ) → m < n → id_of listing m ≢ i)
  found zero i = inr (λ m h. absurd (omega arith))
  found (suc n) i = at (ℕ_discrete (id_of listing n) i) (found n i)
    where
      at : Dec (id_of listing n ≡ i) → ((m : ℕ) × (m < n) × (id_of listing m ≡ i)) ⊎ ((m : ℕ) → m < n → id_of listing m ≢ i)
          → ((m : ℕ) × (m < suc n) × (id_of listing m ≡ i)) ⊎ ((m : ℕ) → m < suc n → id_of listing m ≢ i)
      at (yes q) x = inl (n, omega arith, q)
      at (no q) (inl x) = inl (x.0, omega (arith, x.1), x.2)
      at (no q) (inr f) = inr (λ m h. other m h (ℕ_discrete m n))
        where
          other : (m : ℕ) → m < suc n → Dec (m ≡ n) → id_of listing m ≢ i
          other m h (yes z) = rw z q
          other m h (no z) = f m (omega arith)

  -- What entries that rise ask is in range.
  pub asks_range : (n : ℕ) → EntriesRise listing n → AsksRange (asks_of listing n)
  asks_range n r = record { count = asks_count n; each = λ i h. at i (found n i) }
    where
      at : (i : ℕ) → ((m : ℕ) × (m < n) × (id_of listing m ≡ i)) ⊎ ((m : ℕ) → m < n → id_of listing m ≢ i) → AskRange (ask_of (asks_of listing n) i)
      at i (inl x) =
          let e = r.range x.0 x.1 in
          rw (← x.2, ask_listed n x.0 r x.1) (inr (record { k = k_of listing x.0; small = e.k; power = refl }, e.high))
      at i (inr f) = rw (ask_none n i f) (inl (refl, refl))
