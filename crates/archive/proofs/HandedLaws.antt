-- What is handed to the writer of requests is refused or whole, and what writing then returns and leaves in the area. Assumes nothing.
use borrow.Author.Tests.{le-leb, leb-false, leb-true, lt-leb}
use lib.Dec.{leb}
use lib.ListN.{length}
use lib.Seq.{sets}
use mathlib.Core.Bool.{Bool, true, false, false≢true, true≢false}
use mathlib.Core.List.{List}
use mathlib.Core.Path.{◌≡◌, refl, sym, ap, ◌∙◌}
use native.Mathlib.Omega.{arith}
use Prim.Native.Nat.{ℕ, ◌+◌, ◌*◌, ◌%◌, ◌≤◌, ◌<◌}
use Rattle.std.specs.Prelude.{Ok, Err}
use Rattle.std.specs.Result.{IsOk, is_ok}
use Rattle.records.specs.declared.Ask.{Ask}
use Rattle.archive.proofs.EntryAsks.{asks_bytes}
use Rattle.archive.proofs.RequestStores.{request_length}
use Rattle.archive.proofs.WriterLaws.{Stop, Taken, asks_of, entries_taken, taken_is}
use Rattle.archive.specs.Put.{request_fields}
use Rattle.archive.specs.RequestWrite.{LIMIT_PLACE, SLOT_PLACE, area_written, checked, handed_request, take_entries, write_into, write_request}
use Rattle.archive.specs.Writes.{EntriesRise}
use Rattle.numbers.specs.declared.Refusal.{Refusal}
use Rattle.numbers.specs.Numbers.{OUT_OF_RANGE, SMALL_AREA, refusal}
use Rattle.records.specs.declared.Request.{Request}
use Rattle.records.specs.Request.{no_asks, requested, with_listing, ReadRequest, Reading}
use Rattle.records.specs.Written.{number_bytes, request_record}
use Rattle.slots.specs.declared.CoreSlot.{CoreSlot}
use Rattle.slots.specs.Limits.{LAST_SLOT, LONGEST}

-- The slot and T are in range.
pub record InRange (slot : CoreSlot) (limit : ℕ) : Type 0 where
  pub slot_range : slot.0 ≤ LAST_SLOT
  pub limit_range : limit ≤ LONGEST

module _ (slot : CoreSlot) (limit : ℕ) (listing : List ℕ) where
  -- The request with the first n entries.
  abbrev pub request_of : ℕ → Request
  request_of n = record { slot = slot; limit = limit; asks = asks_of listing n }

  -- What is handed over: the slot is refused, or T, or an entry; or it is whole.
  pub data Handed : ReadRequest → Type 0 where
    no_slot : LAST_SLOT < slot.0 → Handed (Err (refusal OUT_OF_RANGE SLOT_PLACE))
    no_limit : slot.0 ≤ LAST_SLOT → LONGEST < limit → Handed (Err (refusal OUT_OF_RANGE LIMIT_PLACE))
    no_entry_lem : (n : ℕ) {r : Refusal} → InRange slot limit → EntriesRise listing n → Stop listing n (Err r) → Handed (Err r)
    whole : (n : ℕ) → InRange slot limit → EntriesRise listing n → length listing ≡ 3 * n → Handed (Ok (request_of n))

  -- A listing that is taken is handed over so.
  with_taken : InRange slot limit → (x : Reading (List Ask)) → Taken listing x → Handed (with_listing slot limit x)
  unfolding with_listing
  with_taken i x t = at x t.stop
    where
      at : (y : Reading (List Ask)) → Stop listing t.n y → Handed (with_listing slot limit y)
      at y (Stop.end l) = Handed.whole t.n i t.rise l
      at y (Stop.high h f) = Handed.no_entry_lem t.n i t.rise (Stop.high h f)
      at y (Stop.low h f) = Handed.no_entry_lem t.n i t.rise (Stop.low h f)

  -- A slot that is too high is refused,
  pub high_slot : LAST_SLOT < slot.0 → handed_request slot limit listing ≡ Err (refusal OUT_OF_RANGE SLOT_PLACE)
  unfolding handed_request
  high_slot h = rw (lt-leb slot.0 LAST_SLOT h)

  -- then a T that is,
  pub high_limit : slot.0 ≤ LAST_SLOT → LONGEST < limit → handed_request slot limit listing ≡ Err (refusal OUT_OF_RANGE LIMIT_PLACE)
  unfolding handed_request
  high_limit h k = rw (le-leb slot.0 LAST_SLOT h, lt-leb limit LONGEST k)

  -- and then the listing decides.
  handed_listing : InRange slot limit → handed_request slot limit listing ≡ with_listing slot limit (take_entries (length listing) listing 0 0 no_asks)
  unfolding handed_request
  handed_listing i = rw (le-leb slot.0 LAST_SLOT i.slot_range, le-leb limit LONGEST i.limit_range)

  -- It is read where the listing is, or else refused as that is.
  pub handed_checked : InRange slot limit → checked (handed_request slot limit listing) ≡ checked (take_entries (length listing) listing 0 0 no_asks)
  unfolding with_listing
  handed_checked i = rw (handed_listing i) (at (take_entries (length listing) listing 0 0 no_asks))
    where
      at : (x : Reading (List Ask)) → checked (with_listing slot limit x) ≡ checked x
      at (Ok asks) = refl
      at (Err r) = refl

  -- What is handed over is one of the four.
  pub handed_over : Handed (handed_request slot limit listing)
  handed_over = at (leb slot.0 LAST_SLOT) refl (leb limit LONGEST) refl
    where
      at : (a : Bool) → leb slot.0 LAST_SLOT ≡ a → (b : Bool) → leb limit LONGEST ≡ b → Handed (handed_request slot limit listing)
      at false e b f = let h = leb-false slot.0 LAST_SLOT e in rw (high_slot h) (Handed.no_slot h)
      at true e false f =
          let h = leb-true slot.0 LAST_SLOT e in
          let k = leb-false limit LONGEST f in
          rw (high_limit h k) (Handed.no_limit h k)
      at true e true f =
          let i : InRange slot limit = record { slot_range = leb-true slot.0 LAST_SLOT e; limit_range = leb-true limit LONGEST f } in
          rw (handed_listing i) (with_taken i _ (entries_taken listing))

  -- A listing that stops at a refusal is refused so.
  pub handed_refused : (n : ℕ) (r : Refusal) → InRange slot limit → EntriesRise listing n → Stop listing n (Err r)
      → handed_request slot limit listing ≡ Err r
  unfolding with_listing
  handed_refused n r i e s = handed_listing i ∙ ap (with_listing slot limit) (taken_is listing n (Err r) e s)

  -- A whole listing is handed over whole.
  pub handed_whole : (n : ℕ) → InRange slot limit → EntriesRise listing n → length listing ≡ 3 * n
      → handed_request slot limit listing ≡ Ok (request_of n)
  unfolding with_listing
  handed_whole n i e l = handed_listing i ∙ ap (with_listing slot limit) (taken_is listing n (Ok (asks_of listing n)) e (Stop.end l))

  -- What is handed over whole has entries that rise to the listing's end.
  pub record HandedWhole : Type 0 where
    pub n : ℕ
    pub in_range : InRange slot limit
    pub rise : EntriesRise listing n
    pub end : length listing ≡ 3 * n

  -- What is not refused was handed over whole.
  pub whole_handed : IsOk (handed_request slot limit listing) → HandedWhole
  whole_handed = at (handed_request slot limit listing) handed_over
    where
      at : (x : ReadRequest) → Handed x → IsOk x → HandedWhole
      at x (Handed.no_slot h) e = absurd (false≢true e)
      at x (Handed.no_limit h k) e = absurd (false≢true e)
      at x (Handed.no_entry_lem n i r s) e = absurd (false≢true e)
      at x (Handed.whole n i r l) e = record { n = n; in_range = i; rise = r; end = l }

  -- What is handed over whole is written field by field.
  pub request_bytes : (n : ℕ) → InRange slot limit → EntriesRise listing n → request_record (request_of n) ≡ request_fields slot limit listing n
  unfolding request_record request_fields number_bytes
  request_bytes n i r =
      let m : limit % 256 ≡ limit = omega (arith, i.limit_range) in
      rw (m, asks_bytes listing n r)

-- What is checked without a refusal was read,
pub checked_ok : {A : Type 0} (x : Reading A) {u : Unit {0}} → checked x ≡ Ok u → IsOk x
checked_ok (Ok y) e = refl
checked_ok (Err r) e = ap (λ (z : Reading (Unit {0})). is_ok z) e

-- and what is refused there was refused so.
pub checked_err : {A : Type 0} (x : Reading A) {r : Refusal} → checked x ≡ Err r → x ≡ Err r
checked_err (Ok y) e = absurd (true≢false (ap (λ (z : Reading (Unit {0})). is_ok z) e))
checked_err (Err t) {r} e = let k : t ≡ r = cc in ap Err k

module _ (slot : CoreSlot) (limit : ℕ) (listing area : List ℕ) where
  -- What writing returns, and the area afterwards.
  abbrev pub Gives : Reading ℕ → List ℕ → Type 0
  Gives r out = (r ≡ write_request slot limit listing (length area)) × (out ≡ area_written slot limit listing area)

  -- After a refusal an area is as it was.
  area_stays : (r : Refusal) → write_request slot limit listing (length area) ≡ Err r → Gives (Err r) area
  unfolding area_written
  area_stays r e = (sym e, rw e)

  -- A refusal is returned.
  pub write_refused : (r : Refusal) → handed_request slot limit listing ≡ Err r → Gives (Err r) area
  unfolding write_request write_into
  write_refused r e = area_stays r (rw (e, write_into))

  module _ (n : ℕ) (i : InRange slot limit) (e : EntriesRise listing n) (l : length listing ≡ 3 * n) where
    -- What is written,
    bytes : request_record (request_of slot limit listing n) ≡ request_fields slot limit listing n
    bytes = request_bytes slot limit listing n i e

    -- and how many bytes it is.
    size : length (request_record (request_of slot limit listing n)) ≡ 15 + 6 * n
    size = ap (λ (x : List ℕ). length x) bytes ∙ request_length slot limit listing n

    -- An area shorter than the record is refused.
    pub write_small : length area < 15 + 6 * n → Gives (Err (refusal SMALL_AREA 0)) area
    unfolding write_request write_into
    write_small h =
        area_stays _
        (rw (
          handed_whole slot limit listing n i e l,
          write_into,
          lt-leb (length (request_record (request_of slot limit listing n))) (length area) (omega (arith, size)),
        ))

    -- Otherwise the request is written.
    pub write_whole : 15 + 6 * n ≤ length area → Gives (Ok (15 + 6 * n)) (sets area 0 (request_fields slot limit listing n))
    unfolding write_request write_into area_written requested
    write_whole h =
        let w = handed_whole slot limit listing n i e l in
        let r : write_request slot limit listing (length area) ≡ Ok (15 + 6 * n) =
        rw (w, write_into, le-leb (length (request_record (request_of slot limit listing n))) (length area) (omega (arith, size)), size)
        in (sym r, rw (r, w, requested, bytes))
