-- What is handed over whole is in range and asks what its entries say, and what is written of it is read back. Assumes nothing.
use lib.ListN.{length, take}
use mathlib.Core.List.{List}
use mathlib.Core.Path.{◌≡◌, refl, sym, ap, ap₂, ◌∙◌, subst}
use native.Mathlib.Decide.{dec_lt}
use native.Mathlib.Omega.{arith}
use Prim.Native.Nat.{ℕ, ◌+◌, ◌*◌, ◌≤◌, ◌<◌}
use Rattle.std.specs.Prelude.{Ok, Err}
use Rattle.std.specs.Result.{IsOk, is_ok}
use mathlib.Core.Bool.{false≢true}
use Rattle.archive.proofs.EntryAsks.{ask_listed, ask_none, asks_range}
use Rattle.archive.proofs.HandedLaws.{HandedWhole, handed_whole, request_bytes, request_of, whole_handed, write_refused, write_small, write_whole}
use Rattle.archive.proofs.RequestStores.{request_length}
use Rattle.archive.specs.Put.{request_fields}
use Rattle.archive.specs.RequestWrite.{area_written, handed_request, write_request}
use Rattle.archive.specs.Writes.{ListsEntries}
use Rattle.records.proofs.ReadLaws.{RequestRange}
use Rattle.records.proofs.RoundTrip.{round_trip}
use Rattle.records.proofs.SetsLaws.{sets_taken}
use Rattle.records.specs.Request.{read_request, requested, ReadRequest, Reading}
use Rattle.slots.specs.declared.CoreSlot.{CoreSlot}

module _ (slot : CoreSlot) (limit : ℕ) (listing : List ℕ) where
  -- A request that is handed over whole is in range.
  pub handed_range : IsOk (handed_request slot limit listing) → RequestRange (requested (handed_request slot limit listing))
  unfolding requested
  handed_range e =
      let w = whole_handed slot limit listing e in
      rw (handed_whole slot limit listing w.n w.in_range w.rise w.end)
      (record { slot = w.in_range.slot_range; limit = w.in_range.limit_range; asks = asks_range listing w.n w.rise })

  -- It has the slot and T that were handed over, and asks what the listing's entries say.
  pub handed_lists : IsOk (handed_request slot limit listing)
      → ((requested (handed_request slot limit listing)).slot ≡ slot) × ((requested (handed_request slot limit listing)).limit ≡ limit)
      × ListsEntries listing (requested (handed_request slot limit listing)).asks
  unfolding requested
  handed_lists e =
      let w = whole_handed slot limit listing e in
      rw (handed_whole slot limit listing w.n w.in_range w.rise w.end) (
        refl,
        refl,
        record {
          listed = λ n h. ask_listed listing w.n n w.rise (omega (arith, w.end));
          others = λ i f. ask_none listing w.n i (λ m h. f m (omega (arith, w.end)));
        },
      )

module _ (slot : CoreSlot) (limit : ℕ) (listing area : List ℕ) where
  -- What is written was handed over whole, and the area has room for it.
  accepted : (n : ℕ) → write_request slot limit listing (length area) ≡ Ok n
      → (w : HandedWhole slot limit listing) × (15 + 6 * w.n ≤ length area)
  accepted n e = at (handed_request slot limit listing) refl
    where
      room : (w : HandedWhole slot limit listing) → Dec (length area < 15 + 6 * w.n) → 15 + 6 * w.n ≤ length area
      room w (no q) = omega arith
      room w (yes q) =
          absurd (false≢true (ap (λ (x : Reading ℕ). is_ok x) ((write_small slot limit listing area w.n w.in_range w.rise w.end q).0 ∙ e)))

      at : (y : ReadRequest) → handed_request slot limit listing ≡ y → (w : HandedWhole slot limit listing) × (15 + 6 * w.n ≤ length area)
      at (Ok q) p =
          let w = whole_handed slot limit listing (ap (λ (x : ReadRequest). is_ok x) p) in
          (w, room w (dec_lt (length area) (15 + 6 * w.n)))
      at (Err r) p = absurd (false≢true (ap (λ (x : Reading ℕ). is_ok x) ((write_refused slot limit listing area r p).0 ∙ e)))

  -- So the request was handed over whole.
  pub accepted_whole : (n : ℕ) → write_request slot limit listing (length area) ≡ Ok n → IsOk (handed_request slot limit listing)
  accepted_whole n e =
      let w = (accepted n e).0 in
      ap (λ (x : ReadRequest). is_ok x) (handed_whole slot limit listing w.n w.in_range w.rise w.end)

  -- What is written is read back, as it was handed over.
  pub written_back : (n : ℕ) → write_request slot limit listing (length area) ≡ Ok n
      → read_request (take n (area_written slot limit listing area)) ≡ Ok (requested (handed_request slot limit listing))
  unfolding requested
  written_back n e =
      let a = accepted n e in
      let w = a.0 in
      let h = handed_whole slot limit listing w.n w.in_range w.rise w.end in
      let g = write_whole slot limit listing area w.n w.in_range w.rise w.end a.1 in
      let k : n ≡ 15 + 6 * w.n = let z = g.0 ∙ e in cc in
      let range = handed_range slot limit listing (accepted_whole n e) in
      ap₂ (λ (x : ℕ) (y : List ℕ). read_request (take x y)) k (sym g.1)
      ∙ ap read_request
      (sets_taken area (request_fields slot limit listing w.n) (15 + 6 * w.n) (request_length slot limit listing w.n) a.1
      ∙ sym (request_bytes slot limit listing w.n w.in_range w.rise))
      ∙ round_trip (request_of slot limit listing w.n) (subst (λ (x : ReadRequest). RequestRange (requested x)) h range)
      ∙ sym (ap (λ (x : ReadRequest). Ok (requested x)) h)
