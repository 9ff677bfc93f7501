-- A request that is written stands in the area field by field, and what the writer gives is the one case that holds: every byte of the area is in one
-- field, or behind them all. Assumes nothing.
use lib.ListN.{drop, get_or, length, length-append}
use lib.Seq.{ext_get_or, get_or-append-add, length-sets, sets}
use mathlib.Core.List.{List, [], ◌∷◌, ◌++◌}
use mathlib.Core.Logic.{◌≢◌}
use mathlib.Core.Path.{◌≡◌, refl, sym, ap, ◌∙◌, subst, subst₂}
use native.Mathlib.Decide.{ℕ_discrete, dec_lt}
use native.Mathlib.Omega.{arith}
use Prim.Native.Nat.{ℕ, zero, suc, ◌+◌, ◌-◌, ◌*◌, ◌/◌, ◌≤◌, ◌<◌}
use Rattle.std.specs.Prelude.{Ok, Err}
use Rattle.archive.proofs.HandedLaws.{Gives, Handed, InRange, handed_over, handed_refused, high_limit, high_slot, write_refused, write_small, write_whole}
use Rattle.archive.proofs.RequestStores.{fields_length, request_length, request_run}
use Rattle.archive.proofs.WriterLaws.{Stop, floor_of}
use Rattle.archive.specs.Put.{listing_fields, request_fields}
use Rattle.archive.specs.RequestWrite.{area_written, bound_of, handed_request, id_of, k_of, write_request}
use Rattle.archive.specs.Told.{told_number, told_place, told_written}
use Rattle.archive.specs.Writes.{EntriesRise, RequestStands, RequestTells, RequestWritten}
use Rattle.numbers.specs.declared.Refusal.{Refusal}
use Rattle.numbers.specs.Numbers.{ACCEPTED}
use Rattle.records.proofs.AnswerPlaces.{agree, stand_behind, stand_first, stand_front}
use Rattle.records.proofs.FieldStands.{number_length}
use Rattle.records.proofs.SetsLaws.{sets_front, sets_rest}
use Rattle.records.specs.Answer.{field}
use Rattle.records.specs.AnswerForm.{Stand}
use Rattle.records.specs.Request.{ReadRequest, Reading}
use Rattle.records.specs.Written.{number_bytes}
use Rattle.slots.specs.declared.CoreSlot.{CoreSlot}

-- The field of an entry, byte by byte.
abbrev entry_bytes : List ℕ → ℕ → List ℕ
entry_bytes listing m = 3 ∷ 0 ∷ 3 ∷ id_of listing m ∷ k_of listing m ∷ bound_of listing m ∷ []

-- Among the fields of the first n entries, an entry's stands behind those before it, six bytes each.
entry_from : (listing : List ℕ) (n m : ℕ) → m < n → Stand (listing_fields listing n) (6 * m) (entry_bytes listing m)
unfolding listing_fields field
entry_from listing zero m h = elim h [ ]
entry_from listing (suc n) m h = at (ℕ_discrete m n) (entry_from listing n m)
  where
    at : Dec (m ≡ n) → (m < n → Stand (listing_fields listing n) (6 * m) (entry_bytes listing m))
        → Stand (listing_fields listing (suc n)) (6 * m) (entry_bytes listing m)
    at (yes z) ih =
        subst (λ (x : ℕ). Stand (listing_fields listing (suc n)) (6 * x) (entry_bytes listing x)) (sym z)
        (rw (← (fields_length listing n)) (λ k h. get_or-append-add (listing_fields listing n) _ k 0))
    at (no z) ih =
        stand_front (listing_fields listing n) (entry_bytes listing n) (entry_bytes listing m) (6 * m) (omega (arith, fields_length listing n)) (ih (omega arith))

module _ (slot : CoreSlot) (limit : ℕ) (listing : List ℕ) (n : ℕ) where
  -- The field of the slot,
  abbrev first : List ℕ
  first = 1 ∷ 0 ∷ 8 ∷ number_bytes slot.0 8

  -- and the field of T.
  abbrev second : List ℕ
  second = 2 ∷ 0 ∷ 1 ∷ limit ∷ []

  -- What stands in the request's bytes stands in the area.
  in_area : (before bytes : List ℕ) (at : ℕ) → 15 + 6 * n ≤ length before → at + length bytes ≤ 15 + 6 * n
      → Stand (first ++ second ++ listing_fields listing n) at bytes → Stand (sets before 0 (request_fields slot limit listing n)) at bytes
  in_area before bytes at room l x =
      let r = request_fields slot limit listing n in
      let s = request_length slot limit listing n in
      rw (sets_front before r (omega (arith, s)))
      (stand_front r (drop (length r) before) bytes at (omega (arith, s)) (rw (request_run slot limit listing n) x))

  -- A request that is written stands so.
  request_stands : (before : List ℕ) → 15 + 6 * n ≤ length before
      → RequestStands slot limit listing before n (sets before 0 (request_fields slot limit listing n))
  request_stands before room =
      let w = number_length slot.0 8 in
      let s = length-append first second in
      record {
        slot_field_at =
            in_area before first 0 room (omega (arith, w))
            (stand_front (first ++ second) (listing_fields listing n) first 0 (omega (arith, s)) (stand_first first second));
        limit_field_at =
            in_area before second 11 room (omega arith)
            (stand_front (first ++ second) (listing_fields listing n) second 11 (omega (arith, s, w))
            (stand_behind first second second 11 0 (omega (arith, w)) (stand_first second [])));
        entry_field = λ m h.
            in_area before (entry_bytes listing m) (15 + 6 * m) room (omega arith)
            (stand_behind (first ++ second) (listing_fields listing n) (entry_bytes listing m) 15 (6 * m) (omega (arith, s, w)) (entry_from listing n m h));
        rest = λ j h. sets_rest before 0 j (request_fields slot limit listing n) (omega (arith, request_length slot limit listing n));
        same = length-sets before 0 (request_fields slot limit listing n);
      }

  module _ (before a b : List ℕ) (x : RequestStands slot limit listing before n a) (y : RequestStands slot limit listing before n b) where
    -- Every byte of the two areas is the same: it is in one of the fields, or behind them all.
    byte : (j : ℕ) → Dec (j < 11) → Dec (j < 15) → Dec (j < 15 + 6 * n) → get_or a j 0 ≡ get_or b j 0
    byte j (yes p) q r =
        agree a b first 0 x.slot_field_at y.slot_field_at j (omega arith) (omega (arith, number_length slot.0 8))
    byte j (no p) (yes q) r = agree a b second 11 x.limit_field_at y.limit_field_at j (omega arith) (omega arith)
    byte j (no p) (no q) (yes r) =
        let m = (j - 15) / 6 in
        let h : m < n = omega arith in
        agree a b (entry_bytes listing m) (15 + 6 * m) (x.entry_field m h) (y.entry_field m h) j (omega arith) (omega arith)
    byte j (no p) (no q) (no r) = x.rest j (omega arith) ∙ sym (y.rest j (omega arith))

    -- What stands so has one content.
    stands_one : a ≡ b
    stands_one = ext_get_or 0 a b (x.same ∙ sym y.same) (λ j h. byte j (dec_lt j 11) (dec_lt j 15) (dec_lt j (15 + 6 * n)))

module _ (slot : CoreSlot) (limit : ℕ) (listing area : List ℕ) where
  -- A case that gives what writing gives is the case of writing.
  given : (r : Reading ℕ) (out : List ℕ) → Gives slot limit listing area r out → RequestWritten slot limit listing area r out
      → RequestWritten slot limit listing area (write_request slot limit listing (length area)) (area_written slot limit listing area)
  given r out g x = subst₂ (RequestWritten slot limit listing area) g.0 g.1 x

  -- Writing a request gives what its cases say.
  pub request_written : RequestWritten slot limit listing area (write_request slot limit listing (length area)) (area_written slot limit listing area)
  unfolding floor_of
  request_written = at (handed_request slot limit listing) refl (handed_over slot limit listing)
    where
      Out : Type 0
      Out = RequestWritten slot limit listing area (write_request slot limit listing (length area)) (area_written slot limit listing area)

      whole : (n : ℕ) → InRange slot limit → EntriesRise listing n → length listing ≡ 3 * n → Dec (length area < 15 + 6 * n) → Out
      whole n i r l (yes q) =
          given _ _ (write_small slot limit listing area n i r l q) (RequestWritten.small n i.slot_range i.limit_range l r q)
      whole n i r l (no q) =
          let room : 15 + 6 * n ≤ length area = omega arith in
          given _ _ (write_whole slot limit listing area n i r l room)
          (RequestWritten.written n i.slot_range i.limit_range l r room (request_stands slot limit listing n area room))

      at : (x : ReadRequest) → handed_request slot limit listing ≡ x → Handed slot limit listing x → Out
      at x e (Handed.no_slot h) = given _ _ (write_refused slot limit listing area _ e) (RequestWritten.slot_high h)
      at x e (Handed.no_limit h k) = given _ _ (write_refused slot limit listing area _ e) (RequestWritten.limit_high h k)
      at x e (Handed.no_entry_lem n i r (Stop.high l f)) =
          given _ _ (write_refused slot limit listing area _ e) (RequestWritten.out_of_range n i.slot_range i.limit_range r l f)
      at x e (Handed.no_entry_lem zero i r (Stop.low l f)) = absurd (omega arith)
      at x e (Handed.no_entry_lem (suc m) i r (Stop.low l f)) =
          given _ _ (write_refused slot limit listing area _ e)
          (RequestWritten.not_rising m i.slot_range i.limit_range r l (omega arith))
      at x e (Handed.whole n i r l) = whole n i r l (dec_lt (length area) (15 + 6 * n))

  -- Whatever its cases say is what writing a request gives.
  request_gives : {r : Reading ℕ} {out : List ℕ} → RequestWritten slot limit listing area r out → Gives slot limit listing area r out
  unfolding floor_of
  request_gives (RequestWritten.slot_high h) =
      write_refused slot limit listing area _ (high_slot slot limit listing h)
  request_gives (RequestWritten.limit_high h k) =
      write_refused slot limit listing area _ (high_limit slot limit listing h k)
  request_gives (RequestWritten.out_of_range n h k e l f) =
      write_refused slot limit listing area _
      (handed_refused slot limit listing n _ (record { slot_range = h; limit_range = k }) e (Stop.high l f))
  request_gives (RequestWritten.not_rising m h k e l f) =
      write_refused slot limit listing area _
      (handed_refused slot limit listing (suc m) _ (record { slot_range = h; limit_range = k }) e (Stop.low l (omega arith)))
  request_gives (RequestWritten.small n h k l e q) =
      write_small slot limit listing area n (record { slot_range = h; limit_range = k }) e l q
  request_gives (RequestWritten.written n {after = after} h k l e room x) =
      let g = write_whole slot limit listing area n (record { slot_range = h; limit_range = k }) e l room in
      (g.0, stands_one slot limit listing n area after _ x (request_stands slot limit listing n area room) ∙ g.1)

  -- The cases give one result and one area.
  pub request_written_one : {r s : Reading ℕ} {a b : List ℕ} → RequestWritten slot limit listing area r a → RequestWritten slot limit listing area s b
      → (r ≡ s) × (a ≡ b)
  request_written_one x y =
      let g = request_gives x in
      let h = request_gives y in
      (g.0 ∙ sym h.0, g.1 ∙ sym h.1)

  -- Writing a request tells what its cases say:
  pub request_tells : RequestTells slot limit listing area
      (told_number (write_request slot limit listing (length area)))
      (told_place (write_request slot limit listing (length area)))
      (told_written (write_request slot limit listing (length area)))
      (area_written slot limit listing area)
  unfolding told_number told_place told_written
  request_tells = by (write_request slot limit listing (length area)) request_written
    where
      by : (w : Reading ℕ) → RequestWritten slot limit listing area w (area_written slot limit listing area)
          → RequestTells slot limit listing area (told_number w) (told_place w) (told_written w) (area_written slot limit listing area)
      by (Ok n) x = RequestTells.accepted x
      by (Err r) x = RequestTells.refused x

  -- Whatever its cases tell is what writing a request tells.
  tells_is : {n p w : ℕ} {a : List ℕ} → RequestTells slot limit listing area n p w a
      → (told_number (write_request slot limit listing (length area)) ≡ n) × (told_place (write_request slot limit listing (length area)) ≡ p)
      × (told_written (write_request slot limit listing (length area)) ≡ w) × (area_written slot limit listing area ≡ a)
  unfolding told_number told_place told_written
  tells_is (RequestTells.refused x) =
      let g = request_gives x in
      let e = sym g.0 in
      (ap told_number e, ap told_place e, ap told_written e, sym g.1)
  tells_is (RequestTells.accepted x) =
      let g = request_gives x in
      let e = sym g.0 in
      (ap told_number e, ap told_place e, ap told_written e, sym g.1)

  -- The cases tell one number, one place, one count of bytes, and leave one area.
  pub request_tells_one : {n p w n' p' w' : ℕ} {a b : List ℕ} → RequestTells slot limit listing area n p w a → RequestTells slot limit listing area n' p' w' b
      → (n ≡ n') × (p ≡ p') × (w ≡ w') × (a ≡ b)
  request_tells_one x y =
      let g = tells_is x in
      let h = tells_is y in
      (sym g.0 ∙ h.0, sym g.1 ∙ h.1, sym g.2 ∙ h.2, sym g.3 ∙ h.3)

  -- A refusal has another number than 0.
  refused_number : {r : Refusal} {a : List ℕ} → RequestWritten slot limit listing area (Err r) a → r.number ≢ ACCEPTED
  refused_number (RequestWritten.slot_high h) e = omega (arith, e)
  refused_number (RequestWritten.limit_high h k) e = omega (arith, e)
  refused_number (RequestWritten.out_of_range n h k i l f) e = omega (arith, e)
  refused_number (RequestWritten.not_rising m h k i l f) e = omega (arith, e)
  refused_number (RequestWritten.small n h k l i q) e = omega (arith, e)

  -- Where number 0 is told, as many bytes are written as are told.
  pub tells_written : {n p w : ℕ} {a : List ℕ} → RequestTells slot limit listing area n p w a → n ≡ ACCEPTED
      → (write_request slot limit listing (length area) ≡ Ok w) × (area_written slot limit listing area ≡ a)
  tells_written (RequestTells.accepted x) e = let g = request_gives x in (sym g.0, sym g.1)
  tells_written (RequestTells.refused x) e = absurd (refused_number x e)
