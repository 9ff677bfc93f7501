-- What reading a request gives: it goes from field to field, each where the one before ends, and each is in range. Assumes nothing.
use borrow.Author.Tests.{leb-true, leb-false, lt-leb, le-leb, ltb-true, eqb-true}
use lib.Dec.{leb, ltb}
use lib.ListN.{get_or, length}
use mathlib.Core.Bool.{Bool, true, false, false≢true}
use mathlib.Core.List.{List}
use mathlib.Core.Path.{◌≡◌, refl, sym, ap, subst}
use native.Mathlib.Omega.{arith}
use Prim.Native.Nat.{ℕ, zero, suc, ◌+◌, ◌≤◌, ◌<◌}
use Rattle.std.specs.Prelude.{Ok, Err}
use Rattle.std.specs.Result.{IsOk}
use Rattle.records.specs.declared.Listed.{Listed}
use Rattle.records.specs.declared.Request.{Request}
use Rattle.records.proofs.FieldLaws.{NumberRead, ListedForm, ListedRead, number_read, number_is, listed_read, listed_is}
use Rattle.records.specs.declared.Ask.{Ask}
pub use Rattle.records.specs.Reads.{ListingRead, none, more, stop, SlotRead, LimitRead, RequestRead, no_slot, no_limit, no_listing, whole}
use Rattle.records.specs.Request.{content_at, is_field, is_listing, length_at, limit_field, listed_field, no_asks, read_listing, read_request, requested, slot_field, with_listing, ReadRequest, Reading}
use Rattle.slots.proofs.Below.{and_both}
use Rattle.slots.specs.Limits.{IDS, LARGEST_BOUND, LARGEST_K, LAST_SLOT, LONGEST}
use Rattle.timetable.specs.Sound.{is_bound}

-- A tag 3 field in range, and that it ends ahead.
pub record ListedRange (s : List ℕ) (at next bound : ℕ) : Type 0 where
  pub id_range : content_at s at 0 < IDS
  pub k_range : content_at s at 1 ≤ LARGEST_K
  pub bound_range : bound ≤ LARGEST_BOUND
  pub ahead : at < next

-- A field stands inside the record, with its tag and its length.
pub field_inside : (s : List ℕ) (at tag size : ℕ) → is_field s at tag size ≡ true
    → (at + 3 + size ≤ length s) × (get_or s at 0 ≡ tag) × (length_at s at ≡ size)
unfolding is_field
field_inside s at tag size e =
    let a = and_both _ _ e in
    let b = and_both _ _ a.0 in
    (leb-true _ _ b.0, eqb-true _ _ b.1, eqb-true _ _ a.1)

-- A number that was read is at most the most, and its field ends inside the record.
pub number_range : (s : List ℕ) (at tag size most : ℕ) {n : ℕ} → NumberRead s at tag size most (Ok n)
    → (n ≤ most) × (at + 3 + size ≤ length s)
number_range s at tag size most (NumberRead.value p q) = (q, (field_inside s at tag size p).0)

-- A tag 3 field in range, in either form.
pub listed_range : (s : List ℕ) (at : ℕ) {next bound : ℕ} {range : Bool} → ListedForm s at next bound range → range ≡ true
    → ListedRange s at next bound
unfolding is_listing is_bound
listed_range s at (ListedForm.long p) e =
    let a = and_both _ _ e in
    let b = and_both _ _ a.0 in
    let c = and_both (ltb 0 (content_at s at 2)) (leb (content_at s at 2) LARGEST_BOUND) a.1 in
    record {
      id_range = ltb-true _ _ b.0;
      k_range = leb-true _ _ b.1;
      bound_range = leb-true _ _ c.1;
      ahead = omega arith;
    }
listed_range s at (ListedForm.short p q) e =
    let b = and_both _ _ e in
    record {
      id_range = ltb-true _ _ b.0;
      k_range = leb-true _ _ b.1;
      bound_range = omega arith;
      ahead = omega arith;
    }

-- A listing is read so. (It has as many fields as bytes are left, or fewer.)
pub listing_read : (s : List ℕ) (end most at floor : ℕ) (asks : List Ask) → end ≤ at + most
    → ListingRead s end at floor asks (read_listing most s end at floor asks)
unfolding read_listing
listing_read s end zero at floor asks h = none {at = at} (omega arith)
listing_read s end (suc most) at floor asks h =
    go (leb end at) refl (listed_field s at floor) refl (listed_read s at floor) (λ n f a k. listing_read s end most n f a k)
  where
    go : (b : Bool) → leb end at ≡ b → (f : Reading Listed) → listed_field s at floor ≡ f → ListedRead s at floor f
        → ((next floor : ℕ) (asks : List Ask) → end ≤ next + most → ListingRead s end next floor asks (read_listing most s end next floor asks))
        → ListingRead s end at floor asks (read_listing (suc most) s end at floor asks)
    go true e f w g ih = rw (e, read_listing) (none (leb-true _ _ e))
    go false e (Err r) w g ih = rw (e, read_listing, w) (stop (leb-false _ _ e) g)
    go false e (Ok l) w (ListedRead.value p q k) ih =
        rw (e, read_listing, w) (more (leb-false _ _ e) p q k (ih _ _ _ (omega (arith, (listed_range s at p q).ahead))))

-- Reading a listing gives what its steps say.
pub listing_is : (s : List ℕ) (end most : ℕ) {at floor : ℕ} {asks : List Ask} {x : Reading (List Ask)} → ListingRead s end at floor asks x → end ≤ at + most
    → read_listing most s end at floor asks ≡ x
unfolding read_listing
listing_is s end zero (none h) l = refl
listing_is s end zero (more h f e k d) l = absurd (omega arith)
listing_is s end zero (stop h f) l = absurd (omega arith)
listing_is s end (suc most) (none {at = at} h) l = rw (le-leb end at h, read_listing)
listing_is s end (suc most) (more {at = at} {floor = floor} h f e k d) l =
    let rest = listing_is s end most d (omega (arith, (listed_range s at f e).ahead)) in
    rw (lt-leb end at h, read_listing) (rw (listed_is s at floor _ (ListedRead.value f e k)) rest)
listing_is s end (suc most) (stop {at = at} {floor = floor} h f) l = rw (lt-leb end at h, read_listing) (rw (listed_is s at floor _ f))

-- Reading a request gives what its steps say.
pub request_is : (s : List ℕ) (x : ReadRequest) → RequestRead s x → read_request s ≡ x
unfolding read_request with_listing
request_is s x (no_slot a) = rw (number_is s 0 1 8 LAST_SLOT _ a, read_request)
request_is s x (no_limit a b) = rw (number_is s 0 1 8 LAST_SLOT _ a, read_request, number_is s 11 2 1 LONGEST _ b)
request_is s x (no_listing a b c) =
    rw (number_is s 0 1 8 LAST_SLOT _ a, read_request, number_is s 11 2 1 LONGEST _ b, listing_is s (length s) (length s) c (omega arith))
request_is s x (whole a b c) =
    rw (number_is s 0 1 8 LAST_SLOT _ a, read_request, number_is s 11 2 1 LONGEST _ b, listing_is s (length s) (length s) c (omega arith))

-- What holds of a reading of the bytes holds of what reading gives, and of every other.
pub as_read : (P : ReadRequest → Type 0) (s : List ℕ) (x : ReadRequest) → RequestRead s x → P x → P (read_request s)
as_read P s x e = subst P (sym (request_is s x e))

pub read_alike : (P : ReadRequest → Type 0) (s : List ℕ) (x y : ReadRequest) → RequestRead s x → RequestRead s y → P x → P y
read_alike P s x y d e p = subst P (request_is s y e) (as_read P s x d p)

-- A request that was read is what it asks.
pub read_requested : (x : ReadRequest) → IsOk x → x ≡ Ok (requested x)
unfolding requested
read_requested (Ok q) e = refl
read_requested (Err r) e = absurd (false≢true e)

-- What a request asks that was read.
pub requested_read : {x : ReadRequest} {q : Request} → x ≡ Ok q → requested x ≡ q
unfolding requested
requested_read e = ap requested e

-- A request is read so.
pub request_read : (s : List ℕ) → RequestRead s (read_request s)
request_read s = let r = from_slot (slot_field s 0) (number_read s 0 1 8 LAST_SLOT) in subst (RequestRead s) (sym (request_is s _ r.1)) r.1
  where
    from_listing : (slot limit : ℕ) (d : Reading (List Ask)) → SlotRead s 0 (Ok slot) → LimitRead s 11 (Ok limit)
        → ListingRead s (length s) 15 0 no_asks d → (x : ReadRequest) × RequestRead s x
    from_listing slot limit (Ok asks) a b c = (_, whole a b c)
    from_listing slot limit (Err r) a b c = (_, no_listing a b c)

    from_limit : (slot : ℕ) (f : Reading ℕ) → SlotRead s 0 (Ok slot) → LimitRead s 11 f → (x : ReadRequest) × RequestRead s x
    from_limit slot (Err r) a b = (_, no_limit a b)
    from_limit slot (Ok limit) a b =
        from_listing slot limit (read_listing (length s) s (length s) 15 0 no_asks) a b
        (listing_read s (length s) (length s) 15 0 no_asks (omega arith))

    from_slot : (f : Reading ℕ) → SlotRead s 0 f → (x : ReadRequest) × RequestRead s x
    from_slot (Err r) a = (_, no_slot a)
    from_slot (Ok slot) a = from_limit slot (limit_field s 11) a (number_read s 11 2 1 LONGEST)
