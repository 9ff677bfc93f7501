-- What is read is in range, and what is refused has a number from 3 to 5 and a place in the record: every field says so. Assumes nothing.
use lib.ListN.{length, length-set, set}
use lib.Seq.{get_or-set_same, get_or-set_other}
use mathlib.Core.List.{List}
use mathlib.Core.Logic.{inl, inr}
use mathlib.Core.Path.{◌≡◌, refl, ap, ◌∙◌}
use native.Mathlib.Decide.{ℕ_discrete}
use native.Mathlib.Omega.{arith}
use Prim.Native.Nat.{ℕ, ◌≤◌, ◌<◌}
use Rattle.std.specs.Result.{IfErr, IfOk, IsOk}
use Rattle.std.proofs.lemmas.Result.{IfErr-at_err, IfOk-at_ok}
use Rattle.records.specs.declared.Request.{Request}
use Rattle.std.specs.Prelude.{Ok, Err}
use Rattle.records.proofs.FieldLaws.{NumberRead, ListedRead}
use Rattle.records.proofs.RisingLaws.{all_empty}
use Rattle.records.proofs.ReadSteps.{ListingRead, RequestRead, listed_range, number_range, read_requested, request_read}
use Rattle.records.specs.declared.Ask.{Ask}
use Rattle.numbers.specs.declared.Refusal.{Refusal}
pub use Rattle.records.specs.Reads.{AskRange, AsksRange, RequestRange, RefusalRange}
use Rattle.records.specs.Request.{ask_of, content_at, no_ask, no_asks, read_request, requested, ReadRequest, Reading}
use Rattle.slots.specs.Limits.{IDS}

-- Where nothing is asked, every id is not listed.
pub no_ask_lem : (i : ℕ) → ask_of no_asks i ≡ no_ask
no_ask_lem = all_empty no_ask IDS

-- A listing that asks for nothing is in range.
no_asks_range : AsksRange no_asks
no_asks_range = record { count = refl; each = λ i h. inl (ap (λ (a : Ask). a.period) (no_ask_lem i), ap (λ (a : Ask). a.bound) (no_ask_lem i)) }

-- One more id listed in range.
set_range : (asks : List Ask) (id : ℕ) (a : Ask) → id < IDS → AskRange a → AsksRange asks → AsksRange (set asks id a)
set_range asks id a h r all = record { count = length-set asks id a ∙ all.count; each = λ i k. at i k (ℕ_discrete i id) }
  where
    at : (i : ℕ) → i < IDS → Dec (i ≡ id) → AskRange (ask_of (set asks id a) i)
    at i k (yes e) = rw (e, get_or-set_same asks id a no_ask (omega (arith, all.count))) r
    at i k (no e) = rw (get_or-set_other asks id i a no_ask e) (all.each i k)

module _ (s : List ℕ) where
  -- A listing keeps its asks in range from field to field.
  listing_range : {end at floor : ℕ} {asks : List Ask} {x : Reading (List Ask)} → ListingRead s end at floor asks x → AsksRange asks → IfOk x AsksRange
  listing_range (ListingRead.none h) r = r
  listing_range (ListingRead.stop h f) r = tt
  listing_range (ListingRead.more {at = at} {asks = asks} h f e k d) r =
      let l = listed_range s at f e in
      listing_range d (set_range asks (content_at s at 0) _ l.id_range
      (inr (record { k = content_at s at 1; small = l.k_range; power = refl }, l.bound_range)) r)

  -- A refused tag 3 field.
  listed_refused_range : (at floor : ℕ) {r : Refusal} → at ≤ length s → ListedRead s at floor (Err r) → RefusalRange s r
  listed_refused_range at floor h (ListedRead.wrong p q) = omega arith
  listed_refused_range at floor h (ListedRead.high f e) = omega arith
  listed_refused_range at floor h (ListedRead.low f e k) = omega arith

  -- A refused field that holds a number.
  number_refused_range : (at tag size most : ℕ) {r : Refusal} → at ≤ length s → NumberRead s at tag size most (Err r) → RefusalRange s r
  number_refused_range at tag size most h (NumberRead.wrong p) = omega arith
  number_refused_range at tag size most h (NumberRead.high p q) = omega arith

  -- A refused listing.
  listing_refused_range : {end at floor : ℕ} {asks : List Ask} {x : Reading (List Ask)} → end ≤ length s → ListingRead s end at floor asks x
      → IfErr x (RefusalRange s)
  listing_refused_range i (ListingRead.none h) = tt
  listing_refused_range i (ListingRead.stop {at = at} {floor = floor} h f) = listed_refused_range at floor (omega arith) f
  listing_refused_range i (ListingRead.more h f e k d) = listing_refused_range i d

  -- A request that is read is in range.
  in_range : (x : ReadRequest) → RequestRead s x → IfOk x RequestRange
  in_range x (RequestRead.no_slot a) = tt
  in_range x (RequestRead.no_limit a b) = tt
  in_range x (RequestRead.no_listing a b c) = tt
  in_range x (RequestRead.whole a b c) =
      record { slot = (number_range s 0 1 8 _ a).0; limit = (number_range s 11 2 1 _ b).0; asks = listing_range c no_asks_range }

  -- One that is refused is refused with 3, 4 or 5, at a place in the record or at its end.
  in_refusal_range : (x : ReadRequest) → RequestRead s x → IfErr x (RefusalRange s)
  in_refusal_range x (RequestRead.no_slot a) = number_refused_range 0 1 8 _ (omega arith) a
  in_refusal_range x (RequestRead.no_limit a b) = number_refused_range 11 2 1 _ (number_range s 0 1 8 _ a).1 b
  in_refusal_range x (RequestRead.no_listing a b c) = listing_refused_range (omega arith) c
  in_refusal_range x (RequestRead.whole a b c) = tt

-- A request that is read is in range.
pub read_in_range : (s : List ℕ) (q : Request) → read_request s ≡ Ok q → RequestRange q
read_in_range s q e = IfOk-at_ok RequestRange e (in_range s (read_request s) (request_read s))

-- So is what it asks.
pub requested_in_range : (s : List ℕ) → IsOk (read_request s) → RequestRange (requested (read_request s))
requested_in_range s e = read_in_range s (requested (read_request s)) (read_requested (read_request s) e)

-- A request that is refused is refused with 3, 4 or 5, at a place in the record or at its end.
pub refused_in_range : (s : List ℕ) (r : Refusal) → read_request s ≡ Err r → RefusalRange s r
refused_in_range s r e = IfErr-at_err (RefusalRange s) e (in_refusal_range s (read_request s) (request_read s))
