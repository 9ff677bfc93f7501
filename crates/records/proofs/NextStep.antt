-- What one step of reading leaves to read: a tag 3 field past its tests, a listing past a field, a request past its first two fields. Assumes nothing.
use lib.ListN.{length, set}
use mathlib.Core.Bool.{Bool, true}
use mathlib.Core.List.{List}
use mathlib.Core.Path.{◌≡◌, refl, sym, ap, ◌∙◌, subst}
use native.Mathlib.Omega.{arith}
use Prim.Native.Nat.{ℕ, suc, ◌≤◌, ◌<◌}
use Rattle.std.specs.Prelude.{Ok, Err}
use Rattle.std.specs.Result.{IfErr}
use Rattle.std.proofs.lemmas.Result.{IfErr-at_err}
use Rattle.records.specs.declared.Listed.{Listed}
use Rattle.records.proofs.FieldLaws.{ListedForm, ListedRead, NumberRead, listed_read, number_read}
use Rattle.records.proofs.ReadSteps.{ListingRead, listed_range, listing_is, listing_read, number_range}
use Rattle.records.specs.declared.Ask.{Ask}
use Rattle.numbers.specs.declared.Refusal.{Refusal}
use Rattle.records.specs.Request.{limit_field, listed_as, listed_field, no_asks, number_field, read_listing, read_request, slot_field, with_listing, Reading}
use Rattle.slots.specs.Clocks.{core_slot}
use Rattle.slots.specs.Limits.{IDS}

-- A number that is read is at most the most.
pub number_most : (s : List ℕ) (at tag size most : ℕ) {n : ℕ} → number_field s at tag size most ≡ Ok n → n ≤ most
number_most s at tag size most e = (number_range s at tag size most (subst (NumberRead s at tag size most) e (number_read s at tag size most))).0

-- There is one refusal of what is refused.
pub one_refusal : {A : Type 0} {f : Reading A} {r x : Refusal} → f ≡ Err r → f ≡ Err x → r ≡ x
one_refusal {r = r} e h = IfErr-at_err (λ y. r ≡ y) h (subst (λ g. IfErr g (λ y. r ≡ y)) (sym e) refl)

-- The listing from a place up to an end, with as many fields allowed as bytes stand before the end.
unfoldable pub listing_at : List ℕ → ℕ → ℕ → ℕ → List Ask → Reading (List Ask)
listing_at s end at floor asks = read_listing end s end at floor asks

-- It is the same for the same floor.
pub listing_floor : (s : List ℕ) (end at n m : ℕ) (asks : List Ask) → n ≡ m → listing_at s end at n asks ≡ listing_at s end at m asks
listing_floor s end at n m asks e = rw e

-- What a field leaves of the listing: the rest with what it lists, or its refusal.
unfoldable pub listing_after : List ℕ → ℕ → List Ask → Reading Listed → Reading (List Ask)
listing_after s end asks (Ok l) = listing_at s end l.next (suc l.id) (set asks l.id l.ask)
listing_after s end asks (Err r) = Err r

-- A field that is read lists an id in range, and ends ahead.
unfoldable pub Ahead : ℕ → Reading Listed → Type 0
Ahead at (Ok l) = (l.id < IDS) × (at < l.next)
Ahead at (Err r) = ℕ

module _ (s : List ℕ) (at floor : ℕ) where
  -- Past its form and its range a field is tested for its id.
  pub listed_tested : {next bound : ℕ} {range : Bool} → ListedForm s at next bound range → range ≡ true
      → listed_field s at floor ≡ listed_as s at floor bound next
  unfolding listed_field
  listed_tested (ListedForm.long p) e = rw (p, e)
  listed_tested (ListedForm.short p q) e = rw (p, q, e)

  -- A field that is read is ahead.
  pub listed_ahead : (f : Reading Listed) → listed_field s at floor ≡ f → Ahead at f
  unfolding Ahead
  listed_ahead f e = subst (Ahead at) e (by (listed_field s at floor) (listed_read s at floor))
    where
      by : (f : Reading Listed) → ListedRead s at floor f → Ahead at f
      by (Err r) g = 0
      by (Ok l) (ListedRead.value p q k) = let r = listed_range s at p q in (r.id_range, r.ahead)

  module _ (end : ℕ) (asks : List Ask) where
    -- At the end the listing is whole.
    pub listing_end : end ≤ at → listing_at s end at floor asks ≡ Ok asks
    unfolding listing_at
    listing_end h = listing_is s end end (ListingRead.none {at = at} {floor = floor} h) (omega arith)

    -- Before it a field is read, and the listing is what the field leaves.
    pub listing_step : at < end → (f : Reading Listed) → listed_field s at floor ≡ f → listing_at s end at floor asks ≡ listing_after s end asks f
    unfolding listing_at listing_after
    listing_step h f e = by (listed_field s at floor) (listed_read s at floor) ∙ ap (listing_after s end asks) e
      where
        by : (f : Reading Listed) → ListedRead s at floor f → listing_at s end at floor asks ≡ listing_after s end asks f
        by (Err r) g = listing_is s end end (ListingRead.stop h g) (omega arith)
        by (Ok l) (ListedRead.value p q k) =
            listing_is s end end (ListingRead.more h p q k (listing_read s end end _ _ _ (omega arith))) (omega arith)

module _ (s : List ℕ) where
  -- What stands where the field before ends stands where the definition has it: T's field,
  pub limit_there : (next : ℕ) (f : Reading ℕ) → next ≡ 11 → limit_field s next ≡ f → limit_field s 11 ≡ f
  limit_there next f p e = ap (limit_field s) (sym p) ∙ e

  -- and the listing.
  pub listing_there : (next : ℕ) (x : Reading (List Ask)) → next ≡ 15 → x ≡ read_listing (length s) s (length s) next 0 no_asks
      → x ≡ read_listing (length s) s (length s) 15 0 no_asks
  listing_there next x p e = e ∙ ap (λ (n : ℕ). read_listing (length s) s (length s) n 0 no_asks) p

  -- A request whose first field is refused.
  pub request_no_slot : (r : Refusal) → slot_field s 0 ≡ Err r → read_request s ≡ Err r
  unfolding read_request
  request_no_slot r e = rw (e, read_request)

  module _ (slot : ℕ) (e : slot_field s 0 ≡ Ok slot) where
    -- A request whose second field is refused.
    pub request_no_limit : (r : Refusal) → limit_field s 11 ≡ Err r → read_request s ≡ Err r
    unfolding read_request
    request_no_limit r f = rw (e, read_request, f)

    -- A request whose first two fields are read.
    pub request_listing : (limit : ℕ) → limit_field s 11 ≡ Ok limit
        → read_request s ≡ with_listing (core_slot slot) limit (read_listing (length s) s (length s) 15 0 no_asks)
    unfolding read_request
    request_listing limit f = rw (e, read_request, f)
