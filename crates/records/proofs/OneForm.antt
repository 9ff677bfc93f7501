-- A request that is read whole is written in one way: each field read is the field written, and the next follows at once. Assumes nothing.
use borrow.Author.Tests.{eq-eqb, lt-ltb, ltb-true, ne_eqb}
use lib.Dec.{eqb, leb, ltb}
use lib.ListN.{drop, drop_of_length-le, length, length-set, set}
use lib.Pow.{pow-lt, pow_pos}
use lib.Seq.{get_or-set_same, get_or-set_other}
use mathlib.Core.Bool.{Bool, true, cond}
use mathlib.Core.List.{List, [], ◌++◌, append_assoc, append-nil}
use mathlib.Core.Option.{some}
use mathlib.Core.Path.{◌≡◌, refl, sym, ap, ◌∙◌}
use native.Mathlib.Omega.{arith}
use Prim.Native.Nat.{ℕ, suc, ◌+◌, ◌^◌, ◌≤◌, ◌<◌}
use Rattle.std.specs.Prelude.{Ok}
use Rattle.std.specs.Result.{IfOk}
use Rattle.std.proofs.lemmas.Result.{IfOk-at_ok, IfOk-weaker}
use Rattle.records.specs.declared.Request.{Request}
use Rattle.records.proofs.FieldBytes.{bytes_at, field_cut, number_cut}
use Rattle.records.proofs.FieldLaws.{ListedForm}
use Rattle.records.proofs.ReadLaws.{no_ask_lem}
use Rattle.records.proofs.ReadSteps.{ListingRead, RequestRead, listed_range, request_read}
use Rattle.records.proofs.RisingLaws.{EmptyFrom, empty_above, rising_above}
use Rattle.records.specs.Answer.{field, rising}
use Rattle.records.specs.declared.Ask.{Ask}
pub use Rattle.records.specs.Reads.{Bytes}
use Rattle.records.specs.Request.{ask_of, content_at, is_asked, is_listing, no_ask, no_asks, read_request, ReadRequest, Reading}
use Rattle.records.specs.Written.{exponent_of, listed_bytes, listing_bytes, number_bytes, request_record}
use Rattle.slots.proofs.Below.{and_both, some_first}
use Rattle.slots.specs.Below.{first}
use Rattle.slots.specs.Limits.{IDS, LARGEST_BOUND, LARGEST_K}
use Rattle.timetable.specs.Sound.{is_bound}

-- The k of a period 2^k is k.
pub exponent_power : (k : ℕ) → k ≤ LARGEST_K → exponent_of (2 ^ k) ≡ k
unfolding exponent_of
exponent_power k h = rw (least, exponent_of)
  where
    least : first (suc LARGEST_K) (λ j. eqb (2 ^ k) (2 ^ j)) ≡ some k
    least =
        some_first (λ j. eqb (2 ^ k) (2 ^ j)) (suc LARGEST_K) k (omega arith) (eq-eqb (2 ^ k) (2 ^ k) refl)
        (λ m l. ne_eqb (2 ^ k) (2 ^ m) (λ e. omega (arith, pow-lt l)))

-- A tag 3 field that is read is the field that is written of what it lists.
listed_cut : (s : List ℕ) (at : ℕ) {next bound : ℕ} {range : Bool} → ListedForm s at next bound range → range ≡ true
    → drop at s ≡ listed_bytes (content_at s at 0) (record { period = 2 ^ content_at s at 1; bound = bound }) ++ drop next s
unfolding listed_bytes bytes_at content_at is_bound
listed_cut s at (ListedForm.long p) e =
    let r = and_both (is_listing s at) (is_bound (content_at s at 2)) e in
    let b = ltb-true 0 (content_at s at 2) (and_both (ltb 0 (content_at s at 2)) (leb (content_at s at 2) LARGEST_BOUND) r.1).0 in
    let k = exponent_power (content_at s at 1) (listed_range s at (ListedForm.long p) e).k_range in
    let n : at + 3 + 3 ≡ at + 6 = omega arith in
    rw (ne_eqb (content_at s at 2) 0 (λ z. omega arith), k, ← n) (field_cut s at 3 3 (omega arith) p)
listed_cut s at (ListedForm.short p q) e =
    let k = exponent_power (content_at s at 1) (listed_range s at (ListedForm.short p q) e).k_range in
    let n : at + 3 + 2 ≡ at + 5 = omega arith in
    rw (k, ← n) (field_cut s at 3 2 (omega arith) q)

-- From this id on nothing is listed.
abbrev pub Fresh : ℕ → List Ask → Type 0
Fresh floor asks = EmptyFrom no_ask floor asks

-- What is written of id i.
abbrev pub asked_bytes : List Ask → ℕ → List ℕ
asked_bytes asks i = cond (is_asked (ask_of asks i)) (listed_bytes i (ask_of asks i)) []

module _ (asks : List Ask) (id : ℕ) (a : Ask) where
  -- One more listed id, above all that were, is written behind them.
  pub listing_above : id < length asks → is_asked a ≡ true → Fresh id asks → (n : ℕ) → id < n
      → listing_bytes (set asks id a) n ≡ listing_bytes asks n ++ listed_bytes id a
  listing_above h e f n l =
      rising_above (asked_bytes asks) (asked_bytes (set asks id a)) id
      (λ i k. rw (get_or-set_other asks id i a no_ask k))
      (λ i k. rw (f i k))
      n l
      ∙ ap (λ (z : List ℕ). listing_bytes asks n ++ z) (rw (get_or-set_same asks id a no_ask h, e))

  -- Above it nothing is listed.
  pub fresh_above : Fresh id asks → Fresh (suc id) (set asks id a)
  fresh_above = empty_above no_ask asks id a

-- A listing that is read is written behind what was listed before.
listing_form : (s : List ℕ) {at floor : ℕ} {asks : List Ask} {x : Reading (List Ask)} → ListingRead s (length s) at floor asks x
    → length asks ≡ IDS → Fresh floor asks → IfOk x (λ all. listing_bytes all IDS ≡ listing_bytes asks IDS ++ drop at s)
listing_form s (ListingRead.none {asks = asks} h) c f = rw (drop_of_length-le s h) (sym (append-nil (listing_bytes asks IDS)))
listing_form s (ListingRead.stop h r) c f = tt
listing_form s (ListingRead.more {at = at} {next = next} {bound = bound} {asks = asks} {x = x} h t r k d) c f =
    let id = content_at s at 0 in
    let a : Ask = record { period = 2 ^ content_at s at 1; bound = bound } in
    let l = listed_range s at t r in
    let g : Fresh id asks = λ i j. f i (omega arith) in
    IfOk-weaker x _ _
    (λ all e. e
    ∙ ap (λ (z : List ℕ). z ++ drop next s)
    (listing_above asks id a (omega (arith, l.id_range)) (lt-ltb _ _ (pow_pos (content_at s at 1))) g IDS l.id_range)
    ∙ append_assoc (listing_bytes asks IDS) (listed_bytes id a) (drop next s)
    ∙ ap (λ (z : List ℕ). listing_bytes asks IDS ++ z) (sym (listed_cut s at t r)))
    (listing_form s d (length-set asks id a ∙ c) (fresh_above asks id a g))

-- Where nothing is listed nothing is written.
pub nothing_listed : listing_bytes no_asks IDS ≡ []
unfolding rising
nothing_listed = refl

-- A record that is read is the one form of what it says, and nothing follows.
pub one_form : (s : List ℕ) (q : Request) → Bytes s → read_request s ≡ Ok q → s ≡ request_record q
unfolding request_record
one_form s q bytes e = IfOk-at_ok (λ (x : Request). s ≡ request_record x) e (at (read_request s) (request_read s))
  where
    at : (x : ReadRequest) → RequestRead s x → IfOk x (λ (y : Request). s ≡ request_record y)
    at x (RequestRead.no_slot a) = tt
    at x (RequestRead.no_limit a b) = tt
    at x (RequestRead.no_listing a b c) = tt
    at x (RequestRead.whole {slot = n} {limit = t} a b c) =
        let slot = field 1 (number_bytes n 8) in
        let limit = field 2 (number_bytes t 1) in
        let rest = sym (listing_form s c refl (λ i h. no_ask_lem i) ∙ ap (λ (z : List ℕ). z ++ drop 15 s) nothing_listed) in
        number_cut s bytes 0 1 8 _ (omega arith) a ∙ ap (λ (z : List ℕ). slot ++ z) (number_cut s bytes 11 2 1 _ (omega arith) b)
        ∙ sym (append_assoc slot limit (drop 15 s)) ∙ ap (λ (z : List ℕ). slot ++ limit ++ z) rest
