-- A request in range is read back from what it is written as: each field stands where the one before ends. Assumes nothing.
use borrow.Author.Tests.{eqb-true, eqb-false, le-leb, lt-ltb, ltb-true, ltb-false}
use lib.Dec.{eqb}
use lib.ListN.{drop, length, length-drop, set}
use mathlib.Core.Bool.{Bool, true, false, cond, ◌&&◌}
use mathlib.Core.List.{List, [], ◌∷◌, ◌++◌, append_assoc}
use mathlib.Core.Logic.{inl, inr}
use mathlib.Core.Path.{◌≡◌, refl, sym, ap, ap₂, ◌∙◌, subst, subst₂}
use native.Mathlib.Omega.{arith}
use Prim.Native.Nat.{ℕ, zero, suc, ◌+◌, ◌^◌, ◌≤◌, ◌<◌}
use Rattle.std.specs.Prelude.{Ok}
use Rattle.records.proofs.FieldLaws.{NumberRead, ListedForm}
use Rattle.records.proofs.FieldStands.{after_stands, content_from, content_stands, field_stands, no_other_length, number_length, number_stands, stands_inside}
use Rattle.records.proofs.OneForm.{asked_bytes, exponent_power}
use Rattle.records.proofs.ReadLaws.{AskRange, AsksRange, RequestRange, no_ask_lem}
use Rattle.records.proofs.ReadSteps.{ListingRead, RequestRead, request_is}
use Rattle.records.proofs.RisingLaws.{FilledTo, filled_all, filled_next, filled_same, rising_split, rising_from}
use Rattle.records.specs.Answer.{field, rising}
use Rattle.records.specs.declared.Ask.{Ask}
use Rattle.records.specs.declared.Request.{Request}
use Rattle.records.specs.Request.{ask_of, content_at, is_asked, is_listing, no_ask, no_asks, read_request}
use Rattle.records.specs.Written.{exponent_of, listed_bytes, listing_bytes, number_bytes, request_record}
use Rattle.slots.specs.Limits.{IDS, LARGEST_BOUND, LARGEST_K}
use Rattle.timetable.proofs.Ranges.{Period, period_pos}
use Rattle.timetable.specs.Sound.{is_bound}

-- A written number is read back, and what follows it stands at the next place.
number_back : (s : List ℕ) (at tag size most n : ℕ) (rest : List ℕ) → n ≤ most → n < 256 ^ size → drop at s ≡ field tag (number_bytes n size) ++ rest
    → NumberRead s at tag size most (Ok n) × (drop (at + 3 + size) s ≡ rest)
number_back s at tag size most n rest h small e =
    let content = number_bytes n size in
    let l = number_length n size in
    let k = number_stands s (at + 3) size n rest small (content_from s at tag content rest e) in (
      subst (λ (x : ℕ). NumberRead s at tag size most (Ok x)) k
          (NumberRead.value (rw l at (field_stands s at tag content rest e)) (omega arith)),
      after_stands s at tag content rest e (at + 3 + size) (omega arith),
    )

-- A written tag 3 field as it is read back: its form, its id, what it asks and what follows it.
record ListedBack (s : List ℕ) (at id : ℕ) (a : Ask) (rest : List ℕ) : Type 0 where
  next : ℕ
  bound : ℕ
  range : Bool
  form : ListedForm s at next bound range
  in_range : range ≡ true
  id_back : content_at s at 0 ≡ id
  ask_back : ◌≡◌ {A = Ask} (record { period = 2 ^ content_at s at 1; bound = bound }) a
  after : drop next s ≡ rest
  ahead : at < length s

-- The id and the period of a written tag 3 field are read back, and they are in range.
listing_back : (s : List ℕ) (at id : ℕ) (a : Ask) (more rest : List ℕ) → id < IDS → (p : Period a.period)
    → drop at s ≡ field 3 (id ∷ exponent_of a.period ∷ more) ++ rest
    → (content_at s at 0 ≡ id) × (2 ^ content_at s at 1 ≡ a.period) × (is_listing s at ≡ true)
unfolding is_listing
listing_back s at id a more rest h p e = (
  i,
  ap (λ (n : ℕ). 2 ^ n) k ∙ sym p.power,
  ap₂ ◌&&◌ (lt-ltb (content_at s at 0) IDS (omega (arith, i))) (le-leb (content_at s at 1) LARGEST_K (omega (arith, k, p.small))),
)
  where
    content : List ℕ
    content = id ∷ exponent_of a.period ∷ more

    i : content_at s at 0 ≡ id
    i = content_stands s at 3 content rest e 0 (omega arith)

    k : content_at s at 1 ≡ p.k
    k = content_stands s at 3 content rest e 1 (omega arith) ∙ ap exponent_of p.power ∙ exponent_power p.k p.small

-- A written tag 3 field is read back, long or short.
listed_back : (s : List ℕ) (at id : ℕ) (a : Ask) (rest : List ℕ) → id < IDS → Period a.period → a.bound ≤ LARGEST_BOUND
    → drop at s ≡ listed_bytes id a ++ rest → ListedBack s at id a rest
unfolding listed_bytes is_bound
listed_back s at id a rest h p b = by (eqb a.bound 0) refl
  where
    by : (t : Bool) → eqb a.bound 0 ≡ t
        → drop at s
        ≡ cond t (field 3 (id ∷ exponent_of a.period ∷ [])) (field 3 (id ∷ exponent_of a.period ∷ a.bound ∷ [])) ++ rest
        → ListedBack s at id a rest
    by true q e =
        let content = id ∷ exponent_of a.period ∷ [] in
        let l = listing_back s at id a [] rest h p e in
        record {
          next = at + 5;
          bound = 0;
          range = is_listing s at;
          form = ListedForm.short (no_other_length s at 3 content rest e 3 3 (omega arith)) (field_stands s at 3 content rest e);
          in_range = l.2;
          id_back = l.0;
          ask_back = ap₂ (λ (x y : ℕ). record { period = x; bound = y }) l.1 (sym (eqb-true a.bound 0 q));
          after = after_stands s at 3 content rest e (at + 5) (omega arith);
          ahead = omega (arith, stands_inside s at 3 content rest e);
        }
    by false q e =
        let content = id ∷ exponent_of a.period ∷ a.bound ∷ [] in
        let l = listing_back s at id a (a.bound ∷ []) rest h p e in
        let r = content_stands s at 3 content rest e 2 (omega arith) in
        let z : ¬ (a.bound ≡ 0) = eqb-false a.bound 0 q in
        record {
          next = at + 6;
          bound = content_at s at 2;
          range = is_listing s at && is_bound (content_at s at 2);
          form = ListedForm.long (field_stands s at 3 content rest e);
          in_range = ap₂ ◌&&◌ l.2 (ap₂ ◌&&◌ (lt-ltb 0 (content_at s at 2) (omega arith)) (le-leb (content_at s at 2) LARGEST_BOUND (omega arith)));
          id_back = l.0;
          ask_back = ap₂ (λ (x y : ℕ). record { period = x; bound = y }) l.1 r;
          after = after_stands s at 3 content rest e (at + 6) (omega arith);
          ahead = omega (arith, stands_inside s at 3 content rest e);
        }

-- An ask in range that does not list its id asks for nothing.
not_asked : (a : Ask) → AskRange a → is_asked a ≡ false → a ≡ no_ask
not_asked a (inl r) e = ap₂ (λ (x y : ℕ). record { period = x; bound = y }) r.0 r.1
not_asked a (inr r) e = absurd (omega (arith, period_pos a.period r.0, ltb-false 0 a.period e))

-- An ask in range that lists its id has a period and a bound in range.
asked : (a : Ask) → AskRange a → is_asked a ≡ true → Period a.period × (a.bound ≤ LARGEST_BOUND)
asked a (inl r) e = absurd (omega (arith, r.0, ltb-true 0 a.period e))
asked a (inr r) e = r

module _ (s : List ℕ) (all : List Ask) (range : AsksRange all) where
  -- A written listing is read back from any id on.
  listing_whole : (n at floor low : ℕ) (asks : List Ask) → floor + n ≡ IDS → low ≤ floor → FilledTo no_ask all floor asks
      → drop at s ≡ rising_from (asked_bytes all) floor n → ListingRead s (length s) at low asks (Ok all)
  unfolding rising_from
  listing_whole zero at floor low asks m l r e =
      let same : asks ≡ all = filled_all no_ask all asks floor r (omega (arith, range.count)) in
      subst (λ (x : List Ask). ListingRead s (length s) at low x (Ok all)) (sym same)
      (ListingRead.none {at = at} (omega (arith, length-drop at s, ap (λ (x : List ℕ). length x) e)))
  listing_whole (suc n) at floor low asks m l r e =
      by (is_asked (ask_of all floor)) refl (λ k j x. listing_whole n k (suc floor) j x (omega arith)) e
    where
      by : (t : Bool) → is_asked (ask_of all floor) ≡ t
          → ((k j : ℕ) (x : List Ask) → j ≤ suc floor → FilledTo no_ask all (suc floor) x → drop k s ≡ rising_from (asked_bytes all) (suc floor) n
          → ListingRead s (length s) k j x (Ok all))
          → drop at s ≡ cond t (listed_bytes floor (ask_of all floor)) [] ++ rising_from (asked_bytes all) (suc floor) n
          → ListingRead s (length s) at low asks (Ok all)
      by false q rest e =
          let none = not_asked (ask_of all floor) (range.each floor (omega arith)) q in
          rest at low asks (omega arith) (filled_same no_ask all asks floor r none) e
      by true q rest e =
          let a = ask_of all floor in
          let p = asked a (range.each floor (omega arith)) q in
          let w = listed_back s at floor a (rising_from (asked_bytes all) (suc floor) n) (omega arith) p.0 p.1 e in
          ListingRead.more {floor = low} w.ahead w.form w.in_range (omega (arith, w.id_back))
          (subst₂ (λ (i : ℕ) (b : Ask). ListingRead s (length s) w.next (suc i) (set asks i b) (Ok all))
          (sym w.id_back)
          (sym w.ask_back)
          (rest w.next (suc floor) (set asks floor a) (omega arith)
          (filled_next no_ask all asks floor r a (omega (arith, r.count, range.count)) refl) w.after))

-- A request in range, as it is written, is read back.
pub round_trip : (r : Request) → RequestRange r → read_request (request_record r) ≡ Ok r
unfolding request_record rising
round_trip r range =
    let s = request_record r in
    let slot = field 1 (number_bytes r.slot.0 8) in
    let limit = field 2 (number_bytes r.limit 1) in
    let listing = listing_bytes r.asks IDS in
    let a = number_back s 0 1 8 _ r.slot.0 (limit ++ listing) range.slot (omega (arith, range.slot)) (append_assoc slot limit listing) in
    let b = number_back s 11 2 1 _ r.limit listing range.limit (omega (arith, range.limit)) a.1 in
    let start : FilledTo no_ask r.asks 0 no_asks =
    record { count = sym range.asks.count; below = λ i h. absurd (omega arith); above = λ i h. no_ask_lem i } in
    request_is s _
    (RequestRead.whole a.0 b.0
    (listing_whole s r.asks range.asks IDS 15 0 0 no_asks refl (omega arith) start (b.1 ∙ rising_split (asked_bytes r.asks) 0 IDS)))
