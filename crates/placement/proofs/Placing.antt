-- Placing the demands one by one gives rule 4's placement. Beside places whose periods divide a period, an offset of it is free with all its slots
-- exactly if its own slot is, so the table of taken slots tells the largest free offset. Assumes nothing.
use lib.Dec.{eqb}
use lib.ListN.{drop, get_or, get_or-replicate, length, length-replicate, length-set, replicate, set, take}
use lib.Seq.{drop-cons, get_or-set_other, get_or-set_same}
use mathlib.Core.Bool.{Bool, true, false, cond, not, ◌||◌}
use mathlib.Core.List.{List, [], ◌∷◌, map}
use mathlib.Core.Logic.{inl, inr}
use mathlib.Core.Option.{Option, none, some}
use mathlib.Core.Path.{◌≡◌, refl, sym, ap, ap₂, ◌∙◌, subst}
use native.Mathlib.Decide.{ℕ_discrete}
use native.Mathlib.Nat.{add-mul-mod_self_right, le-div_iff_mul-le, mod-mod_of_dvd}
use native.Mathlib.Numerals.{add-one}
use native.Mathlib.Omega.{arith}
use Prim.Native.Nat.{ℕ, zero, suc, ◌+◌, ◌*◌, ◌/◌, ◌%◌, ◌≤◌, ◌<◌, ◌∣◌}
use Rattle.placement.proofs.Exchange.{place_at}
use Rattle.placement.proofs.Free.{In, Divide}
use Rattle.placement.proofs.Ordered.{InOrder, in_order_fair, ordered_in_order}
use Rattle.placement.proofs.Settle.{length_settle}
use Rattle.placement.proofs.Sorting.{listed_fair}
use Rattle.placement.proofs.Table.{clear_below}
use Rattle.std.specs.Prelude.{Option as Answer, Some, None}
use Rattle.placement.specs.Placed.{answer_of, demand_at, demands_of, offsets_of, placed_of, InOrderOfSome, Ranked, Says, last_clear, Finds, TakenToo}
use Rattle.placement.specs.Placement.{Demand, Place, is_taken, all_free, last_free, place_from, placement, settle}
use Rattle.slots.proofs.Below.{every_all, every_not}
use Rattle.slots.specs.Limits.{IDS, WHOLE}
use Rattle.timetable.proofs.Ranges.{Period, period_dvd, period_is, period_le, period_pos}
use Rattle.timetable.specs.declared.Entry.{Entry}
use Rattle.timetable.specs.Marks.{Marks}
use Rattle.timetable.specs.Sound.{is_period}
use Rattle.timetable.specs.Timetable.{entry_of, no_entry, with_offset}

-- ---- one slot tells

-- A slot and one whole periods on are taken alike.
taken_class : (ps : List Place) (p : ℕ) → Divide ps p → (o m : ℕ) → is_taken ps (o + m * p) ≡ is_taken ps o
unfolding is_taken
taken_class [] p d o m = refl
taken_class (q ∷ ps) p d o m =
    let k = d q (inl refl) in
    let e : (o + m * p) % q.period ≡ o % q.period =
    sym (mod-mod_of_dvd q.period (o + m * p) k) ∙ ap (λ (x : ℕ). x % q.period) (add-mul-mod_self_right o m p) ∙ mod-mod_of_dvd q.period o k in
    ap₂ ◌||◌ (ap (λ (x : ℕ). eqb x q.offset) e) (taken_class ps p (λ r i. d r (inr i)) o m)

-- An answer of the definition as the code's.
abbrev as_free : Option ℕ → Answer ℕ
as_free none = None
as_free (some o) = Some o

as_none : (f : Option ℕ) → as_free f ≡ None → f ≡ none
as_none none e = refl
as_none (some o) e = absurd (let z : ◌≡◌ {A = ℕ} 0 1 = cc in omega arith)

as_some : (f : Option ℕ) (o : ℕ) → as_free f ≡ Some o → f ≡ some o
as_some none o e = absurd (let z : ◌≡◌ {A = ℕ} 0 1 = cc in omega arith)
as_some (some i) o e = cc

module _ (ps : List Place) (p : ℕ) (period : Period p) (divide : Divide ps p) where
  -- The slots of an offset are all free exactly if its own slot is.
  all_free_slot : (o : ℕ) → all_free ps p o ≡ not (is_taken ps o)
  unfolding all_free
  all_free_slot o = at (is_taken ps o) refl
    where
      pos : 0 < WHOLE / p
      pos = (le-div_iff_mul-le {k = p} {x = 1} {y = WHOLE} (period_pos p period)).1 (omega (arith, period_le p period))

      same : (b : Bool) → is_taken ps o ≡ b → (m : ℕ) → not (is_taken ps (o + m * p)) ≡ not b
      same b e m = ap not (taken_class ps p divide o m ∙ e)

      at : (b : Bool) → is_taken ps o ≡ b → all_free ps p o ≡ not b
      at false e = every_all _ (WHOLE / p) (λ m k. same false e m)
      at true e = every_not _ (WHOLE / p) 0 pos (same true e 0)

  -- So the largest free offset is the largest whose own slot is free.
  clear_free : (n : ℕ) → last_clear ps (suc n) ≡ as_free (last_free ps p n)
  unfolding last_clear last_free
  clear_free zero = rw (last_clear, all_free_slot zero) (at (is_taken ps zero))
    where
      at : (b : Bool) → elim b [ true ↦ None | false ↦ Some zero ] ≡ as_free (cond (not b) (some zero) none)
      at true = refl
      at false = refl
  clear_free (suc n) = rw (last_clear, last_free, all_free_slot (suc n)) (at (is_taken ps (suc n)) (clear_free n))
    where
      at : (b : Bool) → last_clear ps (suc n) ≡ as_free (last_free ps p n)
          → elim b [ true ↦ last_clear ps (suc n) | false ↦ Some (suc n) ] ≡ as_free (elim (not b) [ true ↦ some (suc n) | false ↦ last_free ps p n ])
      at true e = e
      at false e = refl

-- ---- the demands, one by one

-- So far some places are taken and have their offsets, and the rest of the demands, in order, go on from there.
pub record Reached (all rest : List Demand) (taken : Marks) (offsets : List ℕ) : Type 0 where
  pub places : List Place
  pub says : Says taken places
  pub settled : offsets ≡ offsets_of places
  pub onward : place_from [] all ≡ place_from places rest
  pub order : InOrder rest
  pub divide : (q : Place) (d : Demand) → In q places → In d rest → q.period ∣ d.period

-- At the start no slot is taken.
pub reached_none : (ranks : List ℕ) (count : ℕ) → InOrderOfSome ranks count → (taken : Marks) → Says taken []
    → Reached (demands_of ranks count) (drop 0 (demands_of ranks count)) taken (replicate IDS 0)
unfolding offsets_of
reached_none ranks count k taken s = record {
  places = [];
  says = s;
  settled = refl;
  onward = refl;
  order = rw k.ranked.demands (ordered_in_order k.entries IDS (listed_fair k.entries k.ranged));
  divide = λ q d m. absurd m;
}

-- The next of the demands.
drop_map : (i : ℕ) (ss : List ℕ) → drop i (map demand_at ss) ≡ map demand_at (drop i ss)
drop_map zero ss = refl
drop_map (suc i) [] = refl
drop_map (suc i) (s ∷ ss) = drop_map i ss

next_demand : (ranks : List ℕ) (count i : ℕ) → i < length (take count ranks)
    → drop i (demands_of ranks count) ≡ demand_at (get_or (take count ranks) i 0) ∷ drop (i + 1) (demands_of ranks count)
next_demand ranks count i size =
    rw (add-one i, drop_map i (take count ranks), drop_map (suc i) (take count ranks), drop-cons (take count ranks) i 0 size)

drop_past : (i : ℕ) (ss : List ℕ) → length ss ≤ i → drop i ss ≡ []
drop_past zero [] l = refl
drop_past zero (s ∷ ss) l = absurd (omega arith)
drop_past (suc i) [] l = refl
drop_past (suc i) (s ∷ ss) l = drop_past i ss (omega arith)

-- There is none after the last.
no_demand : (ranks : List ℕ) (count i : ℕ) → length (take count ranks) ≤ i → drop i (demands_of ranks count) ≡ []
no_demand ranks count i size = drop_map i (take count ranks) ∙ ap (map demand_at) (drop_past i (take count ranks) size)

-- A demand with no free offset ends it, and one with a free offset takes the largest.
module _ (ps : List Place) (d : Demand) (rest : List Demand) where
  place_stuck : last_free ps d.period d.last ≡ none → place_from ps (d ∷ rest) ≡ none
  unfolding place_from
  place_stuck e = rw (place_from, e)

  place_next : (o : ℕ) → last_free ps d.period d.last ≡ some o → place_from ps (d ∷ rest) ≡ place_from (place_at d o ∷ ps) rest
  unfolding place_from
  place_next o e = rw (place_from, e)

module _ (all : List Demand) (d : Demand) (rest : List Demand) (taken : Marks) (offsets : List ℕ) (r : Reached all (d ∷ rest) taken offsets) where
  -- Its last offset is below its period, which is in range.
  pub reached_fair : (is_period d.period ≡ true) × (d.last < d.period)
  reached_fair = (period_is d.period r.order.0.0, r.order.0.1)

  module _ (l : ℕ) (last : l ≡ d.last) (f : Answer ℕ) (found : Finds taken l f) where
    -- What the search up to its last offset finds is what rule 4 takes.
    searched : f ≡ as_free (last_free r.places d.period d.last)
    searched =
        found r.places r.says ∙ ap (last_clear r.places) (add-one l ∙ ap (λ (x : ℕ). suc x) last)
        ∙ clear_free r.places d.period r.order.0.0 (λ q m. r.divide q d m (inl refl)) d.last

    -- Without an offset for it there is no placement.
    pub reached_stuck : f ≡ None → placed_of all ≡ None
    unfolding answer_of
    reached_stuck e = ap answer_of (r.onward ∙ place_stuck r.places d rest (as_none _ (sym searched ∙ e)))

    module _ (o : ℕ) (e : f ≡ Some o) where
      -- An offset for it is below 256,
      pub reached_offset : o < WHOLE
      reached_offset = omega (arith, clear_below r.places (l + 1) o (sym (found r.places r.says) ∙ e), reached_fair, period_le d.period r.order.0.0)

      -- and with it taken the rest of the demands follow.
      pub reached_more : (p i : ℕ) (after : Marks) → p ≡ d.period → i ≡ d.id → TakenToo taken p o after → Reached all rest after (set offsets i o)
      unfolding offsets_of
      reached_more p i after period id marked = record {
        places = place_at d o ∷ r.places;
        says = rw period at (marked r.places r.says d.id);
        settled = rw (r.settled, id);
        onward = r.onward ∙ place_next r.places d rest o (as_some _ o (sym searched ∙ e));
        order = r.order.2;
        divide = divide;
      }
        where
          divide : (q : Place) (g : Demand) → In q (place_at d o ∷ r.places) → In g rest → q.period ∣ g.period
          divide q g (inl z) m =
              subst (λ (x : Place). x.period ∣ g.period) (sym z)
              (period_dvd d.period g.period r.order.0.0 (in_order_fair rest r.order.2 g m).0 (r.order.1 g m).1)
          divide q g (inr n) m = r.divide q g n (inr m)

-- Once every demand has its place, the offsets are those of the places.
pub reached_all : (all : List Demand) (taken : Marks) (offsets : List ℕ) → Reached all [] taken offsets → placed_of all ≡ Some offsets
unfolding place_from answer_of
reached_all all taken offsets r = rw r.settled (ap answer_of r.onward)

-- ---- the turns

-- After i turns the first i of the ranks' demands have their places.
abbrev pub Turn : List ℕ → ℕ → Marks → List ℕ → ℕ → Type 0
Turn ranks count taken offsets i = Reached (demands_of ranks count) (drop i (demands_of ranks count)) taken offsets

-- The demand of rank i is the next.
abbrev pub Next : List ℕ → ℕ → Marks → List ℕ → ℕ → Type 0
Next ranks count taken offsets i =
    Reached (demands_of ranks count) (demand_at (get_or (take count ranks) i 0) ∷ drop (i + 1) (demands_of ranks count)) taken offsets

module _ (ranks : List ℕ) (count : ℕ) (taken : Marks) (offsets : List ℕ) (i : ℕ) (t : Turn ranks count taken offsets i) where
  -- The next turn places the demand of rank i,
  pub turn_next : i < length (take count ranks) → Next ranks count taken offsets i
  turn_next l = subst (λ (ds : List Demand). Reached (demands_of ranks count) ds taken offsets) (next_demand ranks count i l) t

  -- and the last one was the last demand's.
  pub turn_last : length (take count ranks) ≤ i → Reached (demands_of ranks count) [] taken offsets
  turn_last l = subst (λ (ds : List Demand). Reached (demands_of ranks count) ds taken offsets) (no_demand ranks count i l) t

-- ---- the entries placed

length_offsets : (ps : List Place) → length (offsets_of ps) ≡ IDS
unfolding offsets_of
length_offsets [] = length-replicate {A = ℕ} IDS 0
length_offsets (p ∷ ps) = length-set (offsets_of ps) p.id p.offset ∙ length_offsets ps

-- An entry that is not placed yet, settled, has its offset among those of the places.
pub settle_offsets : (es : List Entry) → length es ≡ IDS → ((i : ℕ) → i < IDS → (entry_of es i).offset ≡ 0) → (ps : List Place) → (i : ℕ) → i < IDS
    → entry_of (settle es ps) i ≡ with_offset (get_or (offsets_of ps) i 0) (entry_of es i)
unfolding settle offsets_of
settle_offsets es size unplaced [] i k =
    ap (λ (o : ℕ). with_offset o (entry_of es i)) (unplaced i k ∙ sym (get_or-replicate {A = ℕ} IDS i 0 0 k))
settle_offsets es size unplaced (p ∷ ps) i k = at (settle_offsets es size unplaced ps i k) (ℕ_discrete i p.id)
  where
    at : entry_of (settle es ps) i ≡ with_offset (get_or (offsets_of ps) i 0) (entry_of es i) → Dec (i ≡ p.id)
        → entry_of (settle es (p ∷ ps)) i ≡ with_offset (get_or (offsets_of (p ∷ ps)) i 0) (entry_of es i)
    at ih (yes e) =
        rw (
          ← e,
          get_or-set_same (offsets_of ps) i p.offset 0 (omega (arith, length_offsets ps)),
          get_or-set_same (settle es ps) i (with_offset p.offset (entry_of es i)) no_entry (omega (arith, length_settle es ps, size)),
        )
        refl
    at ih (no e) =
        rw (
          get_or-set_other (offsets_of ps) p.id i p.offset 0 e,
          get_or-set_other (settle es ps) p.id i (with_offset p.offset (entry_of es p.id)) no_entry e,
        )
        ih

-- What an answer says of the placement of the entries: there is none, or it is this one.
module _ (es : List Entry) (ranks : List ℕ) (count : ℕ) (k : Ranked es ranks count) (a : Answer (List ℕ)) (e : a ≡ placed_of (demands_of ranks count)) where
  -- The demands' placement is the entries'.
  whole : placement es ≡ place_from [] (demands_of ranks count)
  unfolding placement
  whole = ap (place_from []) (sym k.demands)

  -- So the answer is the entries'.
  same : a ≡ answer_of (placement es)
  same = e ∙ ap answer_of (sym whole)

  pub placed_none : a ≡ None → placement es ≡ none
  unfolding answer_of
  placed_none h = at (placement es) (sym h ∙ same)
    where
      at : (f : Option (List Place)) → None ≡ answer_of f → f ≡ none
      at none z = refl
      at (some ps) z = absurd (let y : ◌≡◌ {A = ℕ} 0 1 = cc in omega arith)

  pub placed_some : (offsets : List ℕ) → a ≡ Some offsets → (ps : List Place) × (placement es ≡ some ps) × (offsets ≡ offsets_of ps)
  unfolding answer_of
  placed_some offsets h = at (placement es) refl (sym h ∙ same)
    where
      at : (f : Option (List Place)) → placement es ≡ f → Some offsets ≡ answer_of f
          → (ps : List Place) × (placement es ≡ some ps) × (offsets ≡ offsets_of ps)
      at none z y = absurd (let x : ◌≡◌ {A = ℕ} 0 1 = cc in omega arith)
      at (some ps) z y = (ps, z, cc)
