-- One more transition slot as the code finds it: the most urgent id one id at a time, a missed slot by one id that cannot bear it, and the plan that follows.
-- Assumes nothing.
use borrow.Author.Tests.{lt-ltb, eq-eqb, ne_eqb, eqb-true}
use lib.Dec.{eqb}
use lib.ListN.{length, length-set, set}
use lib.Seq.{ext_get_or, get_or-set_same, get_or-set_other}
use mathlib.Core.Bool.{Bool, true, false, cond, ◌&&◌}
use mathlib.Core.List.{List}
use mathlib.Core.Logic.{◌≢◌, ◌⊎◌, inl, inr}
use mathlib.Core.Option.{Option, none, some}
use mathlib.Core.Path.{◌≡◌, refl, sym, ap, ap₂, ◌∙◌, subst}
use native.Mathlib.Decide.{ℕ_discrete, dec_lt}
use native.Mathlib.Numerals.{add-one}
use native.Mathlib.Omega.{arith}
use Prim.Native.Nat.{ℕ, zero, suc, ◌+◌, ◌*◌, ◌≤◌, ◌<◌}
use Rattle.placement.specs.Any.{Lists}
use Rattle.slots.proofs.Below.{and_both, count_first, count_most, count_rises, decided}
use Rattle.slots.specs.Below.{count}
use Rattle.slots.specs.Limits.{IDS, WHOLE, LARGEST_BOUND}
use Rattle.slots.specs.Shortfall.{over_slot}
use Rattle.std.specs.Prelude.{Option as Answer, Some, None}
use Rattle.timetable.proofs.Entries.{each_at}
use Rattle.timetable.proofs.EntryLaws.{room_below, weight_le}
use Rattle.timetable.proofs.Ranges.{in_range_from, period_is}
use Rattle.timetable.proofs.Sound.{Ranged, ranged_from}
use Rattle.timetable.proofs.SoundLaws.{entry_range}
use Rattle.timetable.specs.declared.Entry.{Entry}
use Rattle.timetable.specs.Sound.{entries_in_range, is_period}
use Rattle.timetable.specs.Timetable.{each, entry_of, is_listed, no_entry, room, weight, with_shortfall}
use Rattle.transition.proofs.BestLaws.{Best, Beside, best_start, best_unlisted, best_less, best_kept}
use Rattle.transition.proofs.Each.{as_many, each_more, next_is}
use Rattle.transition.proofs.Plans.{length_over, over_at_lem}
use Rattle.transition.proofs.UrgentRule.{Told, missed, unmissed}
use Rattle.transition.proofs.ToldLaws.{told}
use Rattle.transition.specs.Coded.{next_of, owner_of}
use Rattle.transition.specs.declared.Plan.{Plan}
use Rattle.transition.specs.RuleThree.{MostUrgent}
use Rattle.transition.specs.Transition.{most_urgent, is_missed, over_entry, over_all, longer}

-- ---- the missed slot

-- A listed id has no room.
abbrev pub is_pressed : List Entry → ℕ → Bool
is_pressed es i = is_listed (entry_of es i) && eqb (room (entry_of es i)) 0

-- So many of the ids below n have none.
abbrev pub pressed_below : List Entry → ℕ → ℕ
pressed_below es n = count n (is_pressed es)

module _ (es : List Entry) (n : ℕ) where
  pub pressed_unlisted : is_listed (entry_of es n) ≡ false → pressed_below es (n + 1) ≡ pressed_below es n
  unfolding count
  pressed_unlisted h = rw (add-one, count, h) (omega arith)

  pub pressed_room : (r : ℕ) → r ≡ room (entry_of es n) → r ≢ 0 → pressed_below es (n + 1) ≡ pressed_below es n
  unfolding count
  pressed_room r q h = let z : is_pressed es n ≡ false = at (is_listed (entry_of es n)) in rw (add-one, count, z) (omega arith)
    where
      at : (b : Bool) → b && eqb (room (entry_of es n)) 0 ≡ false
      at true = ne_eqb (room (entry_of es n)) 0 (omega arith)
      at false = refl

  pub pressed_none : is_listed (entry_of es n) ≡ true → (r : ℕ) → r ≡ room (entry_of es n) → r ≡ 0 → pressed_below es (n + 1) ≡ pressed_below es n + 1
  unfolding count
  pressed_none l r q h = rw (add-one n, count, l, eq-eqb (room (entry_of es n)) 0 (omega arith))

-- At most one number below n passes a test that none but u passes,
count_one : (test : ℕ → Bool) (u n : ℕ) → ((i : ℕ) → i < n → test i ≡ true → i ≡ u) → count n test ≤ 1
unfolding count
count_one test u zero h = omega arith
count_one test u (suc n) h = at (decided (test n)) (count_one test u n (λ i k. h i (omega arith)))
  where
    none_below : test n ≡ true → (m : ℕ) → m < n → (test m ≡ true) ⊎ (test m ≡ false) → test m ≡ false
    none_below t m k (inl e) = absurd (omega (arith, h m (omega arith) e, h n (omega arith) t))
    none_below t m k (inr e) = e

    at : (test n ≡ true) ⊎ (test n ≡ false) → count n test ≤ 1 → count n test + cond (test n) 1 0 ≤ 1
    at (inl e) k =
        let z = count_first test 0 n (omega arith) (λ m l. absurd (omega arith)) (λ m l p. none_below e m p (decided (test m))) in
        rw (e, z) (omega arith)
    at (inr e) k = rw e (omega (arith, k))

-- and two of those that pass make two.
count_two : (test : ℕ → Bool) (i j n : ℕ) → i ≢ j → i < n → j < n → test i ≡ true → test j ≡ true → 1 < count n test
count_two test i j n ne k l p q = at (dec_lt i j)
  where
    at : Dec (i < j) → 1 < count n test
    at (yes h) = omega (arith, count_rises test i j h p, count_rises test j n l q)
    at (no h) = omega (arith, count_rises test j i (omega arith) q, count_rises test i n k p)

-- The most urgent id's slot is missed where more than one listed id has no room, and only there.
module _ (es : List Entry) (u : ℕ) (m : MostUrgent es IDS u) where
  pressed_is : (i : ℕ) → is_listed (entry_of es i) ≡ true → room (entry_of es i) ≡ 0 → is_pressed es i ≡ true
  pressed_is i l z = ap₂ ◌&&◌ l (eq-eqb (room (entry_of es i)) 0 z)

  pressed_missed : (b : Bool) → is_missed es u ≡ b → (b ≡ true → 1 < pressed_below es IDS) × (b ≡ false → pressed_below es IDS ≤ 1)
  pressed_missed b e = (λ t. two (missed es u (e ∙ t)), λ f. count_one (is_pressed es) u IDS (λ i k p. only i k (e ∙ f) p (ℕ_discrete i u)))
    where
      two : (i : ℕ) × Lists es i × (i ≢ u) × (room (entry_of es i) ≡ 0) → 1 < pressed_below es IDS
      two w =
          let z : room (entry_of es u) ≡ 0 = omega (arith, m.least w.0 w.1.0 w.1.1, w.3) in
          count_two (is_pressed es) w.0 u IDS w.2 w.1.0 m.below (pressed_is w.0 w.1.1 w.3) (pressed_is u m.listed z)

      only : (i : ℕ) → i < IDS → is_missed es u ≡ false → is_pressed es i ≡ true → Dec (i ≡ u) → i ≡ u
      only i k f p (yes z) = z
      only i k f p (no z) =
          let q = and_both (is_listed (entry_of es i)) (eqb (room (entry_of es i)) 0) p in
          absurd (omega (arith, unmissed es u f i (k, q.0) z, eqb-true (room (entry_of es i)) 0 q.1))

  pub many_missed : 1 < pressed_below es IDS → is_missed es u ≡ true
  many_missed h = at (is_missed es u) refl
    where
      at : (b : Bool) → is_missed es u ≡ b → b ≡ true
      at true e = refl
      at false e = absurd (omega (arith, (pressed_missed false e).1 refl))

  pub few_unmissed : pressed_below es IDS ≤ 1 → is_missed es u ≡ false
  few_unmissed h = at (is_missed es u) refl
    where
      at : (b : Bool) → is_missed es u ≡ b → b ≡ false
      at true e = absurd (omega (arith, (pressed_missed true e).0 refl))
      at false e = refl

-- ---- the slot's owner

-- What a scan that has come to id n holds: the most urgent so far, and how many have no room.
pub record Scanned (es : List Entry) (urgent : Answer ℕ) (least pressed n : ℕ) : Type 0 where
  pub inside : n ≤ IDS
  pub best : Best es n urgent least
  pub counted : pressed ≡ pressed_below es n

module _ (es : List Entry) (least pressed : ℕ) (n : ℕ) (h : IDS ≤ n) where
  -- All ids have been looked at.
  whole : (urgent : Answer ℕ) → Scanned es urgent least pressed n → Best es IDS urgent least × (pressed ≡ pressed_below es IDS)
  whole urgent s = let e : n ≡ IDS = omega (arith, s.inside) in subst (λ (x : ℕ). Best es x urgent least × (pressed ≡ pressed_below es x)) e (s.best, s.counted)

  -- The most urgent has the least room.
  most : (u : ℕ) → most_urgent es IDS ≡ some u → MostUrgent es IDS u
  most u e = subst (Told es IDS) e (told es IDS)

  -- The slot is missed, or it goes to the most urgent, if anybody is listed.
  pub scanned_missed : (urgent : Answer ℕ) → Scanned es urgent least pressed n → 1 < pressed → None ≡ owner_of es
  unfolding owner_of
  scanned_missed None s l = let w = whole None s in rw (owner_of, w.0.0)
  scanned_missed (Some u) s l = let w = whole (Some u) s in rw (owner_of, w.0.0, many_missed es u (most u w.0.0) (omega (arith, w.1)))

  pub scanned_all : (urgent : Answer ℕ) → Scanned es urgent least pressed n → pressed ≤ 1 → urgent ≡ owner_of es
  unfolding owner_of
  scanned_all None s l = let w = whole None s in rw (owner_of, w.0.0)
  scanned_all (Some u) s l = let w = whole (Some u) s in rw (owner_of, w.0.0, few_unmissed es u (most u w.0.0) (omega (arith, w.1)))

-- What the owner says of the plan that follows.
module _ (n : ℕ) (plan : Plan) where
  pub owner_nobody : owner_of plan.entries ≡ None → longer n plan ≡ none
  unfolding longer owner_of
  owner_nobody h = at (most_urgent plan.entries IDS) h
    where
      next : ℕ → Plan
      next u = record { owners = set plan.owners n u; entries = over_all plan.entries u }

      with_id : (u : ℕ) (b : Bool) → ◌≡◌ {A = Answer ℕ} (cond b None (Some u)) None → cond b none (some (next u)) ≡ none
      with_id u true e = refl
      with_id u false e = absurd (let z : ◌≡◌ {A = ℕ} 0 1 = cc in omega arith)

      at : (o : Option ℕ) → ◌≡◌ {A = Answer ℕ} (elim o [ none ↦ None | some u ↦ cond (is_missed plan.entries u) None (Some u) ]) None
          → ◌≡◌ {A = Option Plan} (elim o [ none ↦ none | some u ↦ cond (is_missed plan.entries u) none (some (next u)) ]) none
      at none e = refl
      at (some u) e = with_id u (is_missed plan.entries u) e

  pub owner_id : (u : ℕ) → owner_of plan.entries ≡ Some u
      → (u < IDS) × (longer n plan ≡ some (record { owners = set plan.owners n u; entries = over_all plan.entries u }))
  unfolding longer owner_of
  owner_id u h = at (most_urgent plan.entries IDS) (told plan.entries IDS) h
    where
      next : ℕ → Plan
      next v = record { owners = set plan.owners n v; entries = over_all plan.entries v }

      with_id : (v : ℕ) → v < IDS → (b : Bool) → ◌≡◌ {A = Answer ℕ} (cond b None (Some v)) (Some u) → (u < IDS) × (cond b none (some (next v)) ≡ some (next u))
      with_id v k true e = absurd (let z : ◌≡◌ {A = ℕ} 0 1 = cc in omega arith)
      with_id v k false e = let z : v ≡ u = cc in (omega arith, ap (λ (x : ℕ). some (next x)) z)

      at : (o : Option ℕ) → Told plan.entries IDS o → ◌≡◌ {A = Answer ℕ} (elim o [ none ↦ None | some v ↦ cond (is_missed plan.entries v) None (Some v) ]) (Some u)
          → (u < IDS) × (elim o [ none ↦ none | some v ↦ cond (is_missed plan.entries v) none (some (next v)) ] ≡ some (next u))
      at none t e = absurd (let z : ◌≡◌ {A = ℕ} 0 1 = cc in omega arith)
      at (some v) t e = with_id v t.below (is_missed plan.entries v) e

-- ---- the entries over the slot

-- An entry in range is owed less than 256 x 8.
pub owes_less : (es : List Entry) → entries_in_range es ≡ true → (i : ℕ) → i < IDS → (entry_of es i).shortfall < WHOLE * LARGEST_BOUND
owes_less es h i k = at (decided (is_listed (entry_of es i))) (ranged_from es h)
  where
    at : (is_listed (entry_of es i) ≡ true) ⊎ (is_listed (entry_of es i) ≡ false) → Ranged es → (entry_of es i).shortfall < WHOLE * LARGEST_BOUND
    at (inl l) r = let q = r.listed i k l in omega (arith, q.kept, q.bound_high)
    at (inr l) r = (r.absent i k l).below

module _ (es : List Entry) (h : entries_in_range es ≡ true) (i : ℕ) (k : i < IDS) where
  -- A listed entry has a period,
  pub weighed : 0 < (entry_of es i).period → is_period (entry_of es i).period ≡ true
  weighed l = period_is (entry_of es i).period (in_range_from _ (entry_range es i h k (lt-ltb 0 (entry_of es i).period l))).period

  -- and a shortfall that can rise stays in its type.
  pub rising_fits : (w : ℕ) → w ≡ weight (entry_of es i) → (entry_of es i).shortfall + w < 65536
  rising_fits w e = omega (arith, owes_less es h i k, e, weight_le (entry_of es i).period)

-- No more have no room than were looked at.
pub scanned_few : (es : List Entry) (urgent : Answer ℕ) (least pressed n : ℕ) → Scanned es urgent least pressed n → pressed ≤ n
scanned_few es urgent least pressed n s = omega (arith, s.counted, count_most (is_pressed es) n)

-- The scan, one id after the other.
module _ (es : List Entry) (h : entries_in_range es ≡ true) where
  pub scanned_none : Scanned es None 65535 0 0
  unfolding count
  scanned_none = record { inside = omega arith; best = best_start es; counted = refl }

  module _ (n : ℕ) (urgent : Answer ℕ) (least pressed : ℕ) (k : n < IDS) (s : Scanned es urgent least pressed n) where
    -- An id that is not listed leaves it.
    pub scanned_unlisted : is_listed (entry_of es n) ≡ false → Scanned es urgent least pressed (n + 1)
    scanned_unlisted u =
        record { inside = omega arith; best = best_unlisted es n least urgent u s.best; counted = s.counted ∙ sym (pressed_unlisted es n u) }

    -- A listed one takes the place of the most urgent if it has less room, and counts if it has none.
    pub scanned_listed : is_listed (entry_of es n) ≡ true → (r : ℕ) → r ≡ room (entry_of es n) → (v : Answer ℕ) (m : ℕ) → Beside r least n urgent v m → (c : ℕ)
        → ((r ≡ 0) × (c ≡ pressed + 1)) ⊎ ((r ≢ 0) × (c ≡ pressed)) → Scanned es v m c (n + 1)
    scanned_listed l r q v m w c x = record { inside = omega arith; best = better w; counted = more x }
      where
        small : r < 65535
        small = omega (arith, q, room_below (entry_of es n) (entry_range es n h k l))

        better : Beside r least n urgent v m → Best es (n + 1) v m
        better (inl y) = rw (y.1, y.2) (best_less es n least l r q urgent k y.0 s.best)
        better (inr y) = rw (y.1, y.2) (best_kept es n least l r q urgent small y.0 s.best)

        more : ((r ≡ 0) × (c ≡ pressed + 1)) ⊎ ((r ≢ 0) × (c ≡ pressed)) → c ≡ pressed_below es (n + 1)
        more (inl y) = y.1 ∙ ap (λ (x : ℕ). x + 1) s.counted ∙ sym (pressed_none es n l r q y.0)
        more (inr y) = y.1 ∙ s.counted ∙ sym (pressed_room es n r q y.0)

-- ---- the weights

-- What each entry becomes first: its shortfall rises by its weight.
abbrev pub risen : ℕ → Entry → Entry
risen i e = over_entry false e

module _ (start es : List Entry) (h : entries_in_range start ≡ true) (id : ℕ) (r : es ≡ each risen id start) (k : id < IDS) where
  -- The next has a period, if it is listed, and can rise.
  pub risen_weighed : 0 < (entry_of es id).period → is_period (entry_of es id).period ≡ true
  risen_weighed l =
      let e = ap (λ (x : Entry). x.period) (next_is risen start id es r) in
      ap is_period e ∙ weighed start h id k (omega (arith, l, e))

  pub risen_fits : (w : ℕ) → w ≡ weight (entry_of es id) → (entry_of es id).shortfall + w < 65536
  risen_fits w e =
      let z = next_is risen start id es r in
      omega (arith, ap (λ (x : Entry). x.shortfall) z, rising_fits start h id k w (e ∙ ap (λ (x : Entry). weight x) z))

-- It rises.
pub risen_next : (start es : List Entry) (id : ℕ) → es ≡ each risen id start → (w s : ℕ) → w ≡ weight (entry_of es id)
    → s ≡ over_slot false w (entry_of es id).shortfall → set es id (with_shortfall s (entry_of es id)) ≡ each risen (id + 1) start
risen_next start es id h w s p q =
    each_more risen start id es h (with_shortfall s (entry_of es id))
    (ap (λ (x : ℕ). with_shortfall x (entry_of es id)) (q ∙ ap (λ (x : ℕ). over_slot false x (entry_of es id).shortfall) p))

-- All have, and the owner's is paid.
pub risen_paid : (start es : List Entry) (u : ℕ) → length start ≡ IDS → es ≡ each risen IDS start → (w s : ℕ) → w ≡ weight (entry_of start u)
    → s ≡ over_slot true w (entry_of start u).shortfall → set es u (with_shortfall s (entry_of es u)) ≡ over_all start u
risen_paid start es u size h w s p q =
    ext_get_or no_entry _ _ (long ∙ sym (length_over start u ∙ size))
    (λ i l. let j : i < IDS = omega (arith, long) in at i j (ℕ_discrete i u) ∙ sym (over_at_lem start u size i j))
  where
    long : length (set es u (with_shortfall s (entry_of es u))) ≡ IDS
    long = length-set es u (with_shortfall s (entry_of es u)) ∙ as_many risen start IDS es h ∙ size

    has_risen : (i : ℕ) → i < IDS → entry_of es i ≡ over_entry false (entry_of start i)
    has_risen i l = ap (λ (x : List Entry). entry_of x i) h ∙ each_at risen IDS start (omega (arith, size)) i l

    at : (i : ℕ) → i < IDS → Dec (i ≡ u) → entry_of (set es u (with_shortfall s (entry_of es u))) i ≡ over_entry (eqb i u) (entry_of start i)
    at i l (yes e) =
        rw (← e, get_or-set_same es i (with_shortfall s (entry_of es i)) no_entry (omega (arith, as_many risen start IDS es h, size)), eq-eqb i i refl)
        (ap (with_shortfall s) (has_risen i l)
        ∙ ap (λ (x : ℕ). with_shortfall x (entry_of start i))
        (q ∙ ap (λ (x : ℕ). over_slot true x (entry_of start u).shortfall) p ∙ ap (λ (x : ℕ). over_slot true (weight (entry_of start x)) (entry_of start x).shortfall) (sym e)))
    at i l (no e) = rw (get_or-set_other es u i (with_shortfall s (entry_of es u)) no_entry e, ne_eqb i u e) (has_risen i l)

-- ---- the plan that follows

module _ (plan : Plan) (n : ℕ) where
  -- The code's answer where nobody gets the slot,
  pub next_nobody : owner_of plan.entries ≡ None → (false, plan) ≡ next_of plan (longer n plan)
  unfolding next_of
  next_nobody h = sym (ap (next_of plan) (owner_nobody n plan h))

  -- and where somebody does.
  pub next_given : (u : ℕ) → owner_of plan.entries ≡ Some u
      → (true, record { owners = set plan.owners n u; entries = over_all plan.entries u }) ≡ next_of plan (longer n plan)
  unfolding next_of
  next_given u h = sym (ap (next_of plan) (owner_id n plan u h).1)
