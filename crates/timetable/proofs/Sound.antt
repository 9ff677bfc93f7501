-- Soundness, from its test to what it says and back, clause by clause. Assumes nothing.
use borrow.Author.Tests.{lt-ltb, le-ltb, le-leb, eq-eqb, ltb-true, leb-true, eqb-true}
use lib.Dec.{eqb, ltb}
use lib.ListN.{get_or}
use mathlib.Core.Bool.{Bool, true, false, cond, not, ◌&&◌, ◌||◌}
use mathlib.Core.List.{List}
use mathlib.Core.Logic.{◌≢◌}
use mathlib.Core.Path.{◌≡◌, refl, sym, ap, ap₂, ◌∙◌, subst}
use native.Mathlib.Decide.{dec_lt}
use native.Mathlib.Nat.{mod-lt, mod-mod_of_dvd}
use native.Mathlib.Omega.{arith}
use Prim.Native.Nat.{ℕ, ◌+◌, ◌*◌, ◌%◌, ◌≤◌, ◌<◌, ◌∣◌}
use Rattle.slots.proofs.Below.{and_both, every_at, every_all, true_false}
use Rattle.slots.specs.Limits.{IDS, LONGEST, WHOLE, LAST_SLOT}
use Rattle.slots.specs.Shortfall.{keeps}
use Rattle.timetable.proofs.Absent.{Absent, absent_from, absent_is}
use Rattle.timetable.proofs.Ranges.{InRange, period_divides, in_range_from, in_range_is}
use Rattle.timetable.specs.declared.Entry.{Entry}
use Rattle.timetable.specs.declared.Timetable.{Timetable}
use Rattle.timetable.specs.Sound.{request_in_range, length_in_range, base_as_stated, owners_listed, entry_in_range, entry_absent, entries_in_range, share_none, none_shared, unused_owners_zero, start_in_range, starts_in_range, walk_arrives, is_sound}
use Rattle.timetable.specs.Timetable.{entry_of, start_of, is_listed, lists, weight, cyclic, transition_shortfall}

-- Every listed id's entry is in range, and every other id's is as above.
pub record Ranged (es : List Entry) : Type 0 where
  pub listed : (i : ℕ) → i < IDS → is_listed (entry_of es i) ≡ true → InRange (entry_of es i)
  pub absent : (i : ℕ) → i < IDS → is_listed (entry_of es i) ≡ false → Absent (entry_of es i)

-- No two listed ids share a cyclic slot, however far from the base.
abbrev pub Apart : List Entry → Type 0
Apart es = (i j : ℕ) → i < IDS → j < IDS → i ≢ j → (n : ℕ) → cyclic (entry_of es i) n ≡ true → cyclic (entry_of es j) n ≡ true → ⊥

-- What a sound timetable says.
pub record Sound (t : Timetable) : Type 0 where
  pub request : t.request.0 ≤ LAST_SLOT
  pub size : t.length ≤ LONGEST
  pub base : t.base.0 ≡ t.request.0 + t.length
  pub owners : (n : ℕ) → n < t.length → is_listed (entry_of t.entries (get_or t.owners n 0)) ≡ true
  pub ranged : Ranged t.entries
  pub apart : Apart t.entries
  pub unused : (n : ℕ) → n < LONGEST → t.length ≤ n → get_or t.owners n 0 ≡ 0
  pub start_kept : (i : ℕ) → i < IDS → lists t i ≡ true → start_of t i < WHOLE * (entry_of t.entries i).bound
  pub start_same : (i : ℕ) → i < IDS → lists t i ≡ false → start_of t i ≡ (entry_of t.entries i).shortfall
  pub arrives : (i : ℕ) → i < IDS
      → transition_shortfall t.owners i (weight (entry_of t.entries i)) (start_of t i) t.length ≡ (entry_of t.entries i).shortfall

-- ---- entries

pub ranged_from : (es : List Entry) → entries_in_range es ≡ true → Ranged es
unfolding entries_in_range
ranged_from es h = record { listed = λ i k l. in_range_from (entry_of es i) (at i k true l); absent = λ i k l. absent_from (entry_of es i) l (at i k false l) }
  where
    test : ℕ → Bool
    test i = cond (is_listed (entry_of es i)) (entry_in_range (entry_of es i)) (entry_absent (entry_of es i))

    at : (i : ℕ) → i < IDS → (b : Bool) → is_listed (entry_of es i) ≡ b → cond b (entry_in_range (entry_of es i)) (entry_absent (entry_of es i)) ≡ true
    at i k b e =
        subst (λ (c : Bool). cond c (entry_in_range (entry_of es i)) (entry_absent (entry_of es i)) ≡ true) e (every_at test IDS h i k)

pub ranged_is : (es : List Entry) → Ranged es → entries_in_range es ≡ true
unfolding entries_in_range
ranged_is es r = every_all _ IDS (λ i k. at i k (is_listed (entry_of es i)) refl)
  where
    at : (i : ℕ) → i < IDS → (b : Bool) → is_listed (entry_of es i) ≡ b → cond (is_listed (entry_of es i)) (entry_in_range (entry_of es i)) (entry_absent (entry_of es i)) ≡ true
    at i k true e = rw e (in_range_is (entry_of es i) (r.listed i k e))
    at i k false e = rw e (absent_is (entry_of es i) (r.absent i k e))

-- ---- shared slots

-- A cyclic slot of a period that divides 256 shows among the first 256.
cyclic_mod : (e : Entry) (n : ℕ) → e.period ∣ WHOLE → cyclic e n ≡ cyclic e (n % WHOLE)
unfolding cyclic
cyclic_mod e n d = ap (λ (x : ℕ). is_listed e && eqb x e.offset) (sym (mod-mod_of_dvd e.period n d))

pub share_from : (e f : Entry) → e.period ∣ WHOLE → f.period ∣ WHOLE → share_none e f ≡ true
    → (n : ℕ) → cyclic e n ≡ true → cyclic f n ≡ true → ⊥
unfolding share_none
share_from e f de df h n p q =
    let k = every_at _ _ h (n % WHOLE) (omega (arith, mod-lt n {m = WHOLE} (omega arith))) in
    true_false (rw (sym (cyclic_mod e n de) ∙ p, sym (cyclic_mod f n df) ∙ q) at k) refl

pub share_is : (e f : Entry) → ((n : ℕ) → cyclic e n ≡ true → cyclic f n ≡ true → ⊥) → share_none e f ≡ true
unfolding share_none
share_is e f h = every_all _ WHOLE (λ n k. at n (cyclic e n) (cyclic f n) refl refl)
  where
    at : (n : ℕ) (a b : Bool) → cyclic e n ≡ a → cyclic f n ≡ b → not (cyclic e n && cyclic f n) ≡ true
    at n true true p q = absurd (h n p q)
    at n true false p q = rw (p, q)
    at n false b p q = rw p

-- A cyclic slot is a listed entry's.
pub cyclic_listed : (e : Entry) (n : ℕ) → cyclic e n ≡ true → is_listed e ≡ true
unfolding cyclic
cyclic_listed e n h = (and_both (is_listed e) (eqb (n % e.period) e.offset) h).0

pub apart_from : (es : List Entry) → Ranged es → none_shared es ≡ true → Apart es
unfolding none_shared
apart_from es r h i j ki kj ne n p q = at (dec_lt j i)
  where
    pair : (i j : ℕ) → i < IDS → j < i → cyclic (entry_of es i) n ≡ true → cyclic (entry_of es j) n ≡ true → ⊥
    pair i j ki l p q =
        let li = cyclic_listed (entry_of es i) n p in
        let lj = cyclic_listed (entry_of es j) n q in
        let k =
        every_at
        (λ j. not (is_listed (entry_of es i) && is_listed (entry_of es j)) || share_none (entry_of es i) (entry_of es j))
        i
        (every_at _ IDS h i ki)
        j
        l in
        share_from
        (entry_of es i)
        (entry_of es j)
        (period_divides _ (r.listed i ki li).period)
        (period_divides _ (r.listed j (omega arith) lj).period)
        (rw (li, lj) at k)
        n
        p
        q

    at : Dec (j < i) → ⊥
    at (yes l) = pair i j ki l p q
    at (no l) = pair j i kj (omega arith) q p

pub apart_is : (es : List Entry) → Apart es → none_shared es ≡ true
unfolding none_shared
apart_is es a = every_all _ IDS (λ i k. every_all _ i (λ j l. at i j k l (is_listed (entry_of es i) && is_listed (entry_of es j))))
  where
    at : (i j : ℕ) → i < IDS → j < i → (b : Bool) → not b || share_none (entry_of es i) (entry_of es j) ≡ true
    at i j k l true = share_is (entry_of es i) (entry_of es j) (a i j k (omega arith) (omega arith))
    at i j k l false = refl

-- ---- the starts

start_from : (e : Entry) (start : ℕ) → start_in_range e start ≡ true
    → (is_listed e ≡ true → start < WHOLE * e.bound) × (is_listed e ≡ false → start ≡ e.shortfall)
unfolding start_in_range keeps
start_from e start h = ((λ l. ltb-true start (WHOLE * e.bound) (rw l at h)), (λ l. eqb-true start e.shortfall (rw l at h)))

start_is : (e : Entry) (start : ℕ) → (is_listed e ≡ true → start < WHOLE * e.bound) → (is_listed e ≡ false → start ≡ e.shortfall) → start_in_range e start ≡ true
unfolding start_in_range keeps
start_is e start f g = at (is_listed e) refl
  where
    at : (b : Bool) → is_listed e ≡ b → cond b (ltb start (WHOLE * e.bound)) (eqb start e.shortfall) ≡ true
    at true l = lt-ltb start (WHOLE * e.bound) (f l)
    at false l = eq-eqb start e.shortfall (g l)

-- ---- the whole timetable

pub sound_from : (t : Timetable) → is_sound t ≡ true → Sound t
unfolding is_sound request_in_range length_in_range base_as_stated owners_listed unused_owners_zero starts_in_range walk_arrives
sound_from t h =
    let y = and_both _ (walk_arrives t) h in
    let z = and_both _ (starts_in_range t) y.0 in
    let a = and_both _ (unused_owners_zero t) z.0 in
    let b = and_both _ (none_shared t.entries) a.0 in
    let c = and_both _ (entries_in_range t.entries) b.0 in
    let d = and_both _ (owners_listed t) c.0 in
    let e = and_both _ (base_as_stated t) d.0 in
    let f = and_both (request_in_range t) (length_in_range t) e.0 in
    let r = ranged_from t.entries c.1 in
    let s = every_at (λ i. start_in_range (entry_of t.entries i) (start_of t i)) IDS z.1 in
    record {
      request = leb-true _ _ f.0;
      size = leb-true _ _ f.1;
      base = omega (arith, eqb-true t.base.0 _ e.1);
      owners = every_at _ t.length d.1;
      ranged = r;
      apart = apart_from t.entries r b.1;
      unused = λ n k l. at n l (every_at (λ n. ltb n t.length || eqb (get_or t.owners n 0) 0) LONGEST a.1 n k);
      start_kept = λ i k. (start_from (entry_of t.entries i) (start_of t i) (s i k)).0;
      start_same = λ i k. (start_from (entry_of t.entries i) (start_of t i) (s i k)).1;
      arrives = λ i k. eqb-true _ _ (every_at _ IDS y.1 i k);
    }
  where
    at : (n : ℕ) → t.length ≤ n → ltb n t.length || eqb (get_or t.owners n 0) 0 ≡ true → get_or t.owners n 0 ≡ 0
    at n l k = eqb-true _ _ (rw (le-ltb n t.length l) at k)

pub sound_is : (t : Timetable) → Sound t → is_sound t ≡ true
unfolding is_sound request_in_range length_in_range base_as_stated owners_listed unused_owners_zero starts_in_range walk_arrives
sound_is t s =
    ap₂ ◌&&◌
    (ap₂ ◌&&◌
    (ap₂ ◌&&◌
    (ap₂ ◌&&◌
    (ap₂ ◌&&◌
    (ap₂ ◌&&◌ (ap₂ ◌&&◌ (ap₂ ◌&&◌ (le-leb _ _ s.request) (le-leb _ _ s.size)) (eq-eqb _ _ s.base)) (every_all _ t.length s.owners))
    (ranged_is t.entries s.ranged))
    (apart_is t.entries s.apart))
    (every_all _ LONGEST (λ n k. at n k (dec_lt n t.length))))
    (every_all _ IDS (λ i k. start_is (entry_of t.entries i) (start_of t i) (s.start_kept i k) (s.start_same i k))))
    (every_all _ IDS (λ i k. eq-eqb _ _ (s.arrives i k)))
  where
    at : (n : ℕ) → n < LONGEST → Dec (n < t.length) → ltb n t.length || eqb (get_or t.owners n 0) 0 ≡ true
    at n k (yes l) = rw (lt-ltb n t.length l)
    at n k (no l) =
        let h : t.length ≤ n = omega arith in
        rw (le-ltb n t.length h) (eq-eqb _ _ (s.unused n k h))
