-- The run of accepted timetables: from its request slot on each timetable's shortfalls and slices are those of the run, counted across every change before
-- it, every listed id's bound is kept in every slot, and the shortfall of an id that is not listed stays. By induction on the history. Assumes nothing.
use lib.ListN.{get_or-replicate, length-replicate}
use mathlib.Core.Bool.{Bool, true, false}
use mathlib.Core.List.{[], ◌∷◌}
use mathlib.Core.Path.{◌≡◌, refl, sym, ap, ap₂, ◌∙◌, subst}
use native.Mathlib.Decide.{dec_le, dec_lt}
use native.Mathlib.Nat.{add-zero, add-suc}
use native.Mathlib.Omega.{arith}
use Prim.Native.Nat.{ℕ, zero, suc, ◌+◌, ◌-◌, ◌*◌, ◌≤◌, ◌<◌}
use Rattle.slots.proofs.Below.{true_false}
use Rattle.slots.proofs.Windows.{absence_keeps, shortfall_agree}
use Rattle.slots.proofs.OneSlot.{shortfall_suc}
use Rattle.slots.specs.Below.{count}
use Rattle.slots.specs.Clocks.{core_slot}
use Rattle.slots.specs.Limits.{IDS, WHOLE}
use Rattle.slots.specs.Shortfall.{over_slot}
use Rattle.slots.specs.Slots.{Listed, Slot, is_owner, one, own, supply, shortfall}
use Rattle.timetable.proofs.InForce.{Continues, Valid, absent_serves, empty_lists, in_force_before, in_force_sound, no_weight_absent, present_in_force, present_sound, weight_lists}
use Rattle.timetable.proofs.Onward.{kept_after}
use Rattle.timetable.proofs.Owner.{owner_serves}
use Rattle.timetable.proofs.Since.{one_cond, shortfall_from}
use Rattle.timetable.proofs.Sound.{Sound}
use Rattle.timetable.specs.declared.Entry.{Entry}
use Rattle.timetable.specs.declared.Timetable.{Timetable}
use Rattle.timetable.specs.History.{History, present, in_force, run_of}
use Rattle.timetable.specs.Timetable.{no_entry, empty_timetable, entry_of, start_of, lists, weight, serves, owner_at, shortfall_since, shortfall_at}

-- ---- the slots from the request slot of the last accepted timetable on

module _ (h : History) (v : Valid h) where
  abbrev last : Timetable
  last = present h

  sound : Sound last
  sound = (present_sound h v).sound

  -- They are the timetable's own.
  pub own_is : (i x : ℕ) → i < IDS → last.request.0 ≤ x → own (run_of h) i x ≡ serves last (core_slot x) i
  unfolding run_of own
  own_is i x k l = ap (λ (u : Timetable). is_owner i (owner_at u (core_slot x))) (present_in_force h x l) ∙ owner_serves last sound.apart x i k

  weight_is : (i x : ℕ) → last.request.0 ≤ x → (run_of h x).weight i ≡ weight (entry_of last.entries i)
  unfolding run_of
  weight_is i x l = ap (λ (u : Timetable). weight (entry_of u.entries i)) (present_in_force h x l)

  bound_is : (i x : ℕ) → last.request.0 ≤ x → (run_of h x).bound i ≡ (entry_of last.entries i).bound
  unfolding run_of
  bound_is i x l = ap (λ (u : Timetable). (entry_of u.entries i).bound) (present_in_force h x l)

  -- From its start on an id's shortfall is the timetable's.
  since_run : (i : ℕ) → i < IDS → shortfall (run_of h) i last.request.0 ≡ start_of last i → (n : ℕ)
      → shortfall (run_of h) i (last.request.0 + n) ≡ shortfall_since last i n
  unfolding shortfall_since
  since_run i k s zero = rw (add-zero last.request.0) s
  since_run i k s (suc n) =
      let r : ℕ = last.request.0 in
      ap (shortfall (run_of h) i) (add-suc r n)
      ∙ shortfall_suc (run_of h) i (r + n)
      ∙ ap₂ (λ (b : Bool) (w : ℕ). over_slot b w (shortfall (run_of h) i (r + n))) (own_is i (r + n) k (omega arith)) (weight_is i (r + n) (omega arith))
      ∙ ap (over_slot (serves last (core_slot (r + n)) i) (weight (entry_of last.entries i))) (since_run i k s n)

-- ---- the whole history

-- Before its request slot a timetable leaves the run as it was.
run_before : (t : Timetable) (h : History) (x : ℕ) → x < t.request.0 → run_of (t ∷ h) x ≡ run_of h x
unfolding run_of
run_before t h x l =
    ap (λ (u : Timetable). record {
      owner = owner_at u (core_slot x);
      weight = λ i. weight (entry_of u.entries i);
      bound = λ i. (entry_of u.entries i).bound;
    })
    (in_force_before t h x l)

-- So up to its request slot every shortfall is as it was.
pub shortfall_stays : (t : Timetable) (h : History) (i x : ℕ) → x ≤ t.request.0 → shortfall (run_of (t ∷ h)) i x ≡ shortfall (run_of h) i x
shortfall_stays t h i x l = shortfall_agree i (run_of (t ∷ h)) (run_of h) x (λ y k. run_before t h y (omega arith))

-- The base does not lie before the request slot.
pub base_later : (h : History) → Valid h → (present h).request.0 ≤ (present h).base.0
base_later h v = omega (arith, (present_sound h v).sound.base)

-- The shortfall of every id, listed or not, is the run's, at every slot from the request slot on.
pub present_run : (h : History) → Valid h → (i : ℕ) → i < IDS → (x : ℕ) → (present h).request.0 ≤ x
    → shortfall (run_of h) i x ≡ shortfall_at (present h) i (core_slot x)
unfolding shortfall shortfall_at present
present_run [] v i k x b =
    let e : x ≡ 0 + (x - 0) = omega arith in
    ap (shortfall (run_of []) i) e ∙ since_run [] v i k (sym (get_or-replicate IDS i 0 0 k)) (x - 0)
present_run (t ∷ h) v i k x b =
    let start : shortfall (run_of (t ∷ h)) i t.request.0 ≡ start_of t i =
    shortfall_stays t h i t.request.0 (omega arith)
    ∙ present_run h v.1 i k t.request.0 (omega (arith, base_later h v.1, v.0.later))
    ∙ sym (v.0.starts i k) in
    let e : x ≡ t.request.0 + (x - t.request.0) = omega arith in
    ap (shortfall (run_of (t ∷ h)) i) e ∙ since_run (t ∷ h) v i k start (x - t.request.0)

-- The bound of a listed id is kept n slots after the request slot.
kept_since : (before t : Timetable) → Continues before t → (i : ℕ) → i < IDS → lists t i ≡ true → (n : ℕ)
    → shortfall_since t i n < WHOLE * (entry_of t.entries i).bound
kept_since before t c i k l n = at (dec_le n t.length)
  where
    at : Dec (n ≤ t.length) → shortfall_since t i n < WHOLE * (entry_of t.entries i).bound
    at (yes m) = c.kept i k l n m
    at (no m) =
        let z : n ≡ t.length + (n - t.length) = omega arith in
        let e : Entry = entry_of t.entries i in
        omega (
          arith,
          ap (shortfall_since t i) z,
          shortfall_from t c.sound i k (n - t.length),
          kept_after e (c.sound.ranged.listed i k l) (n - t.length),
        )

-- In every slot of the run the shortfall of each listed id stays below 256 R, by the bound in force in that slot.
pub kept_run : (h : History) → Valid h → (i x : ℕ) → Listed (run_of h) i x → shortfall (run_of h) i (suc x) < WHOLE * (run_of h x).bound i
unfolding run_of in_force present shortfall_at
kept_run [] v i x w = absurd (true_false (weight_lists empty_timetable (length-replicate IDS no_entry) i w).1 (empty_lists i))
kept_run (t ∷ h) v i x w = at (dec_lt x t.request.0) (λ y. kept_run h v.1 i x y)
  where
    at : Dec (x < t.request.0) → (Listed (run_of h) i x → shortfall (run_of h) i (suc x) < WHOLE * (run_of h x).bound i)
        → shortfall (run_of (t ∷ h)) i (suc x) < WHOLE * (run_of (t ∷ h) x).bound i
    at (yes b) ih =
        let r = run_before t h x b in
        let q = ih (subst (λ (s : Slot). 0 < s.weight i) r w) in
        omega (arith, q, shortfall_stays t h i (suc x) (omega arith), ap (λ (s : Slot). s.bound i) r)
    at (no b) ih =
        let m : t.request.0 ≤ x = omega arith in
        let l = weight_lists t v.0.shape i (subst (λ (y : ℕ). 0 < y) (weight_is (t ∷ h) v i x m) w) in
        let s = present_run (t ∷ h) v i l.0 (suc x) (omega arith) in
        let q = kept_since (present h) t v.0 i l.0 l.1 (suc x - t.request.0) in
        omega (arith, s, q, bound_is (t ∷ h) v i x m)

-- Over slots in which an id is not listed its shortfall stays as it is.
pub absent_run : (h : History) → Valid h → (i a n : ℕ) → i < IDS → ((m : ℕ) → m < n → (run_of h (a + m)).weight i ≡ 0)
    → shortfall (run_of h) i (a + n) ≡ shortfall (run_of h) i a
unfolding run_of own
absent_run h v i a n k w = absence_keeps (run_of h) i a n (λ m l. (w m l, nobody (a + m) (w m l)))
  where
    nobody : (x : ℕ) → weight (entry_of (in_force h x).entries i) ≡ 0 → is_owner i (owner_at (in_force h x) (core_slot x)) ≡ false
    nobody x z =
        let f = in_force_sound h v x in
        owner_serves (in_force h x) f.sound.apart x i k
        ∙ absent_serves (in_force h x) f.sound x i f.since (no_weight_absent (in_force h x) f.sound i k z)

-- The slices that an id has had since the request slot are the run's supply from there.
pub slices_run : (h : History) → Valid h → (i : ℕ) → i < IDS → (n : ℕ)
    → supply (run_of h) i (present h).request.0 n ≡ count n (λ m. serves (present h) (core_slot ((present h).request.0 + m)) i)
unfolding supply count
slices_run h v i k zero = refl
slices_run h v i k (suc n) =
    let r : ℕ = (present h).request.0 in
    ap₂ ◌+◌ (slices_run h v i k n)
    (ap one (own_is h v i (r + n) k (omega arith)) ∙ sym (one_cond (serves (present h) (core_slot (r + n)) i)))
