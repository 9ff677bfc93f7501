-- Histories in which each timetable continues the one before, and which of its timetables is in force: each is sound, and an id that it does not list
-- has no slot. By induction on the history. Assumes nothing.
use borrow.Author.Tests.{eqb-true, le-leb, lt-leb, lt-ltb}
use lib.Dec.{eqb, leb}
use lib.ListN.{get_or, get_or-replicate, length, length-replicate, replicate, get_or-eq_default}
use mathlib.Core.Bool.{Bool, true, false, cond}
use mathlib.Core.List.{[], ◌∷◌}
use mathlib.Core.Path.{◌≡◌, refl, sym, ap, ◌∙◌, subst}
use native.Mathlib.Decide.{dec_lt, ℕ_discrete}
use native.Mathlib.Omega.{arith}
use Prim.Native.Nat.{ℕ, ◌-◌, ◌*◌, ◌≤◌, ◌<◌}
use Rattle.slots.proofs.Below.{true_false}
use Rattle.slots.specs.Below.{every}
use Rattle.slots.specs.Clocks.{core_slot}
use Rattle.slots.specs.Limits.{IDS, WHOLE}
use Rattle.slots.specs.Shortfall.{keeps, weight_of}
use Rattle.timetable.proofs.Cycle.{weight_pos}
use Rattle.timetable.proofs.Owner.{serves_before, serves_from}
use Rattle.timetable.proofs.Ranges.{period_whole}
use Rattle.timetable.proofs.Sound.{Sound, cyclic_listed, sound_from}
use Rattle.timetable.specs.declared.Entry.{Entry}
use Rattle.timetable.specs.declared.Timetable.{Timetable}
use Rattle.timetable.specs.History.{History, present, in_force}
use Rattle.timetable.specs.Sound.{request_in_range, length_in_range, base_as_stated, owners_listed, entry_absent, entries_in_range, none_shared, unused_owners_zero, start_in_range, starts_in_range, walk_arrives, is_sound}
use Rattle.timetable.specs.Timetable.{cyclic, no_entry, empty_timetable, entry_of, start_of, is_listed, lists, serves, shortfall_since, shortfall_at, transition_shortfall, weight}

-- A timetable that continues another: it is sound, starts at the other's base or later from every id's shortfall there, and keeps every bound over its transition.
pub record Continues (before t : Timetable) : Type 0 where
  pub sound : Sound t
  pub shape : length t.entries ≡ IDS
  pub later : before.base.0 ≤ t.request.0
  pub starts : (i : ℕ) → i < IDS → start_of t i ≡ shortfall_at before i t.request
  pub kept : (i : ℕ) → i < IDS → lists t i ≡ true → (n : ℕ) → n ≤ t.length → shortfall_since t i n < WHOLE * (entry_of t.entries i).bound

-- A history in which each timetable continues the one before, from the empty one on.
abbrev pub Valid : History → Type 0
Valid [] = Unit {0}
Valid (t ∷ h) = Continues (present h) t × Valid h

-- ---- the empty timetable

-- It lists nobody,
pub empty_lists : (i : ℕ) → lists empty_timetable i ≡ false
empty_lists i = at (dec_lt i IDS)
  where
    at : Dec (i < IDS) → lists empty_timetable i ≡ false
    at (yes k) = ap is_listed (get_or-replicate IDS i no_entry no_entry k)
    at (no k) = ap is_listed (get_or-eq_default (replicate IDS no_entry) no_entry {n = i} (omega arith))

-- and is sound.
pub empty_sound : is_sound empty_timetable ≡ true
unfolding is_sound request_in_range length_in_range base_as_stated owners_listed keeps entry_absent entries_in_range none_shared unused_owners_zero start_in_range starts_in_range walk_arrives transition_shortfall every
empty_sound = refl

-- ---- which timetable is in force

-- From its request slot on a timetable is in force, as long as none comes after it.
in_force_lem : (t : Timetable) (h : History) (x : ℕ) → t.request.0 ≤ x → in_force (t ∷ h) x ≡ t
unfolding in_force
in_force_lem t h x l = rw (in_force, le-leb)

-- Before it the others are.
pub in_force_before : (t : Timetable) (h : History) (x : ℕ) → x < t.request.0 → in_force (t ∷ h) x ≡ in_force h x
unfolding in_force
in_force_before t h x l = rw (in_force, lt-leb)

-- The last accepted timetable is in force from its request slot on.
pub present_in_force : (h : History) → (x : ℕ) → (present h).request.0 ≤ x → in_force h x ≡ present h
unfolding present in_force
present_in_force [] x l = refl
present_in_force (t ∷ h) x l = in_force_lem t h x l

-- A timetable in force is sound, has an entry for each id, and its request slot has come.
pub record InForce (t : Timetable) (x : ℕ) : Type 0 where
  pub sound : Sound t
  pub shape : length t.entries ≡ IDS
  pub since : t.request.0 ≤ x

pub in_force_sound : (h : History) → Valid h → (x : ℕ) → InForce (in_force h x) x
unfolding in_force
in_force_sound [] v x = record { sound = sound_from empty_timetable empty_sound; shape = length-replicate IDS no_entry; since = omega arith }
in_force_sound (t ∷ h) v x = at (dec_lt x t.request.0) (in_force_sound h v.1 x)
  where
    at : Dec (x < t.request.0) → InForce (in_force h x) x → InForce (cond (leb t.request.0 x) t (in_force h x)) x
    at (yes l) k = rw (lt-leb t.request.0 x l) k
    at (no l) k =
        let m : t.request.0 ≤ x = omega arith in
        rw (le-leb t.request.0 x m) (record { sound = v.0.sound; shape = v.0.shape; since = m })

-- So is the last accepted one from its request slot on.
pub present_sound : (h : History) → Valid h → InForce (present h) (present h).request.0
present_sound h v =
    let x : ℕ = (present h).request.0 in
    subst (λ (t : Timetable). InForce t x) (present_in_force h x (omega arith)) (in_force_sound h v x)

-- ---- an id that is not listed has no slot

pub absent_serves : (t : Timetable) → Sound t → (x i : ℕ) → t.request.0 ≤ x → lists t i ≡ false → serves t (core_slot x) i ≡ false
absent_serves t s x i l u = at (dec_lt x t.base.0)
  where
    owner : (b : Bool) → eqb i (get_or t.owners (x - t.request.0) 0) ≡ b → x < t.base.0 → b ≡ false
    owner true e h =
        let m = s.owners (x - t.request.0) (omega (arith, s.base)) in
        absurd (true_false m (ap (λ (j : ℕ). is_listed (entry_of t.entries j)) (sym (eqb-true i _ e)) ∙ u))
    owner false e h = refl

    cycle : (b : Bool) → cyclic (entry_of t.entries i) (x - t.base.0) ≡ b → b ≡ false
    cycle true e = absurd (true_false (cyclic_listed (entry_of t.entries i) (x - t.base.0) e) u)
    cycle false e = refl

    at : Dec (x < t.base.0) → serves t (core_slot x) i ≡ false
    at (yes h) = serves_before t x i h ∙ owner (eqb i (get_or t.owners (x - t.request.0) 0)) refl h
    at (no h) = serves_from t x i (omega arith) ∙ cycle (cyclic (entry_of t.entries i) (x - t.base.0)) refl

-- An id with a weight is listed.
pub weight_lists : (t : Timetable) → length t.entries ≡ IDS → (i : ℕ) → 0 < weight (entry_of t.entries i) → (i < IDS) × (lists t i ≡ true)
unfolding weight_of
weight_lists t s i w = at (dec_lt i IDS) (ℕ_discrete (entry_of t.entries i).period 0)
  where
    at : Dec (i < IDS) → Dec ((entry_of t.entries i).period ≡ 0) → (i < IDS) × (lists t i ≡ true)
    at d (yes z) = absurd (omega (arith, w, ap weight_of z))
    at (yes k) (no z) = (k, lt-ltb 0 (entry_of t.entries i).period (omega arith))
    at (no k) (no z) =
        absurd (z (ap (λ (e : Entry). e.period) (get_or-eq_default t.entries no_entry {n = i} (omega (arith, s)))))

-- And one without is not.
pub no_weight_absent : (t : Timetable) → Sound t → (i : ℕ) → i < IDS → weight (entry_of t.entries i) ≡ 0 → lists t i ≡ false
no_weight_absent t s i k z = at (lists t i) refl
  where
    at : (b : Bool) → lists t i ≡ b → b ≡ false
    at true l =
        let r = s.ranged.listed i k l in
        absurd (omega (arith, z, weight_pos (entry_of t.entries i) (period_whole _ r.period) r.inside))
    at false l = refl
