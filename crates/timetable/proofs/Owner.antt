-- No slot serves two, so the owner of a slot is the one id that it serves. Assumes nothing.
use borrow.Author.Tests.{lt-ltb, le-ltb, eq-eqb, ne_eqb, eqb-true}
use lib.Dec.{eqb}
use lib.ListN.{get_or}
use mathlib.Core.Bool.{Bool, true, false}
use mathlib.Core.Option.{Option, none, some}
use mathlib.Core.Path.{◌≡◌, refl, sym, ap, ◌∙◌}
use native.Mathlib.Decide.{ℕ_discrete, dec_lt}
use native.Mathlib.Omega.{arith}
use Prim.Native.Nat.{ℕ, ◌-◌, ◌≤◌, ◌<◌}
use Rattle.slots.proofs.Below.{first_none, first_some, true_false}
use Rattle.slots.specs.Below.{first}
use Rattle.slots.specs.Clocks.{core_slot}
use Rattle.slots.specs.Limits.{IDS}
use Rattle.slots.specs.Slots.{is_owner}
use Rattle.timetable.proofs.Sound.{Apart}
use Rattle.timetable.specs.declared.Timetable.{Timetable}
use Rattle.timetable.specs.Timetable.{entry_of, cyclic, serves, owner_at}

-- Before the base a slot serves the owner that stands for it.
pub serves_before : (t : Timetable) (x i : ℕ) → x < t.base.0 → serves t (core_slot x) i ≡ eqb i (get_or t.owners (x - t.request.0) 0)
unfolding serves
serves_before t x i h = rw (lt-ltb x t.base.0 h)

-- From the base on it serves those of whom it is a cyclic slot.
pub serves_from : (t : Timetable) (x i : ℕ) → t.base.0 ≤ x → serves t (core_slot x) i ≡ cyclic (entry_of t.entries i) (x - t.base.0)
unfolding serves
serves_from t x i h = rw (le-ltb x t.base.0 h)

-- No slot serves two.
pub serves_one : (t : Timetable) → Apart t.entries → (x i j : ℕ) → i < IDS → j < IDS → serves t (core_slot x) i ≡ true → serves t (core_slot x) j ≡ true
    → i ≡ j
serves_one t a x i j ki kj p q = at (dec_lt x t.base.0) (ℕ_discrete i j)
  where
    at : Dec (x < t.base.0) → Dec (i ≡ j) → i ≡ j
    at d (yes e) = e
    at (yes h) (no e) =
        eqb-true _ _ (sym (serves_before t x i h) ∙ p) ∙ sym (eqb-true _ _ (sym (serves_before t x j h) ∙ q))
    at (no h) (no e) =
        let l : t.base.0 ≤ x = omega arith in
        absurd (a i j ki kj e (x - t.base.0) (sym (serves_from t x i l) ∙ p) (sym (serves_from t x j l) ∙ q))

-- The owner of a slot is i exactly if it serves i.
pub owner_serves : (t : Timetable) → Apart t.entries → (x i : ℕ) → i < IDS → is_owner i (owner_at t (core_slot x)) ≡ serves t (core_slot x) i
unfolding owner_at is_owner
owner_serves t a x i k = at (first IDS (serves t (core_slot x))) refl (serves t (core_slot x) i) refl
  where
    at : (o : Option ℕ) → first IDS (serves t (core_slot x)) ≡ o → (b : Bool) → serves t (core_slot x) i ≡ b → is_owner i o ≡ b
    at none e true s = absurd (true_false s (first_none (serves t (core_slot x)) IDS e i k))
    at none e false s = refl
    at (some j) e true s =
        let w = first_some (serves t (core_slot x)) IDS j e in
        eq-eqb i j (serves_one t a x i j k w.0 s w.1)
    at (some j) e false s =
        let w = first_some (serves t (core_slot x)) IDS j e in
        ne_eqb i j (λ z. true_false (ap (serves t (core_slot x)) z ∙ w.1) s)
