-- What the entry of an id that is not listed is, from its test to what it says and back. Assumes nothing.
use borrow.Author.Tests.{lt-ltb, eq-eqb, ltb-true, ltb-false, eqb-true}
use lib.Dec.{eqb, ltb}
use mathlib.Core.Bool.{true, false, ◌&&◌}
use mathlib.Core.Path.{◌≡◌, ap, ap₂}
use native.Mathlib.Omega.{arith}
use Prim.Native.Nat.{◌*◌, ◌<◌}
use Rattle.slots.proofs.Below.{and_both}
use Rattle.slots.specs.Limits.{WHOLE, LARGEST_BOUND}
use Rattle.slots.specs.Shortfall.{keeps}
use Rattle.timetable.specs.declared.Entry.{Entry}
use Rattle.timetable.specs.Sound.{entry_absent}
use Rattle.timetable.specs.Timetable.{absent_entry, is_listed}

-- An entry that is all zero but for a shortfall below 2,048.
pub record Absent (e : Entry) : Type 0 where
  pub zero : e ≡ absent_entry e.shortfall
  pub below : e.shortfall < WHOLE * LARGEST_BOUND

-- An entry that is not listed, from its test to what it says and back.
pub absent_from : (e : Entry) → is_listed e ≡ false → entry_absent e ≡ true → Absent e
unfolding entry_absent keeps
absent_from e l h =
    let a = and_both (eqb e.offset 0 && eqb e.bound 0) (ltb e.shortfall (WHOLE * LARGEST_BOUND)) h in
    let b = and_both (eqb e.offset 0) (eqb e.bound 0) a.0 in
    let p : e.period ≡ 0 = omega (arith, ltb-false 0 e.period l) in
    let o : e.offset ≡ 0 = eqb-true _ _ b.0 in
    let r : e.bound ≡ 0 = eqb-true _ _ b.1 in
    record {
      zero = λ i. record { period = p i; offset = o i; bound = r i; shortfall = e.shortfall };
      below = ltb-true _ _ a.1;
    }

-- And back.
pub absent_is : (e : Entry) → Absent e → entry_absent e ≡ true
unfolding entry_absent keeps
absent_is e a =
    ap₂ ◌&&◌
    (ap₂ ◌&&◌ (eq-eqb e.offset 0 (ap (λ (f : Entry). f.offset) a.zero)) (eq-eqb e.bound 0 (ap (λ (f : Entry). f.bound) a.zero)))
    (lt-ltb e.shortfall (WHOLE * LARGEST_BOUND) a.below)
