-- When two entries share a cyclic slot, from "some slot belongs to both". Assumes nothing.
use mathlib.Core.Bool.{true}
use mathlib.Core.Logic.{◌↔◌}
use mathlib.Core.Path.{◌≡◌, sym, ap, ◌∙◌}
use native.Mathlib.Nat.{mod-eq_of_lt, mod-mod_of_dvd}
use Prim.Native.Nat.{ℕ, ◌%◌, ◌<◌, ◌∣◌}
use Rattle.timetable.specs.declared.Entry.{Entry}
use Rattle.timetable.specs.Timetable.{cyclic}
use Rattle.timetable.proofs.Cycle.{cyclic_own, cyclic_residue}

-- Two classes of numbers, the one period a divisor of the other, meet exactly if the larger one's offset lies in the smaller's class.
pub classes_meet : (p o q r : ℕ) → r < q → p ∣ q → ((n : ℕ) × (n % p ≡ o) × (n % q ≡ r)) ↔ (r % p ≡ o)
classes_meet p o q r rq pq = (
  (λ w. ap (λ (x : ℕ). x % p) (sym w.2) ∙ mod-mod_of_dvd p w.0 pq ∙ w.1),
  (λ h. (r, h, mod-eq_of_lt rq)),
)

-- Two listed entries share a cyclic slot exactly if the offset of the larger period lies in the smaller's class.
pub entries_meet : (e f : Entry) → e.offset < e.period → f.offset < f.period → e.period ∣ f.period
    → ((n : ℕ) × (cyclic e n ≡ true) × (cyclic f n ≡ true)) ↔ (f.offset % e.period ≡ e.offset)
entries_meet e f ei fi d =
    let k = classes_meet e.period e.offset f.period f.offset fi d in (
      (λ w. k.0 (w.0, cyclic_residue e w.0 w.1, cyclic_residue f w.0 w.2)),
      (λ h. let w = k.1 h in (w.0, cyclic_own e ei w.0 w.1, cyclic_own f fi w.0 w.2)),
    )
