-- What the search for the most urgent id tells of all ids below a number. Assumes nothing.
use mathlib.Core.Bool.{Bool, true, false}
use mathlib.Core.List.{List}
use mathlib.Core.Logic.{◌≢◌}
use mathlib.Core.Option.{Option, none, some}
use mathlib.Core.Path.{◌≡◌, refl}
use native.Mathlib.Decide.{ℕ_discrete}
use native.Mathlib.Omega.{arith}
use Prim.Native.Nat.{ℕ, zero, suc}
use Rattle.slots.proofs.Below.{true_false}
use Rattle.timetable.specs.declared.Entry.{Entry}
use Rattle.timetable.specs.Timetable.{entry_of, is_listed}
use Rattle.transition.specs.Transition.{more_urgent, most_urgent}
use Rattle.transition.proofs.UrgentRule.{Told, told_none, told_kept, told_some}

module _ (es : List Entry) where
  -- The most urgent id below n, or that none below n is listed.
  pub told : (n : ℕ) → Told es n (most_urgent es n)
  unfolding most_urgent more_urgent
  told zero = λ i k. absurd (omega arith)
  told (suc n) = at (is_listed (entry_of es n)) refl (most_urgent es n) (told n)
    where
      at : (b : Bool) → is_listed (entry_of es n) ≡ b → (u : Option ℕ) → Told es n u
          → Told es (suc n) (elim b [ true ↦ more_urgent es n u | false ↦ u ])
      at true e none h = told_none es n e h
      at true e (some u) h = told_some es n u e h
      at false e none h = λ i k. not_here i (ℕ_discrete i n) (λ q. h i (omega arith))
        where
          not_here : (i : ℕ) → Dec (i ≡ n) → (i ≢ n → is_listed (entry_of es i) ≡ false) → is_listed (entry_of es i) ≡ false
          not_here i (yes z) f = rw z e
          not_here i (no z) f = f z
      at false e (some u) h = told_kept es n u (λ l. absurd (true_false l e)) h
